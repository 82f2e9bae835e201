-- A total that is capped at each step.
use Rattle.std.proofs.Common.{◌≡◌, ℕ, ◌+◌, List, [], ◌∷◌, fold, sum_by, ap, ◌∙◌, arith}
use Rattle.std.proofs.lemmas.List.Sums.{sum_by-cons}
use Rattle.sharing.specs.Totals.{capped}

from : {X : Type 0} (f : X → ℕ) (a : ℕ) (xs : List X) → fold (λ (all : ℕ) (x : X). capped (all + f x)) (capped a) xs ≡ capped (a + sum_by f xs)
from {X} f a [] = ap capped (omega arith)
from {X} f a (x ∷ xs) =
    let here : capped (capped a + f x) ≡ capped (a + f x) = omega arith in
    let all = sum_by-cons f x xs in
    ap (λ (n : ℕ). fold (λ (all : ℕ) (y : X). capped (all + f y)) n xs) here
    ∙ from f (a + f x) xs
    ∙ ap capped (omega arith)

-- the whole, capped once
pub capped_total : {X : Type 0} (f : X → ℕ) (xs : List X) → fold (λ (all : ℕ) (x : X). capped (all + f x)) 0 xs ≡ capped (sum_by f xs)
capped_total f xs = from f 0 xs ∙ ap capped (omega arith)
