-- Totals as far as 64 bits can hold them.
use Rattle.std.proofs.Common.{◌≡◌, ℕ, ◌+◌, List, [], ◌∷◌, ap, ◌∙◌, arith}
use Rattle.std.specs.List.{fold, sum_by}
use Rattle.std.proofs.lemmas.List.Sums.{sum_by-cons}
use Rattle.book.specs.Offers.{capped}

module _ {X : Type 0} (f : X → ℕ) where
  -- one added to a total, as far as 64 bits can hold it
  abbrev pub more : ℕ → X → ℕ
  more all x = capped (all + f x)

  capped_from : (a : ℕ) (xs : List X) → fold more (capped a) xs ≡ capped (a + sum_by f xs)
  capped_from a [] = omega arith
  capped_from a (x ∷ xs) =
      let here : more (capped a) x ≡ capped (a + f x) = omega arith in
      let cons = sum_by-cons f x xs in
      ap (λ (all : ℕ). fold more all xs) here ∙ capped_from (a + f x) xs ∙ ap capped (omega arith)

  -- a total that is capped at each step is the capped total
  pub capped_total : (xs : List X) → fold more 0 xs ≡ capped (sum_by f xs)
  capped_total xs = capped_from 0 xs ∙ ap capped (omega arith)
