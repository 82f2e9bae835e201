-- Totals that are counted in 64 bits.
use Rattle.std.proofs.Common.{◌≡◌, ℕ, ◌+◌, Bool, true, false, cond, List, [], ◌∷◌, filter, sum_by, fold, refl, ap, ◌∙◌, arith}
use Rattle.std.proofs.lemmas.List.Sums.{sum_by-cons}
use Rattle.book.specs.Offers.{capped}

-- a count that stays at the largest number once it is there is the total, as 64 bits can hold it; and so where each part is
-- held so first
pub capped_fold :
    {X : Type 0} (f g : X → ℕ) → ((x : X) → capped (g x) ≡ capped (f x)) →
    (xs : List X) (n all : ℕ) → all ≡ capped n → fold (λ a x. capped (a + g x)) all xs ≡ capped (n + sum_by f xs)
capped_fold f g same [] n all is = omega arith
capped_fold f g same (x ∷ xs) n all is =
    let here = same x in
    let more : capped (all + g x) ≡ capped (n + f x) = omega arith in
    capped_fold f g same xs (n + f x) (capped (all + g x)) more ∙ ap capped (omega (arith, sum_by-cons f x xs))

-- what passes a test comes to what all come to, where nothing is counted of the others
module _ {X : Type 0} (test : X → Bool) (f : X → ℕ) where
  pick : (b : Bool) (x : X) (xs : List X) → sum_by f (cond b (x ∷ xs) xs) ≡ cond b (f x) 0 + sum_by f xs
  pick true x xs = sum_by-cons f x xs
  pick false x xs = omega arith

  pub passing : (xs : List X) → sum_by f (filter test xs) ≡ sum_by (λ x. cond (test x) (f x) 0) xs
  passing [] = refl
  passing (x ∷ xs) =
      let rest = passing xs in
      pick (test x) x (filter test xs) ∙ omega (arith, sum_by-cons (λ (y : X). cond (test y) (f y) 0) x xs)
