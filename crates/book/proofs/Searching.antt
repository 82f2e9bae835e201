-- The first offer that passes a test, by its index.
use Rattle.std.proofs.Common.{◌≡◌, ℕ, suc, ◌+◌, ◌<◌, Bool, true, false, cond, not, eqb, ltb, List, [], ◌∷◌, length, get_or, Some, None, Option, sym, refl, ap, ◌∙◌, subst, ⊎_elim, arith, Bor, MatchOption}
use Rattle.std.specs.List.{AllByRecursion, ContainsAt as Has, position, position_or_len, remove}
use Rattle.std.specs.Option.{option_map}
use Rattle.std.proofs.lemmas.Bool.{cases_Bool, cond-true, cond-false, cond_both, eq-eqb, ltb-true, ltb-false}
use Rattle.std.proofs.lemmas.List.Folds.{find_at}
use Rattle.std.proofs.lemmas.Option.{slice_get-get_or, slice_get_past}
use Rattle.book.specs.declared.offer.Offer.{Offer}
use Rattle.book.specs.Model.{has_number, standing, without}
use Rattle.book.specs.Offers.{first_that, without_first}
use Rattle.book.proofs.Firsts.{none_passes, one_passes}

module _ (test : Offer → Bool) where
  removed : (x : Offer) (xs : List Offer) (i : ℕ) (b : Bool) → remove xs i ≡ without_first test xs → remove (x ∷ xs) (cond (not b) (1 + i) 0) ≡ cond b xs (x ∷ without_first test xs)
  removed x xs i true e = refl
  removed x xs i false e = let next : 1 + i ≡ suc i = omega arith in ap (remove (x ∷ xs)) next ∙ ap (λ (zs : List Offer). x ∷ zs) e

  -- the offers without the one at the index of the first that passes
  pub remove_first : (xs : List Offer) → remove xs (position_or_len test xs) ≡ without_first test xs
  remove_first [] = refl
  remove_first (x ∷ xs) = removed x xs (position_or_len test xs) (test x) (remove_first xs)

  -- the offer that a search answers is in the list and passes, or else none does
  pub found : (xs : List Offer) (r : Option (Bor Offer)) → option_map (λ (o : Bor Offer). o.now) r ≡ first_that test xs → MatchOption r (AllByRecursion (λ o. test o ≡ false) xs) (λ o. Has xs o.now × (test o.now ≡ true))
  found xs None e = none_passes test xs (sym e)
  found xs (Some o) e = one_passes test xs o.now (sym e)

-- on 512 records the standing offer with a number is the first that has it
pub stands_on_512 : (n : ℕ) (xs : List Offer) (number : ℕ) → n ≡ 512 → standing n xs number ≡ first_that (has_number number) xs
stands_on_512 n xs number e = ap (λ (b : Bool). cond b (first_that (has_number number) xs) None) (eq-eqb n 512 e)

-- the offer that stands is the first with its number
pub stands_first : (n : ℕ) (xs : List Offer) (number : ℕ) (o : Offer) → standing n xs number ≡ Some o → first_that (has_number number) xs ≡ Some o
stands_first n xs number o e =
    ⊎_elim
    (λ t. sym (cond-true (eqb n 512) (first_that (has_number number) xs) None t) ∙ e)
    (λ f. let none = cond-false (eqb n 512) (first_that (has_number number) xs) None f in let z : ◌≡◌ {A = ℕ} 0 1 = cc in absurd (omega arith))
    (cases_Bool (eqb n 512))

-- what the index of the first offer with a number tells of the one that stands
pub stands_at : (n : ℕ) (xs : List Offer) (number : ℕ) (d : Offer) (r : Option ℕ) → n ≡ 512 → r ≡ position (has_number number) xs → MatchOption r (standing n xs number ≡ None) (λ at. (standing n xs number ≡ Some (get_or xs at d)) × (at < length xs) × (remove xs at ≡ without number xs))
stands_at n xs number d r e p =
    let test = has_number number in
    let at = position_or_len test xs in
    let first = stands_on_512 n xs number e ∙ find_at test xs in
    let Says : Option ℕ → Type 0 = λ r. MatchOption r (standing n xs number ≡ None) (λ i. (standing n xs number ≡ Some (get_or xs i d)) × (i < length xs) × (remove xs i ≡ without number xs)) in
    subst Says (sym p)
    (cond_both (ltb at (length xs)) (Some at) None Says
    (λ t. let lt = ltb-true at (length xs) t in (first ∙ slice_get-get_or xs at d lt, lt, remove_first test xs))
    (λ f. first ∙ slice_get_past xs at (ltb-false at (length xs) f)))
