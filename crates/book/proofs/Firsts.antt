-- The first offer that passes a test, and the list without it.
use Rattle.std.proofs.Common.{◌≡◌, ℕ, suc, ◌+◌, ◌≤◌, Bool, true, false, List, [], ◌∷◌, length, Some, None, sym, ap, ◌∙◌, subst, ⊎_elim, arith}
use Rattle.std.specs.List.{ContainsAt as Has, AllByRecursion}
use Rattle.std.proofs.ByRecursion.{all-has}
use Rattle.std.proofs.lemmas.Bool.{cases_Bool, cond_both, cond-true, cond-false}
use Rattle.ordered.specs.Behind.{InOrder}
use Rattle.book.specs.declared.offer.Offer.{Offer}
use Rattle.book.specs.Offers.{cheaper, first_that, without_first}
use Rattle.book.specs.Soundness.{Apart}

-- where none is found, none passes
pub none_passes : (test : Offer → Bool) (xs : List Offer) → first_that test xs ≡ None → AllByRecursion (λ o. test o ≡ false) xs
none_passes test [] e = tt
none_passes test (x ∷ xs) e =
    ⊎_elim
    (λ t. let here = cond-true (test x) (Some x) (first_that test xs) t in let z : ◌≡◌ {A = ℕ} 0 1 = cc in absurd (omega arith))
    (λ f. (f, none_passes test xs (sym (cond-false (test x) (Some x) (first_that test xs) f) ∙ e)))
    (cases_Bool (test x))

later : (x : Offer) (xs : List Offer) (o : Offer) → Has xs o → Has (x ∷ xs) o
later x xs o h = (suc h.0, omega (arith, h.1), λ d. h.2 d)

-- the offer that is found is in the list, and passes
pub one_passes : (test : Offer → Bool) (xs : List Offer) (o : Offer) → first_that test xs ≡ Some o → Has xs o × (test o ≡ true)
one_passes test [] o e = let z : ◌≡◌ {A = ℕ} 0 1 = cc in absurd (omega arith)
one_passes test (x ∷ xs) o e =
    ⊎_elim
    (λ t. let here = cond-true (test x) (Some x) (first_that test xs) t in let same : x ≡ o = cc in ((0, omega arith, λ d. same), cc))
    (λ f. let rest = one_passes test xs o (sym (cond-false (test x) (Some x) (first_that test xs) f) ∙ e) in
    (later x xs o rest.0, rest.1))
    (cases_Bool (test x))

module _ (test : Offer → Bool) where
  -- an offer taken out: what holds of each, the order, and the numbers stay
  pub all_without : (P : Offer → Type 0) (xs : List Offer) → AllByRecursion P xs → AllByRecursion P (without_first test xs)
  all_without P [] a = tt
  all_without P (x ∷ xs) a = cond_both (test x) xs (x ∷ without_first test xs) (AllByRecursion P) (λ _. a.1) (λ _. (a.0, all_without P xs a.1))

  pub in_order_without : (xs : List Offer) → InOrder cheaper xs → InOrder cheaper (without_first test xs)
  in_order_without [] r = tt
  in_order_without (x ∷ xs) r =
      cond_both (test x) xs (x ∷ without_first test xs) (InOrder cheaper) (λ _. r.1) (λ _. (all_without (λ z. cheaper x z ≡ true) xs r.0, in_order_without xs r.1))

  pub apart_without : (xs : List Offer) → Apart xs → Apart (without_first test xs)
  apart_without [] d = tt
  apart_without (x ∷ xs) d =
      cond_both (test x) xs (x ∷ without_first test xs) Apart (λ _. d.1) (λ _. (all_without (λ z. z.number ≡ x.number → ⊥) xs d.0, apart_without xs d.1))

  pub length_without : (xs : List Offer) → length (without_first test xs) ≤ length xs
  length_without [] = omega arith
  length_without (x ∷ xs) =
      let rest = length_without xs in
      cond_both (test x) xs (x ∷ without_first test xs) (λ zs. length zs ≤ length (x ∷ xs)) (λ _. omega arith) (λ _. omega arith)

  module _ (o : Offer) where
    -- without the one found the list is shorter by one
    pub shorter : (xs : List Offer) → first_that test xs ≡ Some o → length (without_first test xs) + 1 ≡ length xs
    shorter [] e = let z : ◌≡◌ {A = ℕ} 0 1 = cc in absurd (omega arith)
    shorter (x ∷ xs) e =
        ⊎_elim
        (λ t. let w = ap length (cond-true (test x) xs (x ∷ without_first test xs) t) in omega arith)
        (λ f. let w = ap length (cond-false (test x) xs (x ∷ without_first test xs) f) in
        let rest = shorter xs (sym (cond-false (test x) (Some x) (first_that test xs) f) ∙ e) in omega arith)
        (cases_Bool (test x))

    -- no other offer has the number of the one found
    pub others : (xs : List Offer) → first_that test xs ≡ Some o → Apart xs → AllByRecursion (λ x. x.number ≡ o.number → ⊥) (without_first test xs)
    others [] e d = tt
    others (x ∷ xs) e d =
        cond_both (test x) xs (x ∷ without_first test xs) (AllByRecursion (λ z. z.number ≡ o.number → ⊥))
        (λ t. let here = cond-true (test x) (Some x) (first_that test xs) t in let same : x ≡ o = cc in
        subst (λ (y : Offer). AllByRecursion (λ z. z.number ≡ y.number → ⊥) xs) same d.0)
        (λ f. let rest = sym (cond-false (test x) (Some x) (first_that test xs) f) ∙ e in
        ((λ n. all-has (λ z. z.number ≡ x.number → ⊥) xs o d.0 (one_passes test xs o rest).0 (sym n)), others xs rest d.1))
