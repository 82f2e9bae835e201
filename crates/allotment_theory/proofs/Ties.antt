-- The offers at a price are claims that a rule can share among.
use Rattle.std.proofs.Common.{◌≡◌, ℕ, ◌<◌, ◌≤◌, Bool, true, false, not, ◌&&◌, ◌||◌, eqb, leb, List, [], ◌∷◌, map, length, filter, sym, refl, ap, ◌∙◌, arith}
use Rattle.std.specs.List.{AllByRecursion}
use Rattle.std.proofs.ByRecursion.{all_kept_by}
use Rattle.std.proofs.lemmas.List.{length-map}
use Rattle.std.proofs.lemmas.List.Sums.{length-filter, count_by-le-length}
use Rattle.std.proofs.lemmas.Bool.{and_from, cond_both, le-leb, ne_eqb}
use Rattle.sharing.specs.declared.claim.Claim.{Claim}
use Rattle.sharing.specs.Claims.{within_limits, all_within_limits}
use Rattle.sharing.specs.Distinct.{among, distinct}
use Rattle.book.specs.declared.offer.Offer.{Offer}
use Rattle.book.specs.Model.{Model}
use Rattle.book.specs.Soundness.{Sound, Apart}
use Rattle.allotment_theory.specs.Offered.{Standing, Single}
use Rattle.allotment_theory.specs.Fills.{tied, claim_of}
use Rattle.allotment_theory.specs.Theorems.{TiesAdmissible}

-- the offers of a sound book
singles : (n : ℕ) (os : List Offer) → n ≤ 512 → AllByRecursion (λ o. o.number < n) os → AllByRecursion (λ o. (1 ≤ o.price) × (o.price ≤ 920000)) os → AllByRecursion (λ o. (1 ≤ o.lots) × (o.lots ≤ 1000000)) os → AllByRecursion Single os
singles n [] le a b c = tt
singles n (o ∷ os) le a b c = ((omega (arith, a.0), b.0.0, b.0.1, c.0.0, c.0.1), singles n os le a.1 b.1 c.1)

pub standing : (m : Model) → Sound m → Standing m.list
standing m s = record {
  few = omega (arith, s.few, s.accepted);
  order = s.ordered;
  each = singles m.count m.list s.accepted s.numbered s.prices s.lots;
  apart = s.apart;
}

module _ (test : Offer → Bool) where
  apart_kept : (os : List Offer) → Apart os → Apart (filter test os)
  apart_kept [] a = tt
  apart_kept (o ∷ os) a =
      cond_both (test o) (o ∷ filter test os) (filter test os) Apart
      (λ _. (all_kept_by test (λ (x : Offer). x.number ≡ o.number → ⊥) os a.0, apart_kept os a.1))
      (λ _. apart_kept os a.1)

abbrev numbers : List Offer → List ℕ
numbers os = map (λ (c : Claim). c.number) (map claim_of os)

-- a number that none of the offers has is not among theirs
absent : (n : ℕ) (os : List Offer) → AllByRecursion (λ x. x.number ≡ n → ⊥) os → among n (numbers os) ≡ false
absent n [] a = refl
absent n (o ∷ os) a = ap (λ (b : Bool). b || among n (numbers os)) (ne_eqb n o.number (λ e. a.0 (sym e))) ∙ absent n os a.1

all_distinct : (os : List Offer) → Apart os → distinct (numbers os) ≡ true
all_distinct [] a = refl
all_distinct (o ∷ os) a = ap (λ (b : Bool). not b && distinct (numbers os)) (absent o.number os a.0) ∙ all_distinct os a.1

within : (o : Offer) → Single o → within_limits (claim_of o) ≡ true
within o s =
    and_from (leb o.number 511) (leb 1 o.lots && leb o.lots 1000000) (le-leb o.number 511 s.0)
    (and_from (leb 1 o.lots) (leb o.lots 1000000) (le-leb 1 o.lots s.3) (le-leb o.lots 1000000 s.4))

all_within : (os : List Offer) → AllByRecursion Single os → all_within_limits (map claim_of os) ≡ true
all_within [] a = refl
all_within (o ∷ os) a = and_from (within_limits (claim_of o)) (all_within_limits (map claim_of os)) (within o a.0) (all_within os a.1)

pub ties_admissible : TiesAdmissible
ties_admissible os p s =
    let test : Offer → Bool = λ o. eqb o.price p in
    let ks = filter test os in
    let few : length (tied p os) ≤ 512 = omega (arith, length-map ks claim_of, length-filter test os, count_by-le-length test os, s.few) in
    and_from (leb (length (tied p os)) 512) (all_within_limits (tied p os) && distinct (numbers ks)) (le-leb (length (tied p os)) 512 few)
    (and_from (all_within_limits (tied p os)) (distinct (numbers ks)) (all_within ks (all_kept_by test Single os s.each)) (all_distinct ks (apart_kept test os s.apart)))
