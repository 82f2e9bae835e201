-- A pass through an ordered list finds the marginal price.
use Rattle.std.proofs.Common.{◌≡◌, ℕ, ◌+◌, ◌-◌, ◌<◌, ◌≤◌, Bool, true, false, cond, eqb, leb, ◌⊎◌, List, [], ◌∷◌, Some, None, refl, ap, ◌∙◌, ⊎_elim, arith}
use Rattle.std.specs.List.{AllByRecursion}
use Rattle.std.proofs.lemmas.List.Sums.{sum_by-cons}
use Rattle.std.proofs.lemmas.Bool.{cases_lt, cases_Bool, leb-true, leb-false, ne_eqb}
use Rattle.std.proofs.lemmas.Bool.Decides.{nat_tests}
use Rattle.ordered.specs.Behind.{InOrder}
use Rattle.book.specs.declared.offer.Offer.{Offer}
use Rattle.book.specs.Offers.{cheaper, supplied}
use Rattle.allotment_theory.specs.Offered.{up_to, Marginal, reaching}
use Rattle.allotment_theory.specs.Theorems.{PassFinds, PassEnds}

abbrev at_most : ℕ → Offer → ℕ
at_most q o = cond (leb o.price q) o.lots 0

-- an offer's lots count up to a price, or not
pub counts : (q : ℕ) (o : Offer) → ((o.price ≤ q) × (at_most q o ≡ o.lots)) ⊎ ((q < o.price) × (at_most q o ≡ 0))
counts q o = grind (arith, nat_tests)

pub up_to_cons : (q : ℕ) (o : Offer) (os : List Offer) → up_to q (o ∷ os) ≡ at_most q o + up_to q os
up_to_cons q o os = sum_by-cons (at_most q) o os

-- below each price nothing is offered
none : (q : ℕ) (o : Offer) (os : List Offer) → AllByRecursion (λ x. cheaper o x ≡ true) os → q < o.price → up_to q os ≡ 0
none q o [] a lt = refl
none q o (x ∷ xs) a lt =
    let le = leb-true o.price x.price a.0 in
    let here : at_most q x ≡ 0 = grind (arith, nat_tests) in
    omega (arith, up_to_cons q x xs, none q o xs a.1 lt)

found : (due : ℕ) (os : List Offer) → InOrder cheaper os → 0 < due → (p : ℕ) → reaching due os ≡ Some p → Marginal os due p
found due [] ord pos p e = absurd (let z : ◌≡◌ {A = ℕ} 0 1 = cc in omega arith)
found due (o ∷ os) ord pos p e =
    ⊎_elim
    (λ (t : leb due o.lots ≡ true).
    let le = leb-true due o.lots t in
    let is : o.price ≡ p = grind (arith, t, e) in
    record {
      reached = let own : at_most p o ≡ o.lots = grind (arith, nat_tests) in omega (arith, up_to_cons p o os);
      least = λ q lt. let own : at_most q o ≡ 0 = grind (arith, nat_tests) in omega (arith, up_to_cons q o os, none q o os ord.0 (omega arith));
    })
    (λ (t : leb due o.lots ≡ false).
    let gt = leb-false due o.lots t in
    let on : reaching (due - o.lots) os ≡ Some p = grind (arith, t, e) in
    let ih = found (due - o.lots) os ord.1 (omega arith) p on in
    let le : o.price ≤ p = ⊎_elim (λ (lt : p < o.price). absurd (omega (arith, ih.reached, none p o os ord.0 lt))) (λ (h : o.price ≤ p). h) (cases_lt p o.price) in
    record {
      reached = let own : at_most p o ≡ o.lots = grind (arith, nat_tests) in omega (arith, up_to_cons p o os, ih.reached);
      least = λ q lt. let own : at_most q o ≤ o.lots = grind (arith, nat_tests) in omega (arith, up_to_cons q o os, ih.least q lt);
    })
    (cases_Bool (leb due o.lots))

pub pass_finds : PassFinds
pass_finds os due p ord e =
    ⊎_elim
    (λ (t : eqb due 0 ≡ true). absurd (let z : ◌≡◌ {A = ℕ} 0 1 = grind (arith, t, e) in omega arith))
    (λ (t : eqb due 0 ≡ false). found due os ord (grind (arith, nat_tests)) p (grind (arith, t, e)))
    (cases_Bool (eqb due 0))

reaches : (due : ℕ) (os : List Offer) → 0 < due → due ≤ supplied os → (p : ℕ) × (reaching due os ≡ Some p)
reaches due [] pos le = absurd (omega arith)
reaches due (o ∷ os) pos le =
    ⊎_elim
    (λ (t : leb due o.lots ≡ true). (o.price, grind (arith, t)))
    (λ (t : leb due o.lots ≡ false).
    let gt = leb-false due o.lots t in
    let rest = reaches (due - o.lots) os (omega arith) (omega (arith, sum_by-cons (λ (x : Offer). x.lots) o os)) in
    (rest.0, grind (arith, t, rest.1)))
    (cases_Bool (leb due o.lots))

pub pass_ends : PassEnds
pass_ends os due pos le =
    let r = reaches due os pos le in
    (r.0, ap (λ (b : Bool). cond b None (reaching due os)) (ne_eqb due 0 (λ e. omega arith)) ∙ r.1)
