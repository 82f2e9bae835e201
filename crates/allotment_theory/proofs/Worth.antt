-- The receipts of a row are the worth of its fills, and 64 bits hold them.
use Rattle.std.proofs.Common.{◌≡◌, ℕ, ◌+◌, ◌-◌, ◌*◌, ◌≤◌, eqb, leb, List, [], ◌∷◌, get_or, Some, None, sum, Option, refl, ap, ◌∙◌, mul_assoc, arith}
use Rattle.std.specs.List.{AllByRecursion}
use Rattle.std.proofs.lemmas.Nat.{mul-le}
use Rattle.std.proofs.ByRecursion.{All-weaker}
use Rattle.std.proofs.lemmas.List.Sums.{sum_by-cons}
use Rattle.std.proofs.lemmas.Bool.{cond_both}
use Rattle.stages.specs.declared.method.Method.{Method}
use Rattle.stages.specs.declared.method.Method.TheVariants.{OnePrice, AsOffered}
use Rattle.book.specs.declared.offer.Offer.{Offer}
use Rattle.allotment_theory.specs.Offered.{reaching, marginal_of, Single}
use Rattle.allotment_theory.specs.Fills.{gathered, worth}
use Rattle.allotment_theory.specs.Receipts.{paid_at, price_or_0}
use Rattle.allotment_theory.specs.Theorems.{ReceiptsWorth, ReceiptsFit}
use Rattle.allotment_theory.proofs.Whole.{worth_bounded}

pub receipts_worth : ReceiptsWorth
receipts_worth unit price [] row = refl
receipts_worth unit price (o ∷ os) row =
    sum_by-cons (λ (q : Offer). get_or row q.number 0 * unit * price q) o os
    ∙ ap (λ (n : ℕ). get_or row o.number 0 * unit * price o + n) (receipts_worth unit price os row)

-- the marginal price is one of the prices
low_price : (most : ℕ) (due : ℕ) (os : List Offer) → AllByRecursion (λ o. o.price ≤ most) os → price_or_0 (reaching due os) ≤ most
low_price most due [] a = omega arith
low_price most due (o ∷ os) a =
    cond_both (leb due o.lots) (Some o.price) (reaching (due - o.lots) os) (λ (p : Option ℕ). price_or_0 p ≤ most)
    (λ _. a.0)
    (λ _. low_price most (due - o.lots) os a.1)

low_marginal : (most : ℕ) (due : ℕ) (os : List Offer) → AllByRecursion (λ o. o.price ≤ most) os → price_or_0 (marginal_of due os) ≤ most
low_marginal most due os a =
    cond_both (eqb due 0) None (reaching due os) (λ (p : Option ℕ). price_or_0 p ≤ most) (λ _. omega arith) (λ _. low_price most due os a)

paid_low : (most : ℕ) (method : Method) (p : ℕ) → p ≤ most → (os : List Offer) → AllByRecursion (λ o. o.price ≤ most) os → AllByRecursion (λ o. paid_at method p o ≤ most) os
paid_low most OnePrice p le [] a = tt
paid_low most OnePrice p le (o ∷ os) a = (le, paid_low most OnePrice p le os a.1)
paid_low most AsOffered p le os a = a

pub receipts_fit : ReceiptsFit
receipts_fit shares os due unit method row sound filled small units =
    let low = All-weaker Single (λ (o : Offer). o.price ≤ 920000) (λ o x. x.2) os sound.each in
    let p = price_or_0 (marginal_of due os) in
    let f = paid_at method p in
    let paid = paid_low 920000 method p (low_marginal 920000 due os low) os low in
    let bound = worth_bounded unit 920000 f os (gathered os row) paid in
    let total = ap (λ (n : ℕ). n * (unit * 920000)) filled.fills.total in
    let most = mul-le due (unit * 920000) 1000000 (1000 * 920000) small (omega arith) in
    omega (arith, receipts_worth unit f os row)

-- nothing is worth nothing
pub nothing_worth : (unit : ℕ) (price : Offer → ℕ) (os : List Offer) (xs : List ℕ) → sum xs ≡ 0 → worth unit price os xs ≡ 0
nothing_worth unit price [] xs e = refl
nothing_worth unit price (o ∷ os) [] e = refl
nothing_worth unit price (o ∷ os) (x ∷ xs) e =
    let all = sum_by-cons (λ (n : ℕ). n) x xs in
    let none : x ≡ 0 = omega arith in
    let here = ap (λ (n : ℕ). n * unit * price o) none in
    omega (arith, mul_assoc 0 unit (price o), nothing_worth unit price os xs (omega arith))
