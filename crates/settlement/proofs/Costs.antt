-- A later payment never costs less.
use Rattle.std.proofs.Common.{◌≡◌, ℕ, zero, suc, ◌+◌, ◌*◌, ◌≤◌, Bool, true, false, cond, eqb, ltb, arith}
use Rattle.std.proofs.lemmas.Bool.{ltb-true, lt-ltb}
use Rattle.std.proofs.lemmas.Bool.Decides.{nat_tests}
use Rattle.settlement.specs.declared.receipt.Receipt.{Receipt}
use Rattle.settlement.specs.declared.slip.Slip.{Slip}
use Rattle.settlement.specs.Charges.{counted, bank_counted, begun_of, charge_at}
use Rattle.settlement.specs.Receipts.{receipt_of, nothing, NoLess}

-- a later second counts as no earlier one
counted_up : (t u : ℕ) → t ≤ u → counted t ≤ counted u
counted_up t u le = grind (arith, nat_tests)

-- no fewer hours have begun later
one_up : (m s t : ℕ) → s ≤ t → cond (ltb m s) 1 0 ≤ cond (ltb m t) 1 0
one_up m s t le = grind (arith, nat_tests)

begun_up : (n s t : ℕ) → s ≤ t → begun_of n s ≤ begun_of n t
begun_up zero s t le = omega arith
begun_up (suc k) s t le = omega (arith, one_up (55800 + suc k * 3600) s t le, begun_up k s t le)

charge_up : (s t : ℕ) → s ≤ t → charge_at s ≤ charge_at t
charge_up s t le =
    let hours = begun_up 24 s t le in
    grind (arith, nat_tests)

breach_up : (bank s t : ℕ) → s ≤ t → ltb bank s ≡ true → ltb bank t ≡ true
breach_up bank s t le h = lt-ltb bank t (omega (arith, ltb-true bank s h))

same : (r : Receipt) → NoLess r r
same r = record { charge = omega arith; breach = λ h. h }

either : (b : Bool) (x y z : Receipt) → NoLess y z → NoLess (cond b x y) (cond b x z)
either true x y z h = same x
either false x y z h = h

pub later : (s : Slip) (t u : ℕ) → t ≤ u → NoLess (receipt_of s t) (receipt_of s u)
later s t u le =
    let up = counted_up t u le in
    either (eqb s.payment 0) nothing _ _
    (record { charge = charge_up (counted t) (counted u) up; breach = breach_up (bank_counted s.bank_close) (counted t) (counted u) up })
