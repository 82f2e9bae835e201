-- Slips, and what becomes of them.
use Rattle.std.specs.Prelude.{◌≡◌, ℕ, ◌≤◌, true, false, cond, ◌==◌}
use Rattle.settlement.specs.declared.receipt.Receipt.{Receipt}
use Rattle.settlement.specs.declared.slip.Slip.{Slip}
use Rattle.settlement.specs.Charges.{charge_of, breach_of}

-- an unspent slip for a payment; for nothing where it is 0
abbrev pub slip_for : (payment bank : ℕ) → Slip
slip_for payment bank = record { payment = payment; bank_close = bank; spent = false }

-- a slip for nothing costs nothing and is no breach
abbrev pub nothing : Receipt
nothing = record { charge = 0; breach = false }

-- the receipt of a slip that is paid at a time
abbrev pub receipt_of : Slip → ℕ → Receipt
receipt_of s time =
    cond (s.payment == 0) nothing (record { charge = charge_of time; breach = breach_of time s.bank_close })

-- the receipt of a slip that is not paid: a breach, charged as at 86,399
abbrev pub default_of : Slip → Receipt
default_of s = cond (s.payment == 0) nothing (record { charge = charge_of 86399; breach = true })

-- the second costs no less than the first, and is no less of a breach
pub record NoLess (first second : Receipt) : Type 0 where
  pub charge : first.charge ≤ second.charge
  pub breach : first.breach ≡ true → second.breach ≡ true
