use Rattle.std.proofs.Common.{◌≡◌, ◌≤◌, ◌++◌, take, drop, sum}
use Rattle.allotment_theory.specs.Receipts.{part}
use Rattle.allotment.specs.Rows.{rows_from, rows_of}
use Rattle.allotment.proofs.pay.write_rows.Given as goal

abbrev pub invariant-loop-i : goal.invariant-loop-i
invariant-loop-i l =
    (drop l.i l.rows ≡ drop l.i l.initial.rows)
    × (
    sum l.lots ≤ l.due →
    (l.before ≡ sum (take l.i l.lots))
    × (l.paid ≡ part l.receipts l.due l.before)
    × (take l.i l.rows ++ rows_from l.receipts l.due l.billed l.before (drop l.i l.lots) ≡ rows_of l.receipts l.due l.billed l.lots)
    )
