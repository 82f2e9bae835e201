use Rattle.std.proofs.Common.{◌≡◌, ℕ, ◌+◌, ◌-◌, get_or, sym, ap, ◌∙◌, arith}
use Rattle.std.proofs.lemmas.List.Sums.{sum_by_more, sum_by-take-le}
use Rattle.allotment_theory.specs.Receipts.{part}
use Rattle.allotment_theory.proofs.Telescope.{part_le}
use Rattle.allotment.specs.declared.pay.BuyerRow.{BuyerRow}
use Rattle.allotment.proofs.Buyers.{step, below_kept}
use Rattle.allotment.proofs.pay.write_rows.Goals as goal

pub loop-i-preserved : goal.loop-i-preserved
loop-i-preserved c =
    let ls = c.args.lots.now in
    let i = c.loop-i.i in
    let r = c.args.receipts in
    let due = c.args.due in
    let l = get_or ls i 0 in
    let row : BuyerRow = record { lots = l; payment = c.saturating_sub.result; billed = c.args.billed } in (
      below_kept c.loop-i.rows c.args.rows.now i row c.loop-i.invariant.0,
      λ h.
          let was = c.loop-i.invariant.1 h in
          let before = c.loop-i.before in
          let more = sum_by_more (λ (n : ℕ). n) ls i 0 c.loop-i-test.true in
          let most = sum_by-take-le (λ (n : ℕ). n) ls (i + 1) in
          let on : c.saturating_add-before.result ≡ before + l = omega arith in
          let le = part_le r due (before + l) (omega arith) in
          let at = ap (part r due) on in
          let next : c.part-next.result ≡ part r due (before + l) = omega arith in
          let pay : c.saturating_sub.result ≡ part r due (before + l) - part r due before = omega (arith, was.1) in
          let put = step r due c.args.billed ls c.loop-i.rows i before row (omega arith) c.loop-i-test.true (ap (λ (n : ℕ). record { lots = l; payment = n; billed = c.args.billed }) pay) in
          let rest = was.2 in
          (omega (arith, was.0), next ∙ sym at, cc),
    )
