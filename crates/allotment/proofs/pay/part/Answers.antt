use Rattle.std.proofs.Common.{◌≡◌, ℕ, ◌*◌, ◌/◌, arith}
use Rattle.allotment_theory.proofs.Telescope.{part_split}
use Rattle.allotment.proofs.pay.part.Goals as goal

pub returns : goal.returns
returns c =
    let due = c.from-due.ensures in
    let lots = c.from-lots.ensures in
    let split = part_split c.args.receipts c.from-due.result c.from-lots.result (omega arith) in
    let same : ◌≡◌ {A = ℕ} (c.args.receipts * c.from-lots.result / c.from-due.result) (c.args.receipts * c.args.lots / c.args.due) = cc in
    omega arith
