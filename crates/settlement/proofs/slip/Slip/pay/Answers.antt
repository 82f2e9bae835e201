use Rattle.std.proofs.Common.{sym, subst}
use Rattle.settlement.specs.declared.receipt.Receipt.{Receipt}
use Rattle.settlement.specs.Receipts.{receipt_of, NoLess}
use Rattle.settlement.proofs.Costs.{later}
use Rattle.settlement.proofs.slip.Slip.pay.Goals as goal

pub returns-clause-later : goal.returns-clause-later
returns-clause-later c = λ u le. subst (λ (r : Receipt). NoLess r (receipt_of c.args.self u)) (sym c.receipt_at.ensures) (later c.args.self c.args.time u le)
