use Rattle.std.proofs.Common.{sym, ap, ◌∙◌, subst}
use Rattle.settlement.specs.declared.slip.Slip.{Slip}
use Rattle.settlement.specs.Bills.{NothingAgain}
use Rattle.settlement.proofs.Marks.{again}
use Rattle.settlement.proofs.Tenders.{general_bill}
use Rattle.settlement.proofs.billing.bill.Goals as goal

pub returns-clause-again : goal.returns-clause-again
returns-clause-again c = subst (NothingAgain c.args.index) (sym c.mark-payment.ensures.rows) (again c.args.rows.now c.args.index)

pub returns-clause-general : goal.returns-clause-general
returns-clause-general c = λ receipts of.
    ap (λ (s : Slip). s.payment) c.new.ensures
    ∙ c.mark-payment.ensures.answer
    ∙ general_bill receipts c.args.rows.now c.args.index of
