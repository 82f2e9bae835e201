use Rattle.std.proofs.Common.{length, ◌∙◌}
use Rattle.book.specs.Model.{model_of}
use Rattle.allotment_theory.proofs.Ties.{standing}
use Rattle.allotment.proofs.Promises.{keeps}
use Rattle.allotment.proofs.tender.allot_standing.Goals as goal

pub returns-clause-promise : goal.returns-clause-promise
returns-clause-promise g c = λ asked sound fair just.
    let b = c.args.book.now in
    let did = c.compute in
    keeps (g.S.SharingRule.shares_of c.args.rules.sellers.now) (g.B.SharingRule.shares_of c.args.rules.buyers.now)
    c.args.particulars (model_of b).list c.args.buyers.now (length c.args.fills.now) (length c.args.rows.now) did.result did.new.fills did.new.rows
    (g.met.S.SharingRule.lawful c.args.rules.sellers.now fair) (g.met.B.SharingRule.lawful c.args.rules.buyers.now just)
    (standing (model_of b) sound) asked did.auto.rows
    (did.ensures.computed fair just) (did.auto.fills ∙ asked.fills)
