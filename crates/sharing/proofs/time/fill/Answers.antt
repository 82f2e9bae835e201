use Rattle.std.proofs.Common.{sym, ◌∙◌, arith}
use Rattle.sharing.proofs.Filling.{step, done}
use Rattle.sharing.proofs.time.fill.Goals as goal

pub loop-i-preserved : goal.loop-i-preserved
loop-i-preserved c =
    step c.args.claims.now c.loop-i.shares c.loop-i.i c.loop-i.left c.min-part.result
    (omega arith) c.loop-i-test.true c.min-part.ensures
    ∙ c.loop-i.invariant

pub returns : goal.returns
returns c =
    sym (done c.args.claims.now c.loop-i.shares c.loop-i.i c.loop-i.left (omega arith) c.loop-i-test.false)
    ∙ c.loop-i.invariant
