use Rattle.std.proofs.Common.{◌∙◌}
use Rattle.sharing.proofs.Codes.{stands_on_own}
use Rattle.sharing.proofs.recorded.RecordedDraw.new.Goals as goal

pub returns-in-Err : goal.returns-in-Err
returns-in-Err c = c.identity.ensures ∙ stands_on_own c.args.ranks.now c.in-Err.field-0 c.in-Err.ensures
