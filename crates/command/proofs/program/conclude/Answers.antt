use Rattle.command.proofs.Concluding.{concluded}
use Rattle.command.proofs.program.conclude.Goals as goal

pub returns : goal.returns
returns g c = concluded _ _ _ _ c.in_ok-answer.ensures c.print_answer.ensures
