use Rattle.lines.proofs.Answering.{book_a_line}
use Rattle.lines.proofs.log.line.Goals as goal

pub returns-clause-worked : goal.returns-clause-worked
returns-clause-worked c = book_a_line
