-- A program that prints the answer of its file concludes.
use Rattle.std.proofs.Common.{ℕ, List, Ok, Err, Result}
use Rattle.replay.specs.declared.report.Report.{Report}
use Rattle.lines.specs.declared.answers.Answer.{Answer}
use Rattle.lines.specs.Answer.{Answered}
use Rattle.command.specs.declared.failure.Failure.{Failure}
use Rattle.command.specs.declared.failure.Failure.TheVariants.{Usage, Fault, Memory, Io}
use Rattle.command.specs.Ending.{Concludes, Ends}

pub concluded : (text_of : Report → List ℕ) (file : List ℕ) (a : Answer) (r : Result (Unit {0}) Failure) → Answered text_of file a → Ends a r → Concludes text_of file r
concluded text_of file a (Ok u) answers ends = (a, answers, ends)
concluded text_of file a (Err Usage) answers ends = ends
concluded text_of file a (Err Fault) answers ends = (a, answers, ends)
concluded text_of file a (Err Memory) answers ends = tt
concluded text_of file a (Err (Io e)) answers ends = tt
