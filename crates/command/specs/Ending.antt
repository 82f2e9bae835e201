-- How a program ends with its answer.
use Rattle.std.specs.Prelude.{ℕ, List, Ok, Err, Result}
use Rattle.replay.specs.declared.report.Report.{Report as Reported}
use Rattle.lines.specs.declared.answers.Answer.{Answer}
use Rattle.lines.specs.declared.answers.Answer.TheVariants as answer
use Rattle.lines.specs.Answer.{Answered}
use Rattle.command.specs.declared.failure.Failure.{Failure}
use Rattle.command.specs.declared.failure.Failure.TheVariants.{Usage, Fault, Memory, Io}

-- an answer that tells of a report, and one that tells of a fault
abbrev pub TellsOfReport : Answer → Type 0
TellsOfReport (answer.Report text) = Unit {0}
TellsOfReport (answer.Fault text) = ⊥

abbrev pub TellsOfFault : Answer → Type 0
TellsOfFault (answer.Report text) = ⊥
TellsOfFault (answer.Fault text) = Unit {0}

-- It ends well only with an answer that tells of a report, and by a fault only with one that tells of a fault. Else the answer could
-- not be printed.
abbrev pub Ends : Answer → Result (Unit {0}) Failure → Type 0
Ends a (Ok u) = TellsOfReport a
Ends a (Err Usage) = ⊥
Ends a (Err Fault) = TellsOfFault a
Ends a (Err Memory) = ⊥
Ends a (Err (Io e)) = Unit {0}

-- A program over a tender file ends well only where the text of a report of it was printed, and by a fault only where the line of the
-- fault was. Else memory was wanting, or the answer could not be printed.
abbrev pub Concludes : (Reported → List ℕ) → List ℕ → Result (Unit {0}) Failure → Type 0
Concludes text_of file (Ok u) = (a : Answer) × Answered text_of file a × TellsOfReport a
Concludes text_of file (Err Usage) = ⊥
Concludes text_of file (Err Fault) = (a : Answer) × Answered text_of file a × TellsOfFault a
Concludes text_of file (Err Memory) = Unit {0}
Concludes text_of file (Err (Io e)) = Unit {0}

-- The text of a report of some file was printed.
abbrev pub Printed : (Reported → List ℕ) → Type 0
Printed text_of = (file : List ℕ) × Concludes text_of file (Ok tt)
