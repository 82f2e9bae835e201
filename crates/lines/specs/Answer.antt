-- The text that a tender file is answered by.
use Rattle.std.specs.Prelude.{◌≡◌, ℕ, List, Ok, Err, string_bytes}
use Rattle.faults.specs.declared.fault.ProgramFault.{ProgramFault}
use Rattle.replay.specs.declared.report.Report.{Report as Reported}
use Rattle.replay.specs.Running.{Replayed}
use Rattle.lines.specs.declared.answers.Answer.{Answer}
use Rattle.lines.specs.declared.answers.Answer.TheVariants.{Report, Fault}
use Rattle.lines.specs.Log.{fault_line_of}

-- the text of an answer
abbrev pub text_in : Answer → List ℕ
text_in (Report text) = string_bytes text
text_in (Fault text) = string_bytes text

-- The file is answered by the text of a report of it, or by the line of the fault that it comes to.
abbrev pub Answered : (Reported → List ℕ) → List ℕ → Answer → Type 0
Answered text_of file (Report text) = (r : Reported) × Replayed file (Ok r) × (string_bytes text ≡ text_of r)
Answered text_of file (Fault text) = (e : ProgramFault) × Replayed file (Err e) × (string_bytes text ≡ fault_line_of e)
