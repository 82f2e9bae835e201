use Rattle.std.proofs.Common.{◌≡◌, ◌++◌, length, take, string_bytes}
use Rattle.lines.specs.Statement.{buyer_lines}
use Rattle.lines.proofs.statements.push_buyers.Given as goal

abbrev pub invariant-loop-buyer : goal.invariant-loop-buyer
invariant-loop-buyer l = string_bytes l.text ≡ string_bytes l.initial.text ++ buyer_lines (take (length l.yielded) l.buyers) (take (length l.yielded) l.rows)
