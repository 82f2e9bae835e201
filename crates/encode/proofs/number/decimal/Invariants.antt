use Rattle.std.proofs.Common.{◌≡◌, ◌≤◌, drop}
use Rattle.encode.specs.Numbers.{digits}
use Rattle.encode.proofs.number.decimal.Given as goal

abbrev pub invariant-loop-digit : goal.invariant-loop-digit
invariant-loop-digit l = (digits l.most 0 l.word ≡ digits l.most l.number (drop l.digit-index l.word)) × (l.number ≤ l.most)
