use Rattle.std.proofs.Common.{◌≡◌, true, map, take}
use Rattle.sharing.specs.Distinct.{distinct}
use Rattle.sharing.proofs.distinct.all_distinct.Given as goal

abbrev pub invariant-loop-i : goal.invariant-loop-i
invariant-loop-i g l = distinct (map g.T.Numbered.numbered (take l.i l.items)) ≡ true
