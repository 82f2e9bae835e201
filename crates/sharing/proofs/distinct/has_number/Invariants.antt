use Rattle.std.proofs.Common.{◌≡◌, false, map, take}
use Rattle.sharing.specs.Distinct.{among}
use Rattle.sharing.proofs.distinct.has_number.Given as goal

abbrev pub invariant-loop-item : goal.invariant-loop-item
invariant-loop-item g l = among l.number (map g.T.Numbered.numbered (take l.item-index l.items)) ≡ false
