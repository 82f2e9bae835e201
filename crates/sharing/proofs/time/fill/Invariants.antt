use Rattle.std.proofs.Common.{◌≡◌, ◌++◌, take, drop}
use Rattle.sharing.specs.TimeOrder.{in_turn}
use Rattle.sharing.proofs.time.fill.Given as goal

abbrev pub invariant-loop-i : goal.invariant-loop-i
invariant-loop-i l = take l.i l.shares ++ in_turn (drop l.i l.claims) l.left ≡ in_turn l.claims l.initial.left
