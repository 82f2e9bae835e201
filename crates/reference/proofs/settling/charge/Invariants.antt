use Rattle.std.proofs.Common.{◌≤◌}
use Rattle.reference.proofs.settling.charge.Given as goal

abbrev pub invariant-loop-hours : goal.invariant-loop-hours
invariant-loop-hours l = l.charge ≤ 11000000
