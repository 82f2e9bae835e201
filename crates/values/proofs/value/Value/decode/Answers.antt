use Rattle.std.proofs.Common.{arith}
use Rattle.values.proofs.value.Value.decode.Goals as goal

pub try_from-requires : goal.try_from-requires
try_from-requires g c = let narrow = g.met.Self.Value.narrow in omega (arith, narrow)
