use Rattle.std.proofs.Common.{refl}
use Rattle.sharing.proofs.OwnRanks.{identity_distinct, identity_narrow}
use Rattle.sharing.proofs.recorded.RecordedDraw.identity.Goals as goal

pub invariant_of-result : goal.invariant_of-result
invariant_of-result c = record { long = refl; apart = identity_distinct; narrow = identity_narrow }

pub returns : goal.returns
returns c = refl
