use Rattle.std.proofs.Common.{◌≡◌, length, take}
use Rattle.allotment.specs.Rows.{claims_of}
use Rattle.allotment.proofs.buyer_claims.as_claims.Given as goal

abbrev pub invariant-loop-i : goal.invariant-loop-i
invariant-loop-i l = (length l.claims.items ≡ l.i) × (l.claims.items ≡ claims_of (take l.i l.buyers))
