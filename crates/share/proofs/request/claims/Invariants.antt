use Rattle.std.proofs.Common.{◌≡◌, map, take, vec_items, string_bytes}
use Rattle.share.specs.Asked.{claims_of}
use Rattle.share.proofs.request.claims.Given as goal

abbrev pub invariant-loop-place : goal.invariant-loop-place
invariant-loop-place l = vec_items l.claims ≡ claims_of (take l.place (map string_bytes l.lots))
