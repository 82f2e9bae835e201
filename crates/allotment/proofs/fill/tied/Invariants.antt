use Rattle.std.proofs.Common.{◌≡◌, ◌≤◌, length, take}
use Rattle.allotment_theory.specs.Fills.{tied}
use Rattle.allotment.proofs.fill.tied.Given as goal

abbrev pub invariant-loop-offer : goal.invariant-loop-offer
invariant-loop-offer l = (length l.claims.items ≤ l.offer-index) × (l.claims.items ≡ tied l.price (take l.offer-index l.offer-items))
