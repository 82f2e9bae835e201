use Rattle.std.proofs.Common.{◌≡◌, drop}
use Rattle.allotment_theory.specs.Offered.{reaching}
use Rattle.allotment.proofs.price.marginal_price.Given as goal

abbrev pub invariant-loop-offer : goal.invariant-loop-offer
invariant-loop-offer l = reaching l.left (drop l.offer-index l.offer-items) ≡ reaching l.due l.offer-items
