use Rattle.std.proofs.Common.{◌≡◌, drop}
use Rattle.allotment_theory.specs.Fills.{filled, scattered}
use Rattle.allotment.proofs.fill.write_fills.Given as goal

abbrev pub invariant-loop-offer : goal.invariant-loop-offer
invariant-loop-offer l =
    scattered (drop l.offer-index l.offer-items) (filled l.price (drop l.offer-index l.offer-items) l.shares.rest.now) l.fills
    ≡ scattered l.offer-items (filled l.price l.offer-items l.initial.shares.rest.now) l.initial.fills
