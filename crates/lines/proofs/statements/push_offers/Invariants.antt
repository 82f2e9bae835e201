use Rattle.std.proofs.Common.{◌≡◌, ◌++◌, take, string_bytes}
use Rattle.lines.specs.Statement.{offer_lines}
use Rattle.lines.proofs.statements.push_offers.Given as goal

abbrev pub invariant-loop-offer : goal.invariant-loop-offer
invariant-loop-offer l = string_bytes l.text ≡ string_bytes l.initial.text ++ offer_lines l.fills (take l.offer-index l.offers)
