use Rattle.std.proofs.Common.{◌≡◌, ℕ, ◌-◌, ◌*◌, ◌≤◌, List, [], length, take}
use Rattle.stages.specs.declared.terms.Buyer.{Buyer}
use Rattle.stages.specs.declared.terms.Terms.{Terms}
use Rattle.values.specs.declared.draw.DrawNumbers.{DrawNumbers}
use Rattle.messages.specs.Reading.{file_of, next_place}
use Rattle.replay.specs.Files.{Leads}
use Rattle.replay.specs.Stages.Stage.{Running}
use Rattle.replay.proofs.reading.read_calls.Given as goal

abbrev pub invariant-loop-place : goal.invariant-loop-place
invariant-loop-place l =
    (file_of l.reader ≡ file_of l.initial.reader) ×
    (length l.calls ≡ 5041) ×
    (13 * l.count ≤ next_place l.reader) ×
    ((t : Terms) (bs : List Buyer) (d : DrawNumbers) (base : ℕ) →
    Leads (file_of l.initial.reader) (next_place l.initial.reader) (Running t bs d base []) (next_place l.reader) (Running t bs d base (take l.count l.calls)))

abbrev pub decreases-loop-place : goal.decreases-loop-place
decreases-loop-place l = length (file_of l.reader) - next_place l.reader
