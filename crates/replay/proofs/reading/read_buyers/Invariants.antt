use Rattle.std.proofs.Common.{◌≡◌, ◌-◌, [], length}
use Rattle.stages.specs.declared.terms.Terms.{Terms}
use Rattle.messages.specs.Reading.{file_of, next_place}
use Rattle.replay.specs.Files.{Leads}
use Rattle.replay.specs.Stages.Stage.{Filing}
use Rattle.replay.proofs.reading.read_buyers.Given as goal

abbrev pub invariant-loop-place : goal.invariant-loop-place
invariant-loop-place l =
    (file_of l.reader ≡ file_of l.initial.reader) ×
    ((t : Terms) → Leads (file_of l.initial.reader) (next_place l.initial.reader) (Filing t []) (next_place l.reader) (Filing t l.buyers.items))

abbrev pub decreases-loop-place : goal.decreases-loop-place
decreases-loop-place l = length (file_of l.reader) - next_place l.reader
