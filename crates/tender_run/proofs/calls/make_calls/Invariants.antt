use Rattle.std.proofs.Common.{◌≡◌, ◌+◌, ◌≤◌, drop}
use Rattle.book.specs.Model.{model_of, space}
use Rattle.book.specs.Soundness.{Sound}
use Rattle.book.specs.Told.{tally}
use Rattle.tender_run.specs.Runs.{with_buyers, taken_of}
use Rattle.tender_run.proofs.calls.make_calls.Given as goal

abbrev pub invariant-loop-call : goal.invariant-loop-call
invariant-loop-call l =
    (space l.book ≡ space l.initial.book)
    × (l.book.list.items.ghost_name ≡ l.initial.book.list.items.ghost_name)
    × (l.accepted ≤ l.call-index)
    × (
    Sound (model_of l.initial.book) →
    Sound (model_of l.book)
    × (tally l.tender (space l.book) (model_of l.book) (with_buyers l.session.buyers.now (drop l.call-index l.call-items)) ≡ tally l.tender (space l.initial.book) (model_of l.initial.book) (with_buyers l.session.buyers.now l.call-items))
    × (l.accepted + taken_of l.tender (space l.book) l.session.buyers.now (model_of l.book) (drop l.call-index l.call-items) ≡ taken_of l.tender (space l.initial.book) l.session.buyers.now (model_of l.initial.book) l.call-items)
    )
