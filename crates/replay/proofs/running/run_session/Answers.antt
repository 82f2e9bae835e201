use Rattle.std.proofs.Common.{◌≡◌, Ok, ◌∙◌, ap, take}
use Rattle.replay.proofs.Mapped.{mapped_ok}
use Rattle.replay.proofs.Standing.{of_standing}
use Rattle.replay.proofs.running.run_session.Goals as goal

pub returns-clause-promise : goal.returns-clause-promise
returns-clause-promise g c = λ sound.
    let o = c.in_ok-outcome.outcome in
    let ran : c.run_by_kind.result ≡ Ok o = mapped_ok _ _ _ _ c.map_err.ensures.cases c.in_ok-outcome.was in
    let p = (rw ran at c.run_by_kind.ensures.promise) sound sound in
    let kept : c.truncate.new.self.items ≡ take o.standing c.run_by_kind.new.records = c.truncate.ensures.items ∙ ap (λ os. take o.standing os) c.from-offers.ensures.0 in
    record { promise = of_standing _ _ _ _ _ _ _ _ _ _ p kept; offers = kept ∙ p.standing }
