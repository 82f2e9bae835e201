use Rattle.std.proofs.lemmas.Result.{err_from_is_err_and}
use Rattle.replay.proofs.Walk.{broke, next_or_end}
use Rattle.replay.proofs.reading.next.Goals as goal

pub returns-in_err-found-clause-read : goal.returns-in_err-found-clause-read
returns-in_err-found-clause-read c =
    let p = err_from_is_err_and c.from_residual.result c.from_residual.ensures.1 in
    rw (p.1, p.2) (λ s unfinished. broke _ _ _ _ s c.in_err-found.ensures.next)

pub returns-clause-read : goal.returns-clause-read
returns-clause-read c = rw c.ok_or.ensures.value (next_or_end _ _ _ _ c.in_ok-found.found c.in_ok-found.ensures.next c.place.ensures)
