use Rattle.std.proofs.lemmas.Result.{err_from_is_err_and}
use Rattle.replay.proofs.Joined.{over_long}
use Rattle.replay.proofs.whole.open.Goals as goal

pub returns-in_err-open : goal.returns-in_err-open
returns-in_err-open c =
    let p = err_from_is_err_and c.from_residual.result c.from_residual.ensures.1 in
    let h = c.in_err-open.ensures in
    rw (p.1, p.2) (over_long _ _ h.0 h.1)
