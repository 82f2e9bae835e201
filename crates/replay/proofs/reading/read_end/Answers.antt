use Rattle.std.proofs.Common.{refl}
use Rattle.std.proofs.lemmas.Result.{err_from_is_err_and}
use Rattle.replay.proofs.Walk.{broke, misplaced, found_one}
use Rattle.replay.proofs.reading.read_end.Goals as goal

pub returns-in_err-placed : goal.returns-in_err-placed
returns-in_err-placed c =
    let p = err_from_is_err_and c.from_residual.result c.from_residual.ensures.1 in
    rw (p.1, p.2) (record { read = λ s. broke _ _ _ _ _ c.in_err-placed.ensures.next })

pub returns-in-Some : goal.returns-in-Some
returns-in-Some c = record {
  read = λ s. misplaced _ _ _ _ _ (found_one _ _ _ _ _ c.in_ok-placed.ensures.next c.in-Some.is) refl;
}
