use Rattle.std.proofs.lemmas.Result.{err_from_is_err_and}
use Rattle.replay.proofs.Ends.{ended_well, not_closed, not_ended}
use Rattle.replay.proofs.running.run_open.Goals as goal

pub returns-in_err-ran-clause-fault : goal.returns-in_err-ran-clause-fault
returns-in_err-ran-clause-fault g c =
    let p = err_from_is_err_and c.from_residual-in_err-ran.result c.from_residual-in_err-ran.ensures.1 in
    rw (p.1, p.2) (λ t d filed. not_closed _ _ t _ d _ _ _ _ _ _ _ (c.in_ok-ending.ensures.read.1 t _ d _) filed c.in_err-ran.ensures.fault)

pub returns-in_err-read_end-clause-fault : goal.returns-in_err-read_end-clause-fault
returns-in_err-read_end-clause-fault g c =
    let p = err_from_is_err_and c.from_residual-in_err-read_end.result c.from_residual-in_err-read_end.ensures.1 in
    rw (p.1, p.2) (λ t d filed.
    not_ended _ _ _ t _ d _ _ _ _ _ _ _ c.read_calls.ensures.file (c.in_ok-ending.ensures.read.1 t _ d _) filed c.in_ok-ran.ensures.closed
    c.in_err-read_end.ensures.read)

pub returns-clause-read : goal.returns-clause-read
returns-clause-read g c = λ sound. record {
  calls = _;
  closing = c.in_ok-ending.ending.closing;
  reads = λ t d filed.
      ended_well _ _ _ t _ d _ _ _ _ _ _ c.read_calls.ensures.file (c.in_ok-ending.ensures.read.1 t _ d _) filed c.in_ok-ran.ensures.closed
      c.in_ok-read_end.ensures.read;
  promised = c.in_ok-ran.ensures.promise sound;
}
