use Rattle.std.proofs.Common.{refl, rules}
use Rattle.replay.proofs.Loops.{ninth, one_buyer, stopped}
use Rattle.replay.proofs.Tags.{not_filing}
use Rattle.replay.proofs.reading.read_buyers.Goals as goal

pub loop-place-preserved : goal.loop-place-preserved
loop-place-preserved c = (
  search rules,
  λ t. rw c.in-Ok.ensures.ok
      (one_buyer _ _ _ _ _ _ t _ _ c.loop-place.invariant.0 c.in_ok-place.ensures.read c.in-Buyer.is (c.in-Ok.ensures.variant.0 refl) (c.loop-place.invariant.1 t)),
)

pub returns-in_default-try_push-clause-read : goal.returns-in_default-try_push-clause-read
returns-in_default-try_push-clause-read c = λ t.
    stopped _ _ _ _ _ _ _ _ c.loop-place.invariant.0 c.in_ok-place.ensures.read
    (ninth t c.loop-place.buyers.items _ _ c.in-Buyer.is c.in_default-try_push.ensures.full) (c.loop-place.invariant.1 t)

pub returns-in_default : goal.returns-in_default
returns-in_default c = record {
  read = λ t.
      stopped _ _ _ _ _ _ _ _ c.loop-place.invariant.0 c.in_ok-place.ensures.read
      (not_filing t c.loop-place.buyers.items _ (λ x is. absurd (c.in_default.not-Buyer x is)) c.in_default.not-Draw) (c.loop-place.invariant.1 t);
  file = search rules;
}
