use Rattle.replay.proofs.Tags.{not_base}
use Rattle.replay.proofs.Walk.{misplaced}
use Rattle.replay.proofs.reading.read_base.Goals as goal

pub returns-in_default : goal.returns-in_default
returns-in_default c = record {
  read = λ t bs d. misplaced _ _ _ _ _ c.in_ok-place.ensures.read (not_base t bs d _ c.in_default.not-Open);
  file = c.next.ensures.file;
}
