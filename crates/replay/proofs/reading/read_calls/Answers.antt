use Rattle.std.proofs.Common.{◌<◌, length, take, ap, arith, rules}
use Rattle.replay.proofs.Loops.{far, one_call, stopped}
use Rattle.replay.proofs.Tags.{not_running}
use Rattle.replay.proofs.reading.read_calls.Goals as goal

pub loop-place-preserved : goal.loop-place-preserved
loop-place-preserved c =
    let found = c.in_ok-place.ensures.read in
    let on = far _ _ _ _ _ _ found c.in-Call.is c.loop-place.invariant.2 in
    let room : c.loop-place.count < length c.loop-place.calls =
    omega (arith, on, found.whole, ap length c.loop-place.invariant.0, c.requires.short, c.loop-place.invariant.1) in (
      search rules,
      search rules,
      on,
      λ t bs d base.
          one_call _ _ _ _ _ _ t bs d base c.loop-place.calls c.loop-place.count _ c.loop-place.invariant.0 found c.in-Call.is room
          (c.loop-place.invariant.3 t bs d base),
    )

pub returns-in_default : goal.returns-in_default
returns-in_default c = record {
  read = λ t bs d base.
      stopped _ _ _ _ _ _ _ _ c.loop-place.invariant.0 c.in_ok-place.ensures.read
      (not_running t bs d base (take c.loop-place.count c.loop-place.calls) _ c.in_default.not-Call c.in_default.not-Close) (c.loop-place.invariant.3 t bs d base);
  file = search rules;
  room = search rules;
}
