use Rattle.std.proofs.Common.{sym, subst}
use Rattle.replay.specs.Stages.{Step}
use Rattle.replay.specs.Stages.Stage.{Start, Filing}
use Rattle.replay.specs.Stages.Step.{terms}
use Rattle.replay.proofs.Tags.{not_terms}
use Rattle.replay.proofs.Walk.{misplaced, past}
use Rattle.replay.proofs.reading.read_terms.Goals as goal

pub returns-in_default : goal.returns-in_default
returns-in_default c = record {
  read = misplaced _ _ _ _ _ c.in_ok-placed.ensures.read (not_terms _ c.in_default.not-Terms);
  file = c.next.ensures.file;
}

pub returns-clause-read : goal.returns-clause-read
returns-clause-read c =
    let found = c.in_ok-placed.ensures.read in
    (past _ _ _ _ _ _ found (subst (λ m. Step Start m (Filing c.in-Terms.terms _)) (sym c.in-Terms.is) terms), found.whole)
