-- What every call leaves of a book.
use Rattle.std.specs.Prelude.{◌≡◌, OnErr, Result}
use Rattle.stages.specs.declared.refusal.Refusal.{Refusal}
use Rattle.book.specs.declared.book.Book.{Book}
use Rattle.book.specs.Model.{model_of, space}
use Rattle.book.specs.Soundness.{Sound}

pub record Kept {X : Type 0} (old new : Book) (answer : Result X Refusal) : Type 0 where
  -- a refused call leaves the book as it was
  pub unchanged : OnErr answer (new ≡ old)
  -- a sound book stays sound
  pub sound : Sound (model_of old) → Sound (model_of new)
  -- it stands over as many records, and over the same
  pub space : space new ≡ space old
  pub named : new.list.items.ghost_name ≡ old.list.items.ghost_name
