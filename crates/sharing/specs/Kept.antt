-- What a call leaves of a draw or a rule.
use Rattle.std.specs.Prelude.{◌≡◌}

-- A sound value stays sound, and means what it meant.
pub record Kept {S M : Type 0} (sound : S → Type 0) (means : S → M) (entry exit : S) : Type 0 where
  pub stays : sound entry → sound exit
  pub same : sound entry → means exit ≡ means entry
