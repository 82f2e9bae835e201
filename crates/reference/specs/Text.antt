-- Text that is ended by byte 10.
use Rattle.std.specs.Prelude.{◌≡◌, ℕ, List, [], ◌∷◌, ◌++◌}

abbrev pub Ended : List ℕ → Type 0
Ended bytes = (before : List ℕ) × (bytes ≡ before ++ 10 ∷ [])
