-- The frames that are known: the length that the values of each tag have.
use Rattle.std.specs.Prelude.{ℕ, cond, List, [], ◌∷◌, Some, None, Option, ◌==◌}
use Rattle.frames.specs.declared.layout.Layout.{Layout}

-- the length of a tag's values, by the first layout of that tag
abbrev pub length_in : List Layout → ℕ → Option ℕ
length_in [] tag = None
length_in (l ∷ ls) tag = cond (l.tag == tag) (Some l.length) (length_in ls tag)
