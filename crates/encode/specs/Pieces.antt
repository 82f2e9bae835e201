-- A text as lines, and a line as words.
use Rattle.std.specs.Prelude.{ℕ, not, List, [], length, map, vec_items, Vec, ◌==◌, slice_index_or}
use Rattle.std.specs.List.{filter, slice_split}
use Rattle.std.specs.Borrow.{Bor}
use Rattle.std.specs.declared.alloc.Global.{Global}

-- what references to texts hold
abbrev pub told : List (Bor (List ℕ)) → List (List ℕ)
told refs = map (λ r. r.now) refs

abbrev pub texts : Vec (Bor (List ℕ)) Global → List (List ℕ)
texts v = told (vec_items v)

-- the text at a place, empty past the last
abbrev pub text_at : List (List ℕ) → ℕ → List ℕ
text_at ts i = slice_index_or ts i []

-- the lines of a text, which byte 10 separates
abbrev pub lines_of : List ℕ → List (List ℕ)
lines_of text = slice_split (λ c. c == 10) text

-- the words of a line: what spaces separate, and is not empty
abbrev pub words_of : List ℕ → List (List ℕ)
words_of line = filter (λ word. not (length word == 0)) (slice_split (λ c. c == 32) line)
