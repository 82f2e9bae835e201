-- Lists in which no number stands twice.
use Rattle.std.specs.Prelude.{ℕ, Bool, true, not, ◌&&◌, List, [], ◌∷◌, ◌==◌}
use Rattle.std.specs.List.{list_any}

-- whether n stands in the list
abbrev pub among : ℕ → List ℕ → Bool
among n xs = list_any (λ x. n == x) xs

-- whether no number stands in the list twice
abbrev pub distinct : List ℕ → Bool
distinct [] = true
distinct (x ∷ xs) = not (among x xs) && distinct xs
