use Rattle.std.proofs.Common.{◌≡◌, ℕ, List, ◌++◌, take, Some, vec_items}
use Rattle.encode.specs.Files.{file_bytes}
use Rattle.encode.specs.Pieces.{told}
use Rattle.encode.proofs.encode.write_lines.Given as goal

abbrev pub invariant-loop-i : goal.invariant-loop-i
invariant-loop-i l =
    (bs : List ℕ) × (file_bytes (take l.i (told l.lines)) ≡ Some bs) × (vec_items l.out ≡ vec_items l.initial.out ++ bs)
