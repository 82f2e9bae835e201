-- What a draw is, and when one is refused.
use Rattle.std.specs.Prelude.{◌≡◌, ℕ, ◌+◌, ◌*◌, ◌%◌, ◌<◌, ◌≤◌, cond, ◌&&◌, List, length, ◌==◌, nat_le, slice_index}
use Rattle.std.specs.List.{range_with_len}
use Rattle.sharing.specs.Distinct.{distinct}

-- The law of a draw: no two numbers up to 511 have the same rank, and no rank is above 65535.
pub record Lawful (rank : ℕ → ℕ) : Type 0 where
  pub apart : (i j : ℕ) → i ≤ 511 → j ≤ 511 → rank i ≡ rank j → i ≡ j
  pub small : (i : ℕ) → i ≤ 511 → rank i ≤ 65535

-- The rank of a number, under a stride and a shift.
abbrev pub stridden : ℕ → ℕ → ℕ → ℕ
stridden stride shift number = (stride * number + shift) % 512

-- 0 where a stride and a shift make a draw, and 19 otherwise
abbrev pub stride_code : ℕ → ℕ → ℕ
stride_code stride shift = cond (stride % 2 == 1 && (nat_le stride 511 && nat_le shift 511)) 0 19

-- 0 where a draw can stand on the ranks; 17 where they are not 512, 18 where two are equal
abbrev pub ranks_code : List ℕ → ℕ
ranks_code ranks = cond (length ranks == 512) (cond (distinct ranks) 0 18) 17

-- each rank has 16 bits
abbrev pub Narrow : List ℕ → Type 0
Narrow ranks = (i : ℕ) → i < length ranks → slice_index ranks i ≤ 65535

-- The ranks that a recorded draw stands on: those handed over, or, where they are refused, each number as its own rank.
abbrev pub standing : List ℕ → List ℕ
standing ranks = cond (ranks_code ranks == 0) ranks (range_with_len 0 512)
