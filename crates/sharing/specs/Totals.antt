-- Totals that are counted in 64 bits.
use Rattle.std.specs.Prelude.{ℕ, ◌-◌, ◌^◌, min}

-- a total as 64 bits hold it: the largest number where it does not fit
abbrev pub capped : ℕ → ℕ
capped n = min n (2 ^ 64 - 1)
