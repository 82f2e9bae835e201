-- Opening and closing: which steps are refused.
use Rattle.std.specs.Prelude.{ℕ, ◌*◌, Bool, not, ◌&&◌, [], ◌∷◌, nat_le}
use Rattle.stages.specs.declared.particulars.Particulars.{Particulars}
use Rattle.stages.specs.Kinds.{row_of, over_at}
use Rattle.stages.specs.Register.{first_of}

-- The base price is in its span: with the previous close C, 85 × C ≤ 100 × P ≤ 115 × C for a general tender, and
-- 107 × C ≤ 100 × P ≤ 115 × C for a financing tender.
abbrev pub accepts_base : Particulars → ℕ → Bool
accepts_base p base =
    nat_le ((row_of p.kind).least * p.previous_close) (100 * base) &&
    nat_le (100 * base) ((row_of p.kind).most * p.previous_close)

-- The judgement of an opening. 4: the base price is outside its span.
abbrev pub opening_code : Particulars → ℕ → ℕ
opening_code p base = first_of ((4, not (accepts_base p base)) ∷ [])

-- The judgement of a closing. 13: the window is not over, or the time is after the last second of the day.
abbrev pub closing_code : Particulars → ℕ → ℕ
closing_code p time = first_of ((13, not (over_at p.kind time)) ∷ [])
