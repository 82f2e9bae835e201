-- Which allotments are refused.
use Rattle.std.specs.Prelude.{ℕ, Bool, not, ◌||◌, List, [], ◌∷◌, ◌==◌}
use Rattle.stages.specs.declared.particulars.Particulars.{Particulars}
use Rattle.stages.specs.declared.terms.Buyer.{Buyer}
use Rattle.stages.specs.Buyers.{as_filed}
use Rattle.stages.specs.Register.{first_of}

-- 14: not 512 records, not 512 fills, or not 8 rows
abbrev pub wrong_places : ℕ → ℕ → ℕ → Bool
wrong_places records fills rows = not (records == 512) || (not (fills == 512) || not (rows == 8))

-- The judgement of an allotment. 15: the buyers handed over are not those filed.
abbrev pub allot_code : Particulars → ℕ → ℕ → ℕ → List Buyer → ℕ
allot_code p records fills rows bs =
    first_of ((14, wrong_places records fills rows) ∷ (15, not (as_filed p bs)) ∷ [])
