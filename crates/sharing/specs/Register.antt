-- The numbers under which calls are refused.
use Rattle.std.specs.Prelude.{ℕ, Ok, Err, Result}
use Rattle.sharing.specs.declared.refusal.Refusal.{Refusal}
use Rattle.sharing.specs.declared.refusal.Refusal.TheVariants.{Claims, RankCount, EqualRanks, Stride}

abbrev pub number_of : Refusal → ℕ
number_of Claims = 16
number_of RankCount = 17
number_of EqualRanks = 18
number_of Stride = 19

-- The number of an answer: 0 where the call is accepted.
abbrev pub code_of : {X : Type 0} → Result X Refusal → ℕ
code_of (Ok x) = 0
code_of (Err e) = number_of e
