-- The numbers under which calls are refused.
use Rattle.std.specs.Prelude.{ℕ, Bool, cond, List, [], ◌∷◌, Ok, Err, Result}
use Rattle.stages.specs.declared.refusal.Refusal.{Refusal}
use Rattle.stages.specs.declared.refusal.Refusal.TheVariants.{Term, Accounts, Demand, BasePrice, OutsideWindow, BeforeLatest, Price, Lots, BuyerAccount, Full, NoOffer, OtherMember, Closing, Place, OtherBuyers}

-- the number of each refusal
abbrev pub number_of : Refusal → ℕ
number_of Term = 1
number_of Accounts = 2
number_of Demand = 3
number_of BasePrice = 4
number_of OutsideWindow = 5
number_of BeforeLatest = 6
number_of Price = 7
number_of Lots = 8
number_of BuyerAccount = 9
number_of Full = 10
number_of NoOffer = 11
number_of OtherMember = 12
number_of Closing = 13
number_of Place = 14
number_of OtherBuyers = 15

-- The number of an answer: 0 where the call is accepted.
abbrev pub code_of : {X : Type 0} → Result X Refusal → ℕ
code_of (Ok x) = 0
code_of (Err e) = number_of e

-- The number of a step's answer, where a refusal hands the tender back.
abbrev pub step_code_of : {X Y : Type 0} → Result X (Refusal × Y) → ℕ
step_code_of (Ok x) = 0
step_code_of (Err e) = number_of e.0

-- The judgement of a call: the first number whose condition holds, and 0 where none does.
abbrev pub first_of : List (ℕ × Bool) → ℕ
first_of [] = 0
first_of (c ∷ cs) = cond c.1 c.0 (first_of cs)
