-- The numbers under which something is refused.
use Rattle.std.specs.Prelude.{ℕ}
use Rattle.reference.specs.declared.refusal.Refusal.{Refusal}
use Rattle.reference.specs.declared.refusal.Refusal.TheVariants.{Term, Accounts, Demand, BasePrice, OutsideWindow, BeforeLatest, Price, Lots, BuyerAccount, Full, NoOffer, OtherMember, Closing, Place, OtherBuyers, Claims, RankCount, EqualRanks, Stride, CutShort, UnknownTag, WrongLength, Order}

-- the number of each refusal
abbrev pub number_of : Refusal → ℕ
number_of Term = 1
number_of Accounts = 2
number_of Demand = 3
number_of BasePrice = 4
number_of OutsideWindow = 5
number_of BeforeLatest = 6
number_of Price = 7
number_of Lots = 8
number_of BuyerAccount = 9
number_of Full = 10
number_of NoOffer = 11
number_of OtherMember = 12
number_of Closing = 13
number_of Place = 14
number_of OtherBuyers = 15
number_of Claims = 16
number_of RankCount = 17
number_of EqualRanks = 18
number_of Stride = 19
number_of CutShort = 20
number_of UnknownTag = 21
number_of WrongLength = 22
number_of Order = 23
