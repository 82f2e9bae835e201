-- Which calls are refused: each judgement is the list of its numbers with their conditions, in the order of the checks.
use Rattle.std.specs.Prelude.{ℕ, Bool, false, not, ◌||◌, List, [], ◌∷◌, is_some, Some, None, Option, ◌==◌, nat_le, nat_lt}
use Rattle.stages.specs.declared.opened.Open.{Open}
use Rattle.stages.specs.declared.terms.Buyer.{Buyer}
use Rattle.stages.specs.Buyers.{has_account, as_filed}
use Rattle.stages.specs.Kinds.{open_at}
use Rattle.stages.specs.Register.{first_of}
use Rattle.book.specs.declared.offer.Offer.{Offer}
use Rattle.book.specs.declared.entry.Entry.{Entry}
use Rattle.book.specs.declared.change.Change.{Change}
use Rattle.book.specs.declared.cancel.Cancellation.{Cancellation}
use Rattle.book.specs.Model.{Model, standing}
use Rattle.book.specs.Offers.{of_member}

-- The judgement of a place for a book. 14: it has not 512 records.
abbrev pub place_code : ℕ → ℕ
place_code n = first_of ((14, not (n == 512)) ∷ [])

-- 5: the time is outside the window
abbrev pub outside_window : Open → ℕ → Bool
outside_window t time = not (open_at t.particulars.kind time)

-- 6: the time is before the latest accepted call
abbrev pub before_latest : Model → ℕ → Bool
before_latest m time = nat_lt time m.time

-- 7: the price is 0 or above the base price
abbrev pub bad_price : Open → ℕ → Bool
bad_price t price = price == 0 || nat_lt t.base price

-- 8: the lots are 0 or above 1,000,000
abbrev pub bad_lots : ℕ → Bool
bad_lots lots = lots == 0 || nat_lt 1000000 lots

-- 10: 512 entries were accepted already
abbrev pub all_accepted : Model → Bool
all_accepted m = nat_le 512 m.count

-- 12: there is such an offer, and it is the member's
abbrev pub owned : Option Offer → List ℕ → Bool
owned None member = false
owned (Some o) member = of_member o member

-- The judgement of a call's time.
abbrev pub time_code : Open → Model → ℕ → ℕ
time_code t m time = first_of ((5, outside_window t time) ∷ (6, before_latest m time) ∷ [])

-- The judgement of a call's price and lots.
abbrev pub size_code : Open → ℕ → ℕ → ℕ
size_code t price lots = first_of ((7, bad_price t price) ∷ (8, bad_lots lots) ∷ [])

-- The judgement of the offer that a member names. 11: no such offer stands. 12: it is another member's.
abbrev pub owner_code : Option Offer → List ℕ → ℕ
owner_code found member = first_of ((11, not (is_some found)) ∷ (12, not (owned found member)) ∷ [])

-- The judgement of an entry, for a tender, a book on n records and its model. 9: the account is that of a buyer handed over.
-- 14: there are not 512 records. 15: the buyers handed over are not those filed.
abbrev pub entry_code : Open → ℕ → Model → Entry → List Buyer → ℕ
entry_code t n m e bs =
    first_of (
    (5, outside_window t e.time) ∷
    (6, before_latest m e.time) ∷
    (7, bad_price t e.price) ∷
    (8, bad_lots e.lots) ∷
    (9, has_account e.account bs) ∷
    (10, all_accepted m) ∷
    (14, not (n == 512)) ∷
    (15, not (as_filed t.particulars bs)) ∷
    []
    )

-- The judgement of a change. 11: no such offer stands. 12: it is another member's.
abbrev pub change_code : Open → ℕ → Model → Change → ℕ
change_code t n m c =
    first_of (
    (5, outside_window t c.time) ∷
    (6, before_latest m c.time) ∷
    (7, bad_price t c.price) ∷
    (8, bad_lots c.lots) ∷
    (11, not (is_some (standing n m.list c.number))) ∷
    (12, not (owned (standing n m.list c.number) c.member)) ∷
    []
    )

-- The judgement of a cancellation, with the same numbers.
abbrev pub cancel_code : Open → ℕ → Model → Cancellation → ℕ
cancel_code t n m c =
    first_of (
    (5, outside_window t c.time) ∷
    (6, before_latest m c.time) ∷
    (11, not (is_some (standing n m.list c.number))) ∷
    (12, not (owned (standing n m.list c.number) c.member)) ∷
    []
    )
