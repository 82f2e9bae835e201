-- The order in which standing offers came, told by the calls that were made.
use Rattle.std.specs.Prelude.{◌≡◌, ℕ, zero, suc, ◌<◌, ◌≤◌, Bool, true, false, ◌&&◌, List, [], ◌∷◌, map, ◌==◌}
use Rattle.std.specs.List.{AllByRecursion}
use Rattle.stages.specs.declared.opened.Open.{Open}
use Rattle.stages.specs.declared.terms.Buyer.{Buyer}
use Rattle.book.specs.declared.call.Call as call
use Rattle.book.specs.declared.call.Call.TheVariants as calls
use Rattle.book.specs.declared.offer.Offer.{Offer}
use Rattle.book.specs.Model.{Model, fresh}
use Rattle.book.specs.Told.{call_code, told, tally}

-- the offer that a call would put behind all others at its price: that of an entry gets the count as its number
abbrev pub puts : Model → call.Call → ℕ → Bool
puts m (calls.Enter e) number = m.count == number
puts m (calls.Change c) number = c.number == number
puts m (calls.Cancel c) number = false

-- The call is accepted, and the offer with the number comes by it, or goes to the back by it.
abbrev pub comes : Open → List Buyer → Model → call.Call → ℕ → Bool
comes t bs m c number = call_code t 512 m c bs == 0 && puts m c number

-- the same of the call at a place of a list of calls, made one after the other from a model on
abbrev pub ComesAt : Open → List Buyer → Model → List call.Call → ℕ → ℕ → Type 0
ComesAt t bs m [] number i = ⊥
ComesAt t bs m (c ∷ cs) number zero = comes t bs m c number ≡ true
ComesAt t bs m (c ∷ cs) number (suc i) = ComesAt t bs (told t 512 m c bs) cs number i

-- The call at place i is the last by which the offer with the number came or went to the back.
pub record LastAt (t : Open) (bs : List Buyer) (m : Model) (cs : List call.Call) (number i : ℕ) : Type 0 where
  pub came : ComesAt t bs m cs number i
  pub last : (j : ℕ) → i < j → ComesAt t bs m cs number j → ⊥

-- An offer x stands before y by right: its price is not above that of y, and where the prices are equal x came, or last went to
-- the back, earlier than y.
pub record Before (t : Open) (bs : List Buyer) (m : Model) (cs : List call.Call) (x y : Offer) : Type 0 where
  pub price : x.price ≤ y.price
  pub earlier : x.price ≡ y.price → (i : ℕ) × (j : ℕ) × LastAt t bs m cs x.number i × LastAt t bs m cs y.number j × (i < j)

-- Each offer of the list stands before each later one by right.
abbrev pub ByPriority : Open → List Buyer → Model → List call.Call → List Offer → Type 0
ByPriority t bs m cs [] = Unit {0}
ByPriority t bs m cs (o ∷ os) = AllByRecursion (Before t bs m cs o) os × ByPriority t bs m cs os

-- After any calls on a fresh book the standing offers stand in order of price, and equal prices in order of arrival.
abbrev pub InPriority : Type 0
InPriority =
    (t : Open) (bs : List Buyer) (cs : List call.Call) →
    ByPriority t bs fresh cs (tally t 512 fresh (map (λ c. (c, bs)) cs)).list
