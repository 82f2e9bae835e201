-- What the model makes of each call. It takes exactly the calls that are not refused.
use Rattle.std.specs.Prelude.{ℕ, ◌+◌, Bool, true, cond, List, [], ◌∷◌, Some, None, Option, ◌==◌}
use Rattle.ordered.specs.Behind.{behind}
use Rattle.stages.specs.declared.opened.Open.{Open}
use Rattle.stages.specs.declared.terms.Buyer.{Buyer}
use Rattle.book.specs.declared.call.Call as call
use Rattle.book.specs.declared.call.Call.TheVariants as calls
use Rattle.book.specs.declared.offer.Offer.{Offer}
use Rattle.book.specs.declared.entry.Entry.{Entry}
use Rattle.book.specs.declared.change.Change.{Change}
use Rattle.book.specs.declared.cancel.Cancellation.{Cancellation}
use Rattle.book.specs.Judgement.{entry_code, change_code, cancel_code}
use Rattle.book.specs.Model.{Model, has_number, standing, without}
use Rattle.book.specs.Offers.{cheaper}

-- a call that is not refused gives the new model, and a refused one leaves the model as it is
abbrev pub taken : ℕ → Model → Model → Model
taken code new m = cond (code == 0) new m

-- the offer of an entry: its number is the count of entries accepted so far
abbrev pub offered : Model → Entry → Offer
offered m e = record { number = m.count; member = e.member; account = e.account; price = e.price; lots = e.lots }

-- An entry goes behind every offer priced not above its own, the count rises by 1, and the time is the entry's.
abbrev pub entered : Open → ℕ → Model → Entry → List Buyer → Model
entered t n m e bs =
    taken (entry_code t n m e bs) (record { list = behind cheaper (offered m e) m.list; count = m.count + 1; time = e.time }) m

-- the offer with the price and lots of a change
abbrev pub repriced : Offer → Change → Offer
repriced o c = record { number = o.number; member = o.member; account = o.account; price = c.price; lots = c.lots }

-- Whether a change puts the offer behind all others at its price. Every change does, also where the price stays.
abbrev pub goes_to_back : Offer → Change → Bool
goes_to_back o c = true

-- the list with an offer written over the one of its number, in its place
abbrev pub rewritten : Offer → List Offer → List Offer
rewritten x [] = []
rewritten x (o ∷ os) = cond (has_number x.number o) (x ∷ os) (o ∷ rewritten x os)

-- the list after a change of an offer: it goes to the back, or else keeps its place
abbrev pub changed_list : Option Offer → Change → List Offer → List Offer
changed_list None c os = os
changed_list (Some o) c os =
    cond (goes_to_back o c) (behind cheaper (repriced o c) (without c.number os)) (rewritten (repriced o c) os)

-- A change replaces price and lots and puts the offer behind all others at its price. The time is the change's.
abbrev pub changed : Open → ℕ → Model → Change → Model
changed t n m c =
    taken (change_code t n m c) (record { list = changed_list (standing n m.list c.number) c m.list; count = m.count; time = c.time }) m

-- A cancellation removes the offer. The time is the cancellation's.
abbrev pub cancelled : Open → ℕ → Model → Cancellation → Model
cancelled t n m c =
    taken (cancel_code t n m c) (record { list = without c.number m.list; count = m.count; time = c.time }) m

-- the judgement of a call, with the buyers handed over
abbrev pub call_code : Open → ℕ → Model → call.Call → List Buyer → ℕ
call_code t n m (calls.Enter e) bs = entry_code t n m e bs
call_code t n m (calls.Change c) bs = change_code t n m c
call_code t n m (calls.Cancel c) bs = cancel_code t n m c

-- the number that a call is given where it is taken: an entry's is the count, the others have none
abbrev pub given : Model → call.Call → Option ℕ
given m (calls.Enter e) = Some m.count
given m (calls.Change c) = None
given m (calls.Cancel c) = None

-- the model after a call, with the buyers handed over
abbrev pub told : Open → ℕ → Model → call.Call → List Buyer → Model
told t n m (calls.Enter e) bs = entered t n m e bs
told t n m (calls.Change c) bs = changed t n m c
told t n m (calls.Cancel c) bs = cancelled t n m c

-- the model after a list of calls, each with the buyers handed over
abbrev pub tally : Open → ℕ → Model → List (call.Call × List Buyer) → Model
tally t n m [] = m
tally t n m (c ∷ cs) = tally t n (told t n m c.0 c.1) cs
