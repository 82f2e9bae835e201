-- Each call keeps the condition of the book.
use Rattle.std.proofs.Common.{◌≡◌, ℕ, ◌+◌, ◌<◌, ◌≤◌, Bool, eqb, List, length, Some, None, Option, refl, arith}
use Rattle.std.specs.List.{AllByRecursion}
use Rattle.std.proofs.ByRecursion.{all-has, All-weaker}
use Rattle.std.proofs.lemmas.Bool.{cond_both, eqb-true}
use Rattle.ordered.specs.Behind.{behind}
use Rattle.ordered.proofs.Keeps.{all_behind, in_order_behind}
use Rattle.stages.specs.declared.opened.Open.{Open}
use Rattle.stages.specs.declared.terms.Buyer.{Buyer}
use Rattle.book.specs.declared.cancel.Cancellation.{Cancellation}
use Rattle.book.specs.declared.change.Change.{Change}
use Rattle.book.specs.declared.entry.Entry.{Entry}
use Rattle.book.specs.declared.offer.Offer.{Offer}
use Rattle.book.specs.Judgement.{entry_code, change_code, cancel_code}
use Rattle.book.specs.Model.{Model, standing, has_number, without}
use Rattle.book.specs.Offers.{cheaper, first_that, without_first}
use Rattle.book.specs.Soundness.{Sound}
use Rattle.book.specs.Told.{offered, entered, repriced, changed_list, changed, cancelled}
use Rattle.book.proofs.Codes.{InRange, entry_clear, change_clear}
use Rattle.book.proofs.Entering.{total, transitive, length_behind, apart_behind}
use Rattle.book.proofs.Firsts.{all_without, apart_without, in_order_without, length_without, one_passes, others, shorter}
use Rattle.book.proofs.Searching.{stands_first}

-- the model with an offer put in that is under a number of its own
put_in : (o : Offer) (xs : List Offer) (count time : ℕ) → Sound (record { list = xs; count = count; time = time }) → AllByRecursion (λ x. x.number ≡ o.number → ⊥) xs → o.number < count → length xs < count → InRange o.price o.lots → Sound (record { list = behind cheaper o xs; count = count; time = time })
put_in o xs count time s new below room r =
    let long = length_behind o xs in
    record {
      ordered = in_order_behind cheaper total transitive o xs s.ordered;
      apart = apart_behind o xs new s.apart;
      numbered = all_behind cheaper (λ x. x.number < count) o xs below s.numbered;
      few = omega arith;
      accepted = s.accepted;
      prices = all_behind cheaper (λ x. (1 ≤ x.price) × (x.price ≤ 920000)) o xs r.priced s.prices;
      lots = all_behind cheaper (λ x. (1 ≤ x.lots) × (x.lots ≤ 1000000)) o xs r.sized s.lots;
    }

-- the model with an offer taken out
taken_out : (test : Offer → Bool) (m : Model) (time : ℕ) → Sound m → Sound (record { list = without_first test m.list; count = m.count; time = time })
taken_out test m time s =
    let xs = m.list in
    let long = length_without test xs in
    record {
      ordered = in_order_without test xs s.ordered;
      apart = apart_without test xs s.apart;
      numbered = all_without test (λ x. x.number < m.count) xs s.numbered;
      few = omega (arith, s.few);
      accepted = s.accepted;
      prices = all_without test (λ x. (1 ≤ x.price) × (x.price ≤ 920000)) xs s.prices;
      lots = all_without test (λ x. (1 ≤ x.lots) × (x.lots ≤ 1000000)) xs s.lots;
    }

-- the model with one more entry counted
counted : (m : Model) (time : ℕ) → m.count < 512 → Sound m → Sound (record { list = m.list; count = m.count + 1; time = time })
counted m time lt s = record {
  ordered = s.ordered;
  apart = s.apart;
  numbered = All-weaker (λ o. o.number < m.count) (λ o. o.number < m.count + 1) (λ o h. omega arith) m.list s.numbered;
  few = omega (arith, s.few);
  accepted = omega arith;
  prices = s.prices;
  lots = s.lots;
}

-- the number of an entry is new
new_number : (m : Model) (e : Entry) → Sound m → AllByRecursion (λ o. o.number ≡ (offered m e).number → ⊥) m.list
new_number m e s = All-weaker (λ o. o.number < m.count) (λ o. o.number ≡ m.count → ⊥) (λ o h x. omega arith) m.list s.numbered

-- an entry keeps the condition
pub sound_entered : (t : Open) (n : ℕ) (m : Model) (e : Entry) (bs : List Buyer) → Sound m → Sound (entered t n m e bs)
sound_entered t n m e bs s =
    cond_both (eqb (entry_code t n m e bs) 0) (record { list = behind cheaper (offered m e) m.list; count = m.count + 1; time = e.time }) m Sound
    (λ z. let clear = entry_clear t n m e bs (eqb-true (entry_code t n m e bs) 0 z) in
    put_in (offered m e) m.list (m.count + 1) e.time (counted m e.time clear.1 s) (new_number m e s) (omega arith) (omega (arith, s.few)) clear.0)
    (λ _. s)

-- an offer put anew keeps the condition
put_anew : (m : Model) (c : Change) (r : Option Offer) → InRange c.price c.lots → ((o : Offer) → r ≡ Some o → first_that (has_number c.number) m.list ≡ Some o) → Sound m → Sound (record { list = changed_list r c m.list; count = m.count; time = c.time })
put_anew m c None range stands s = record {
  ordered = s.ordered;
  apart = s.apart;
  numbered = s.numbered;
  few = s.few;
  accepted = s.accepted;
  prices = s.prices;
  lots = s.lots;
}
put_anew m c (Some o) range stands s =
    let test = has_number c.number in
    let first = stands o refl in
    let short = shorter test o m.list first in
    let below = all-has (λ x. x.number < m.count) m.list o s.numbered (one_passes test m.list o first).0 in
    put_in (repriced o c) (without c.number m.list) m.count c.time (taken_out test m c.time s) (others test o m.list first s.apart) below (omega (arith, s.few)) range

-- a change keeps the condition
pub sound_changed : (t : Open) (n : ℕ) (m : Model) (c : Change) → Sound m → Sound (changed t n m c)
sound_changed t n m c s =
    cond_both (eqb (change_code t n m c) 0) (record { list = changed_list (standing n m.list c.number) c m.list; count = m.count; time = c.time }) m Sound
    (λ z. let clear = change_clear t n m c (eqb-true (change_code t n m c) 0 z) in
    put_anew m c (standing n m.list c.number) clear (stands_first n m.list c.number) s)
    (λ _. s)

-- a cancellation keeps the condition
pub sound_cancelled : (t : Open) (n : ℕ) (m : Model) (c : Cancellation) → Sound m → Sound (cancelled t n m c)
sound_cancelled t n m c s =
    cond_both (eqb (cancel_code t n m c) 0) (record { list = without c.number m.list; count = m.count; time = c.time }) m Sound
    (λ _. taken_out (has_number c.number) m c.time s)
    (λ _. s)
