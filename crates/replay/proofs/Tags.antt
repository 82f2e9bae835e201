-- Which messages are out of order in a stage, by what they are not.
use Rattle.std.proofs.Common.{◌≡◌, ℕ, false, ltb, List, length, refl}
use Rattle.stages.specs.declared.terms.Buyer.{Buyer}
use Rattle.stages.specs.declared.terms.Terms.{Terms}
use Rattle.book.specs.declared.call.Call.{Call}
use Rattle.book.specs.declared.call.Call.TheVariants.{Enter, Change, Cancel}
use Rattle.values.specs.declared.draw.DrawNumbers.{DrawNumbers}
use Rattle.messages.specs.declared.message.Message.{Message}
use Rattle.messages.specs.declared.message.Message.TheVariants as says
use Rattle.messages.specs.Messages.{tag_of}
use Rattle.replay.specs.Stages.{in_order}
use Rattle.replay.specs.Stages.Stage.{Start, Filing, Drawn, Running}

pub not_terms : (m : Message) → ((x : Terms) → m ≡ says.Terms x → ⊥) → in_order Start (tag_of m) ≡ false
not_terms (says.Terms t) h = absurd (h t refl)
not_terms (says.Buyer b) h = refl
not_terms (says.Draw d) h = refl
not_terms (says.Open p) h = refl
not_terms (says.Call (Enter e)) h = refl
not_terms (says.Call (Change c)) h = refl
not_terms (says.Call (Cancel c)) h = refl
not_terms (says.Close t) h = refl

pub not_base : (t : Terms) (bs : List Buyer) (d : DrawNumbers) (m : Message) → ((x : ℕ) → m ≡ says.Open x → ⊥) → in_order (Drawn t bs d) (tag_of m) ≡ false
not_base t bs d (says.Terms x) h = refl
not_base t bs d (says.Buyer b) h = refl
not_base t bs d (says.Draw e) h = refl
not_base t bs d (says.Open base) h = absurd (h base refl)
not_base t bs d (says.Call (Enter e)) h = refl
not_base t bs d (says.Call (Change c)) h = refl
not_base t bs d (says.Call (Cancel c)) h = refl
not_base t bs d (says.Close time) h = refl

pub not_running : (t : Terms) (bs : List Buyer) (d : DrawNumbers) (base : ℕ) (cs : List Call) (m : Message) →
    ((x : Call) → m ≡ says.Call x → ⊥) → ((x : ℕ) → m ≡ says.Close x → ⊥) → in_order (Running t bs d base cs) (tag_of m) ≡ false
not_running t bs d b cs (says.Terms x) h k = refl
not_running t bs d b cs (says.Buyer x) h k = refl
not_running t bs d b cs (says.Draw e) h k = refl
not_running t bs d b cs (says.Open p) h k = refl
not_running t bs d b cs (says.Call c) h k = absurd (h c refl)
not_running t bs d b cs (says.Close time) h k = absurd (k time refl)

-- behind the draw's place are other messages, and a buyer where eight were read
pub not_filing : (t : Terms) (bs : List Buyer) (m : Message) →
    ((x : Buyer) → m ≡ says.Buyer x → ltb (length bs) 8 ≡ false) → ((x : DrawNumbers) → m ≡ says.Draw x → ⊥) → in_order (Filing t bs) (tag_of m) ≡ false
not_filing t bs (says.Terms x) h k = refl
not_filing t bs (says.Buyer x) h k = rw (h x refl) refl
not_filing t bs (says.Draw e) h k = absurd (k e refl)
not_filing t bs (says.Open base) h k = refl
not_filing t bs (says.Call (Enter e)) h k = refl
not_filing t bs (says.Call (Change c)) h k = refl
not_filing t bs (says.Call (Cancel c)) h k = refl
not_filing t bs (says.Close time) h k = refl
