-- What each part of the reading promises: where the file is read on, and in which stage; or the fault that the file comes to.
use Rattle.std.specs.Prelude.{◌≡◌, ℕ, ◌≤◌, false, List, [], length, take, drop, Ok, Err, Result}
use Rattle.stages.specs.declared.terms.Buyer.{Buyer}
use Rattle.stages.specs.declared.terms.Terms.{Terms}
use Rattle.book.specs.declared.call.Call.{Call}
use Rattle.values.specs.declared.draw.DrawNumbers.{DrawNumbers}
use Rattle.messages.specs.declared.message.Message.TheVariants as says
use Rattle.messages.specs.declared.reader.Placed.{Placed}
use Rattle.messages.specs.Reading.{MessageStands}
use Rattle.faults.specs.declared.fault.OrderFault.{OrderFault}
use Rattle.replay.specs.declared.reading.Heading.{Heading}
use Rattle.replay.specs.declared.reading.Opening.{Opening}
use Rattle.replay.specs.declared.reading.Ending.{Ending}
use Rattle.faults.specs.Faults.{order_layer, order_number, order_place}
use Rattle.replay.specs.Files.{Leads, Reads, Verdict}
use Rattle.replay.specs.Files.Verdict.{Faulty}
use Rattle.replay.specs.Stages.{Script, Stage, over}
use Rattle.replay.specs.Stages.Stage.{Start, Filing, Drawn, Running, Over}

-- the verdict of a fault in the order of the file
abbrev pub order_fault : OrderFault → Verdict
order_fault e = Faulty (order_layer e) (order_number e) (order_place e)

-- from the place on, in the stage, the file comes to the fault
abbrev pub Stops : List ℕ → ℕ → Stage → OrderFault → Type 0
Stops file at s e = Reads (drop at file) at s (order_fault e)

-- a message is found, or the file comes to a fault in whichever stage may not be the last
abbrev pub MessageRead : List ℕ → ℕ → Result Placed OrderFault → ℕ → Type 0
MessageRead file at (Ok p) then = MessageStands file at p then
MessageRead file at (Err e) then = (s : Stage) → over s ≡ false → Stops file at s e

abbrev pub TermsRead : List ℕ → ℕ → Result Terms OrderFault → ℕ → Type 0
TermsRead file at (Ok t) then = Leads file at Start then (Filing t []) × (then ≤ length file)
TermsRead file at (Err e) then = Stops file at Start e

-- Buyers were read from `at` on, and behind them stands the draw.
pub record Buyers (file : List ℕ) (at : ℕ) (t : Terms) (bs : List Buyer) (d : DrawNumbers) (place then : ℕ) : Type 0 where
  pub leads : Leads file at (Filing t []) place (Filing t bs)
  pub found : MessageStands file place (record { place = place; message = says.Draw d }) then

abbrev pub BuyersRead : List ℕ → ℕ → Result Heading OrderFault → ℕ → Type 0
BuyersRead file at (Ok f) then = (t : Terms) → Buyers file at t f.buyers.items f.draw f.place then
BuyersRead file at (Err e) then = (t : Terms) → Stops file at (Filing t []) e

abbrev pub BaseRead : List ℕ → ℕ → Result Opening OrderFault → ℕ → Type 0
BaseRead file at (Ok o) then = (o.place ≡ at) × MessageStands file at (record { place = at; message = says.Open o.base }) then
BaseRead file at (Err e) then = (t : Terms) (bs : List Buyer) (d : DrawNumbers) → Stops file at (Drawn t bs d) e

-- Calls were read from `at` on, and behind them stands the closing.
pub record Calls (file : List ℕ) (at : ℕ) (t : Terms) (bs : List Buyer) (d : DrawNumbers) (base : ℕ) (cs : List Call) (closing place then : ℕ) : Type 0 where
  pub leads : Leads file at (Running t bs d base []) place (Running t bs d base cs)
  pub found : MessageStands file place (record { place = place; message = says.Close closing }) then

abbrev pub CallsRead : List ℕ → ℕ → List Call → Result Ending OrderFault → ℕ → Type 0
CallsRead file at calls (Ok f) then =
    (f.count ≤ length calls) ×
    ((t : Terms) (bs : List Buyer) (d : DrawNumbers) (base : ℕ) → Calls file at t bs d base (take f.count calls) f.closing f.place then)
CallsRead file at calls (Err e) then =
    (t : Terms) (bs : List Buyer) (d : DrawNumbers) (base : ℕ) → Stops file at (Running t bs d base []) e

-- the file ends at the place, or comes to a fault behind the closing
abbrev pub EndRead : List ℕ → ℕ → Result (Unit {0}) OrderFault → Type 0
EndRead file at (Ok u) = length file ≤ at
EndRead file at (Err e) = (s : Script) → Stops file at (Over s) e
