-- What a whole file is answered by.
use Rattle.std.specs.Prelude.{◌≡◌, ℕ, ◌≤◌, true, List, [], length, drop, Ok, Err, Result}
use Rattle.stages.specs.declared.opened.Open.{Open}
use Rattle.stages.specs.declared.particulars.Particulars.{Particulars}
use Rattle.stages.specs.declared.terms.Buyer.{Buyer}
use Rattle.stages.specs.declared.terms.Terms.{Terms}
use Rattle.stages.specs.Buyers.{as_filed}
use Rattle.stages.specs.Filing.{AsFiled}
use Rattle.sharing.specs.Draws.{stridden}
use Rattle.sharing.specs.Shares.{largest_remainder}
use Rattle.book.specs.declared.call.Call.{Call}
use Rattle.tender_run.specs.Promise.{RunPromise}
use Rattle.tender_run.specs.Runs.{rule_of, tallied}
use Rattle.values.specs.declared.draw.DrawNumbers.{DrawNumbers}
use Rattle.messages.specs.declared.reader.MessageReader.{MessageReader}
use Rattle.messages.specs.Reading.{file_of, next_place}
use Rattle.faults.specs.declared.fault.OrderFault.{OrderFault}
use Rattle.faults.specs.declared.fault.ProgramFault.{ProgramFault}
use Rattle.replay.specs.declared.heading.Drawing.{Drawing}
use Rattle.replay.specs.declared.running.Ran.{Ran as RanCalls}
use Rattle.replay.specs.declared.report.Report.{Report}
use Rattle.faults.specs.Faults.{layer_of, number_of, order_layer, order_number, order_place, place_of}
use Rattle.replay.specs.Files.{ComesTo, Leads, Reads, Verdict, bytes_of, script_messages}
use Rattle.replay.specs.Files.Verdict.{Faulty, Ran}
use Rattle.replay.specs.Stages.{Script}
use Rattle.replay.specs.Stages.Stage.{Start, Drawn, Running}

-- the verdict of a fault
abbrev pub faulted : ProgramFault → Verdict
faulted e = Faulty (layer_of e) (number_of e) (place_of e)

-- A tender was read from a place on: filed on terms for the buyers, with a draw of the numbers.
pub record TenderRead (file : List ℕ) (at : ℕ) (d : Drawing) (then : ℕ) : Type 0 where
  pub terms : Terms
  pub numbers : DrawNumbers
  pub filed : AsFiled terms d.buyers.items d.filed.particulars
  pub as_filed_for : as_filed d.filed.particulars d.buyers.items ≡ true
  pub stride : d.draw.stride ≡ numbers.stride
  pub shift : d.draw.shift ≡ numbers.shift
  pub leads : Leads file at Start then (Drawn terms d.buyers.items numbers)

abbrev pub Headed : List ℕ → ℕ → Result Drawing ProgramFault → ℕ → Type 0
Headed file at (Ok d) then = TenderRead file at d then
Headed file at (Err e) then = Reads (drop at file) at Start (faulted e)

-- the tender is opened, or the file comes to a fault
abbrev pub OpenedAt : List ℕ → ℕ → Particulars → Result Open ProgramFault → ℕ → Type 0
OpenedAt file at p (Ok o) then =
    (o.particulars ≡ p) × ((t : Terms) (bs : List Buyer) (d : DrawNumbers) → AsFiled t bs p → Leads file at (Drawn t bs d) then (Running t bs d o.base []))
OpenedAt file at p (Err e) then = (t : Terms) (bs : List Buyer) (d : DrawNumbers) → AsFiled t bs p → Reads (drop at file) at (Drawn t bs d) (faulted e)

-- the script of these
abbrev pub script_of : Terms → List Buyer → DrawNumbers → ℕ → List Call → ℕ → Script
script_of t bs d base cs closing = record { terms = t; buyers = bs; draw = d; base = base; calls = cs; closing = closing }

-- The whole promise of a run with a draw of these ranks, and the offers that it answers are those that stand.
pub record RunPromised (rank : ℕ → ℕ) (tender : Open) (calls : List Call) (bs : List Buyer) (r : RanCalls) : Type 0 where
  pub promise :
      RunPromise (rule_of tender.particulars.kind rank) (largest_remainder rank) tender calls bs
      r.outcome r.offers.items r.fills r.rows
  pub offers : r.offers.items ≡ (tallied tender bs calls).list

-- An open tender was run to the end of the file, with the calls that stand in it.
pub record RunRead (file : List ℕ) (at : ℕ) (rank : ℕ → ℕ) (tender : Open) (bs : List Buyer) (r : RanCalls) : Type 0 where
  pub calls : List Call
  pub closing : ℕ
  pub reads :
      (t : Terms) (n : DrawNumbers) → AsFiled t bs tender.particulars →
      Reads (drop at file) at (Running t bs n tender.base []) (Ran (script_of t bs n tender.base calls closing))
  pub promised : RunPromised rank tender calls bs r

-- the run of an open tender comes to a fault
abbrev pub RunStops : List ℕ → ℕ → Open → List Buyer → ProgramFault → Type 0
RunStops file at tender bs e =
    (t : Terms) (d : DrawNumbers) → AsFiled t bs tender.particulars → Reads (drop at file) at (Running t bs d tender.base []) (faulted e)

-- A run of a file: its script, its bytes, the tender of the script, and the whole promise of its run.
pub record Told (file : List ℕ) (r : Report) : Type 0 where
  pub script : Script
  pub tender : Open
  -- The file, read message by message, comes to a run by the script.
  pub comes : ComesTo file (Ran script)
  -- It is the encoding of the terms, the buyers, the draw, the base price, the calls and the closing time.
  pub bytes : file ≡ bytes_of (script_messages script)
  -- The tender is filed on the terms for the buyers, and opened with the base price.
  pub filed : AsFiled script.terms script.buyers tender.particulars
  pub base : tender.base ≡ script.base
  -- The particulars and the buyers are the tender's.
  pub particulars : r.particulars ≡ tender.particulars
  pub buyers_filed : r.buyers.items ≡ script.buyers
  -- The run of the calls, with the draw for the sellers' rule of the kind and for the buyers' rule.
  pub run :
      RunPromise (rule_of tender.particulars.kind (stridden script.draw.stride script.draw.shift))
      (largest_remainder (stridden script.draw.stride script.draw.shift)) tender script.calls script.buyers
      r.outcome r.offers.items r.fills r.rows
  -- The offers are those that stand after the calls, and no others.
  pub offers : r.offers.items ≡ (tallied tender script.buyers script.calls).list

-- What a file is answered by: a report of it, or the fault that it comes to.
abbrev pub Replayed : List ℕ → Result Report ProgramFault → Type 0
Replayed file (Ok r) = Told file r
Replayed file (Err e) = ComesTo file (faulted e)

-- a reader at the start of the file, or the fault that the file comes to
abbrev pub ReaderAt : List ℕ → Result MessageReader OrderFault → Type 0
ReaderAt file (Ok r) = (length file ≤ 65536) × (file_of r ≡ file) × (next_place r ≡ 0)
ReaderAt file (Err e) = ComesTo file (Faulty (order_layer e) (order_number e) (order_place e))
