-- One message on the way through a file.
use Rattle.std.proofs.Common.{◌≡◌, ℕ, ◌<◌, ◌≤◌, false, List, length, drop, Some, None, Ok, Option, ok_or, sym, ◌∙◌, subst, arith, lit≤}
use Rattle.std.proofs.lemmas.List.{drop_all, length-drop}
use Rattle.frames.specs.declared.fault.FrameFault.{FrameFault}
use Rattle.frames.specs.declared.fault.FrameFault.TheVariants.{CutShort, TooLong, UnknownTag, WrongLength}
use Rattle.frames.specs.Faults.{number_of}
use Rattle.messages.specs.declared.reader.Placed.{Placed}
use Rattle.messages.specs.Messages.{tag_of}
use Rattle.messages.specs.Reading.{MessageFaulty, MessageStands, NextMessage}
use Rattle.faults.specs.declared.fault.OrderFault.TheVariants.{Frame as Framed, OutOfOrder, Ended}
use Rattle.faults.specs.declared.layer.Layer.TheVariants.{Frame, Order}
use Rattle.replay.specs.Files.{Leads, Reads, Stands}
use Rattle.replay.specs.Files.Reads.{broken, ended, out_of_order, taken}
use Rattle.replay.specs.Files.Verdict.{Faulty}
use Rattle.replay.specs.Reading.{MessageRead, Stops}
use Rattle.replay.specs.Stages.{Stage, Step, in_order, over}

-- each fault of a frame has a number
has_number : (e : FrameFault) → 0 < number_of e
has_number (CutShort p) = lit≤ tt
has_number TooLong = lit≤ tt
has_number (UnknownTag p) = lit≤ tt
has_number (WrongLength p) = lit≤ tt

-- a frame that cannot be read is what the file comes to
pub broke : (file : List ℕ) (at then : ℕ) (e : FrameFault) (s : Stage) → MessageFaulty file at e then → Stops file at s (Framed e)
broke file at then e s b =
    let some : 0 < length (drop at file) = subst (λ n. 0 < n) (sym (length-drop at file)) (omega (arith, b.inside)) in
    let r = broken {at = at} {s = s} some (subst (λ n. 0 < n) b.number (has_number e)) in
    subst (λ p. Reads (drop at file) at s (Faulty Frame (number_of e) p)) (sym b.place)
    (subst (λ n. Reads (drop at file) at s (Faulty Frame n at)) (sym b.number) r)

-- the end of a file that is not over is what the file comes to
pub ran_out : (file : List ℕ) (at : ℕ) (s : Stage) → length file ≤ at → over s ≡ false → Stops file at s (Ended at)
ran_out file at s far unfinished = subst (λ xs. Reads xs at s (Faulty Order 23 at)) (sym (drop_all at file far)) (ended unfinished)

-- the message that is found stands at the front of what is left
pub stood : (file : List ℕ) (at then : ℕ) (p : Placed) → MessageStands file at p then → Stands (drop at file) p.message (drop then file)
stood file at then p f = record { bytes = f.stands; fits = f.fits }

-- a message out of its order is what the file comes to
pub misplaced : (file : List ℕ) (at then : ℕ) (p : Placed) (s : Stage) → MessageStands file at p then → in_order s (tag_of p.message) ≡ false → Stops file at s (OutOfOrder p.place)
misplaced file at then p s f wrong =
    subst (λ n. Reads (drop at file) at s (Faulty Order 23 n)) (sym f.place) (out_of_order (stood file at then p f) wrong)

-- a message that is taken leads on
pub past : (file : List ℕ) (at then : ℕ) (p : Placed) (s s' : Stage) → MessageStands file at p then → Step s p.message s' → Leads file at s then s'
past file at then p s s' f step v rest =
    taken (stood file at then p f) step (subst (λ n. Reads (drop then file) n s' v) f.goes rest)

-- the message that is found, or the end of the file
pub next_or_end : (file : List ℕ) (at then place : ℕ) (o : Option Placed) → NextMessage file at (Ok o) then → place ≡ then →
    MessageRead file at (ok_or o (Ended place)) then
next_or_end file at then place (Some p) h is = h
next_or_end file at then place None h is = λ s unfinished. subst (λ q. Stops file at s (Ended q)) (sym (is ∙ h.1)) (ran_out file at s h.0 unfinished)

-- the message that is found
pub found_one : (file : List ℕ) (at then : ℕ) (o : Option Placed) (p : Placed) → NextMessage file at (Ok o) then → o ≡ Some p → MessageStands file at p then
found_one file at then o p h is = subst (λ o. NextMessage file at (Ok o) then) is h
