-- From the frame that was read to the message that it says.
use Rattle.std.proofs.Common.{◌≡◌, ℕ, ◌+◌, ◌<◌, List, ◌++◌, length, drop, Some, Ok, Option, sym, ap, ◌∙◌, subst, arith}
use Rattle.frames.specs.declared.fault.FrameFault.{FrameFault}
use Rattle.frames.specs.declared.fault.FrameFault.TheVariants.{CutShort, TooLong, UnknownTag, WrongLength}
use Rattle.frames.specs.declared.reader.Frame.{Frame}
use Rattle.frames.specs.Faults.{number_of}
use Rattle.frames.specs.Frames.{frame_bytes, Next, Stands, Faulty}
use Rattle.messages.specs.declared.reader.Placed.{Placed}
use Rattle.messages.specs.Messages.{tag_of, message_bytes, message_code, tender_layouts}
use Rattle.messages.specs.Reading.{Says, MessageStands, MessageFaulty}
use Rattle.messages.proofs.Unique.{message_whole, message_alone}

-- no fault has the number 0
numbered : (e : FrameFault) → number_of e ≡ 0 → ⊥
numbered (CutShort place) is = omega arith
numbered TooLong is = omega arith
numbered (UnknownTag place) is = omega arith
numbered (WrongLength place) is = omega arith

-- where a frame has a fault, no message stands
pub placed_fault : (file : List ℕ) (at then : ℕ) (e : FrameFault) → Faulty tender_layouts file at e then → MessageFaulty file at e then
placed_fault file at then e faulty = record {
  number = faulty.number;
  place = faulty.place;
  inside = faulty.inside;
  stays = faulty.stays;
  none = λ m rest fits here. numbered e (faulty.number ∙ ap message_code here ∙ message_whole m rest fits);
}

-- the message of a frame stands where the frame does
placed_message :
    (file : List ℕ) (at then : ℕ) (f : Frame) (p : Placed) →
    Stands tender_layouts file at f then →
    Says f.tag f.value.now (Some p.message) →
    p.place ≡ f.place →
    MessageStands file at p then
placed_message file at then f p frame says place =
    let bytes : frame_bytes f.tag f.value.now ≡ message_bytes p.message =
    ap (λ (n : ℕ). frame_bytes n f.value.now) (sym says.0) ∙ ap (frame_bytes (tag_of p.message)) (sym says.1) in
    let stands = frame.stands ∙ ap (λ (bs : List ℕ). bs ++ drop then file) bytes in
    let goes : then ≡ at + length (message_bytes p.message) = omega (arith, frame.goes, ap length bytes) in
    let moves : at < then = omega (arith, frame.goes) in
    record {
      place = place ∙ frame.place;
      stands = stands;
      goes = goes;
      moves = moves;
      whole = frame.whole;
      fits = says.2;
      alone = λ m rest fits here. message_alone m p.message rest (drop then file) fits says.2 (sym here ∙ stands);
    }

-- the same, of what the reader answers
pub placed_next :
    (file : List ℕ) (at then : ℕ) (o : Option Frame) (f : Frame) (p : Placed) →
    Next tender_layouts file at (Ok o) then →
    o ≡ Some f →
    Says f.tag f.value.now (Some p.message) →
    p.place ≡ f.place →
    MessageStands file at p then
placed_next file at then o f p next is says place =
    placed_message file at then f p (subst (λ (x : Option Frame). Next tender_layouts file at (Ok x) then) is next) says place
