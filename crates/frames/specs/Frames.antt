-- Frames as bytes, and what reading and writing them answers.
use Rattle.std.specs.Prelude.{◌≡◌, ℕ, ◌+◌, ◌*◌, ◌/◌, ◌%◌, ◌<◌, ◌≤◌, Bool, false, not, List, [], ◌∷◌, ◌++◌, length, drop, is_some, Some, None, Ok, Err, Option, Result, ◌==◌, nat_lt, slice_index}
use Rattle.stages.specs.Register.{first_of}
use Rattle.frames.specs.declared.fault.FrameFault.{FrameFault}
use Rattle.frames.specs.declared.fault.FrameFault.TheVariants as faults
use Rattle.frames.specs.declared.layout.Layout.{Layout}
use Rattle.frames.specs.declared.reader.Frame.{Frame}
use Rattle.frames.specs.declared.reader.Reader.{Reader}
use Rattle.frames.specs.declared.writer.WriteFault.{WriteFault}
use Rattle.frames.specs.declared.writer.WriteFault.TheVariants.{TooLong, Memory}
use Rattle.frames.specs.Faults.{number_of, place_of}
use Rattle.frames.specs.Layouts.{length_in}

-- The bytes of a frame: its tag, the length of its value in two bytes, the high byte first, and the value.
abbrev pub frame_bytes : ℕ → List ℕ → List ℕ
frame_bytes tag value = tag ∷ (length value / 256) ∷ (length value % 256) ∷ value

-- the tag that stands first in the bytes
abbrev pub said_tag : List ℕ → ℕ
said_tag bs = slice_index bs 0

-- the length that the bytes behind the tag say
abbrev pub said_length : List ℕ → ℕ
said_length bs = slice_index bs 1 * 256 + slice_index bs 2

-- the bytes end before the value that they announce does
abbrev pub cut_short : List ℕ → Bool
cut_short bs = nat_lt (length bs) (3 + said_length bs)

-- a length is the one that is known
abbrev pub is_known : Option ℕ → ℕ → Bool
is_known None n = false
is_known (Some k) n = n == k

-- The judgement of the frame that stands first in the bytes. 20: it is cut short. 21: its tag is unknown. 22: its length is
-- another than that of its tag.
abbrev pub frame_code : List Layout → List ℕ → ℕ
frame_code ls bs =
    first_of (
    (20, cut_short bs) ∷
    (21, not (is_some (length_in ls (said_tag bs)))) ∷
    (22, not (is_known (length_in ls (said_tag bs)) (said_length bs))) ∷
    []
    )

-- What the judgement of the first frame answers: the length of its value, or its fault.
abbrev pub Judged : List Layout → List ℕ → ℕ → Result ℕ FrameFault → Type 0
Judged ls bs place (Ok n) =
    (frame_code ls bs ≡ 0) × (3 + n ≤ length bs) × (length_in ls (said_tag bs) ≡ Some n) × (slice_index bs 1 ≡ n / 256) × (slice_index bs 2 ≡ n % 256)
Judged ls bs place (Err e) = (number_of e ≡ frame_code ls bs) × (place_of e ≡ place)

-- A file of up to 65,536 bytes is read from its start. A longer one is refused.
abbrev pub Opened : List ℕ → Result Reader FrameFault → Type 0
Opened file (Ok r) = (length file ≤ 65536) × (r.file.now ≡ file) × (r.at ≡ 0)
Opened file (Err e) = (65536 < length file) × (e ≡ faults.TooLong)

-- The frame f stands in the file at a place, whole and as its tag asks, and `then` is the place behind it.
pub record Stands (ls : List Layout) (file : List ℕ) (at : ℕ) (f : Frame) (then : ℕ) : Type 0 where
  pub place : f.place ≡ at
  pub stands : drop at file ≡ frame_bytes f.tag f.value.now ++ drop then file
  pub known : length_in ls f.tag ≡ Some (length f.value.now)
  pub goes : then ≡ at + 3 + length f.value.now
  pub whole : then ≤ length file
  pub accepted : frame_code ls (drop at file) ≡ 0

-- The frame at a place has a fault, and the reader stays there.
pub record Faulty (ls : List Layout) (file : List ℕ) (at : ℕ) (e : FrameFault) (then : ℕ) : Type 0 where
  pub number : number_of e ≡ frame_code ls (drop at file)
  pub place : place_of e ≡ at
  pub inside : at < length file
  pub stays : then ≡ at

-- What reading at a place answers, and where it goes on.
abbrev pub Next : List Layout → List ℕ → ℕ → Result (Option Frame) FrameFault → ℕ → Type 0
Next ls file at (Ok None) then = (length file ≤ at) × (then ≡ at)
Next ls file at (Ok (Some f)) then = Stands ls file at f then
Next ls file at (Err e) then = Faulty ls file at e then

-- A frame is written behind what was written before. A value above 65,535 bytes is refused, and so is any for want of memory:
-- then nothing is written.
abbrev pub Written : ℕ → List ℕ → List ℕ → Result (Unit {0}) WriteFault → List ℕ → Type 0
Written tag value before (Ok done) after = (length value ≤ 65535) × (after ≡ before ++ frame_bytes tag value)
Written tag value before (Err TooLong) after = (65535 < length value) × (after ≡ before)
Written tag value before (Err Memory) after = (length value ≤ 65535) × (after ≡ before)
