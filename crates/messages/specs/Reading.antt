-- What reading and writing the messages of a tender file answers.
use Rattle.std.specs.Prelude.{◌≡◌, ℕ, ◌+◌, ◌<◌, ◌≤◌, List, ◌++◌, length, drop, Some, None, Ok, Err, Option, Result, ◌≢◌}
use Rattle.frames.specs.declared.fault.FrameFault.{FrameFault}
use Rattle.frames.specs.declared.fault.FrameFault.TheVariants.{TooLong}
use Rattle.frames.specs.declared.writer.WriteFault.{WriteFault}
use Rattle.frames.specs.declared.writer.WriteFault.TheVariants.{Memory}
use Rattle.frames.specs.Faults.{number_of, place_of}
use Rattle.frames.specs.Layouts.{length_in}
use Rattle.messages.specs.declared.message.Message.{Message}
use Rattle.messages.specs.declared.reader.MessageReader.{MessageReader}
use Rattle.messages.specs.declared.reader.Placed.{Placed}
use Rattle.messages.specs.Messages.{tag_of, value_bytes, message_bytes, message_code, tender_layouts, Fits}

-- the file that is read, and the place of the next message
abbrev pub file_of : MessageReader → List ℕ
file_of r = r.reader.file.now

abbrev pub next_place : MessageReader → ℕ
next_place r = r.reader.at

-- A file of up to 65,536 bytes is read from its start. A longer one is refused.
abbrev pub OpenedAt : List ℕ → Result MessageReader FrameFault → Type 0
OpenedAt file (Ok r) = (length file ≤ 65536) × (file_of r ≡ file) × (next_place r ≡ 0)
OpenedAt file (Err e) = (65536 < length file) × (e ≡ TooLong)

-- What a tag and a value say: the message with just that tag and those bytes, unless the tag is unknown or has another length.
abbrev pub Says : ℕ → List ℕ → Option Message → Type 0
Says tag value None = length_in tender_layouts tag ≡ Some (length value) → ⊥
Says tag value (Some m) = (tag_of m ≡ tag) × (value_bytes m ≡ value) × Fits m

-- The message stands in the file at a place, and `then` is the place behind it. No other message stands there.
pub record MessageStands (file : List ℕ) (at : ℕ) (p : Placed) (then : ℕ) : Type 0 where
  pub place : p.place ≡ at
  pub stands : drop at file ≡ message_bytes p.message ++ drop then file
  pub goes : then ≡ at + length (message_bytes p.message)
  pub moves : at < then
  pub whole : then ≤ length file
  pub fits : Fits p.message
  pub alone : (m : Message) (rest : List ℕ) → Fits m → drop at file ≡ message_bytes m ++ rest → (m ≡ p.message) × (rest ≡ drop then file)

-- The frame at a place has a fault, and the reader stays there. No message stands there.
pub record MessageFaulty (file : List ℕ) (at : ℕ) (e : FrameFault) (then : ℕ) : Type 0 where
  pub number : number_of e ≡ message_code (drop at file)
  pub place : place_of e ≡ at
  pub inside : at < length file
  pub stays : then ≡ at
  pub none : (m : Message) (rest : List ℕ) → Fits m → drop at file ≢ message_bytes m ++ rest

-- What reading a message at a place answers, and where it goes on.
abbrev pub NextMessage : List ℕ → ℕ → Result (Option Placed) FrameFault → ℕ → Type 0
NextMessage file at (Ok None) then = (length file ≤ at) × (then ≡ at)
NextMessage file at (Ok (Some p)) then = MessageStands file at p then
NextMessage file at (Err e) then = MessageFaulty file at e then

-- A message is written behind what was written before. For want of memory, and then alone, nothing is written.
abbrev pub MessageWritten : Message → List ℕ → Result (Unit {0}) WriteFault → List ℕ → Type 0
MessageWritten m before (Ok done) after = after ≡ before ++ message_bytes m
MessageWritten m before (Err e) after = (e ≡ Memory) × (after ≡ before)
