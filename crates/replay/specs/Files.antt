-- What the reading of a whole file comes to.
use Rattle.std.specs.Prelude.{◌≡◌, ℕ, ◌+◌, ◌<◌, ◌≤◌, false, List, [], ◌∷◌, ◌++◌, map, length, drop}
use Rattle.messages.specs.declared.message.Message.{Message}
use Rattle.messages.specs.declared.message.Message.TheVariants as says
use Rattle.messages.specs.Messages.{Fits, message_bytes, message_code, tag_of}
use Rattle.faults.specs.declared.layer.Layer.{Layer}
use Rattle.faults.specs.declared.layer.Layer.TheVariants.{Frame, Order, Rule}
use Rattle.replay.specs.Stages.{Script, Stage, Step, RefusedBy, in_order, over}
use Rattle.replay.specs.Stages.Stage.{Start, Over}

-- what a file comes to: a run by its script, or a fault of a layer, with its number and place
pub data Verdict : Type 0 where
  Ran : Script → Verdict
  Faulty : Layer → ℕ → ℕ → Verdict

-- The message m stands at the front of the bytes, and `behind` are those behind it.
pub record Stands (rest : List ℕ) (m : Message) (behind : List ℕ) : Type 0 where
  pub bytes : rest ≡ message_bytes m ++ behind
  pub fits : Fits m

-- What the bytes `rest`, from the place `at` of the file on, come to in a stage. The frame at the place is judged by its bytes
-- first, then by its order, then by what it asks for.
pub data Reads : List ℕ → ℕ → Stage → Verdict → Type 0 where
  -- the file ends after the closing
  done : {at : ℕ} {s : Script} → Reads [] at (Over s) (Ran s)
  -- the file ends before it
  ended : {at : ℕ} {s : Stage} → over s ≡ false → Reads [] at s (Faulty Order 23 at)
  -- the frame cannot be read
  broken : {rest : List ℕ} {at : ℕ} {s : Stage} → 0 < length rest → 0 < message_code rest → Reads rest at s (Faulty Frame (message_code rest) at)
  -- its message is out of order
  out_of_order : {rest behind : List ℕ} {at : ℕ} {s : Stage} {m : Message} → Stands rest m behind → in_order s (tag_of m) ≡ false → Reads rest at s (Faulty Order 23 at)
  -- what it asks for is refused
  refused : {rest behind : List ℕ} {at n : ℕ} {s : Stage} {m : Message} → Stands rest m behind → RefusedBy s m n → Reads rest at s (Faulty Rule n at)
  -- it is taken, and the file read on behind it
  taken : {rest behind : List ℕ} {at : ℕ} {s s' : Stage} {m : Message} {v : Verdict} → Stands rest m behind → Step s m s' →
      Reads behind (at + length (message_bytes m)) s' v → Reads rest at s v

-- What a file comes to. One of over 65,536 bytes is a fault, before anything is read.
pub data ComesTo (file : List ℕ) : Verdict → Type 0 where
  too_long : 65536 < length file → ComesTo file (Faulty Frame 20 65536)
  read : {v : Verdict} → length file ≤ 65536 → Reads file 0 Start v → ComesTo file v

-- the file comes to one verdict alone
abbrev pub OneVerdict : List ℕ → Type 0
OneVerdict file = (v w : Verdict) → ComesTo file v → ComesTo file w → v ≡ w

-- From a place and a stage the file is read on at another place in another stage.
abbrev pub Leads : List ℕ → ℕ → Stage → ℕ → Stage → Type 0
Leads file at s then s' = (v : Verdict) → Reads (drop then file) then s' v → Reads (drop at file) at s v

-- the messages of a script, in their order
abbrev pub script_messages : Script → List Message
script_messages s =
    says.Terms s.terms ∷ (map says.Buyer s.buyers ++ (says.Draw s.draw ∷ says.Open s.base ∷ (map says.Call s.calls ++ says.Close s.closing ∷ [])))

-- the bytes of messages, one behind the other
abbrev pub bytes_of : List Message → List ℕ
bytes_of [] = []
bytes_of (m ∷ ms) = message_bytes m ++ bytes_of ms
