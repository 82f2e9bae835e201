-- A text as a tender file.
use Rattle.std.specs.Prelude.{◌≡◌, ℕ, ◌+◌, ◌<◌, cond, List, [], ◌∷◌, ◌++◌, length, take, Some, None, Ok, Err, vec_items, Option, Result, Vec}
use Rattle.std.specs.declared.alloc.Global.{Global}
use Rattle.messages.specs.Messages.{message_bytes}
use Rattle.encode.specs.declared.failure.Failure.{Failure}
use Rattle.encode.specs.declared.failure.Failure.TheVariants.{Line, TooLong, Memory, Io}
use Rattle.encode.specs.Lines.{message_said, passed_over}
use Rattle.encode.specs.Numbers.{onward}
use Rattle.encode.specs.Pieces.{lines_of, words_of, text_at}

-- The bytes of a line: none if it is passed over, else those of the message that it says.
abbrev pub line_bytes : List ℕ → Option (List ℕ)
line_bytes line =
    cond (passed_over (words_of line)) (Some []) (onward (message_said (words_of line)) (λ m. Some (message_bytes m)))

-- The bytes of lines, one behind the other, if each has some or is passed over.
abbrev pub file_bytes : List (List ℕ) → Option (List ℕ)
file_bytes [] = Some []
file_bytes (l ∷ ls) = onward (line_bytes l) (λ bs. onward (file_bytes ls) (λ more. Some (bs ++ more)))

-- The line at a place, counted from 1, says nothing, and those before it do.
pub record Broken (lines : List (List ℕ)) (number : ℕ) : Type 0 where
  pub place : ℕ
  pub counted : number ≡ place + 1
  pub there : place < length lines
  pub before : List ℕ
  pub whole : file_bytes (take place lines) ≡ Some before
  pub broken : line_bytes (text_at lines place) ≡ None

-- a line is written behind what was written before
abbrev pub LineWritten : List ℕ → ℕ → List ℕ → Result (Unit {0}) Failure → List ℕ → Type 0
LineWritten line number before (Ok done) after = (bs : List ℕ) × (line_bytes line ≡ Some bs) × (after ≡ before ++ bs)
LineWritten line number before (Err (Line n)) after = (n ≡ number) × (line_bytes line ≡ None)
LineWritten line number before (Err Memory) after = Unit {0}
LineWritten line number before (Err TooLong) after = ⊥
LineWritten line number before (Err Io) after = ⊥

-- lines are written behind what was written before, up to the first that says nothing
abbrev pub Progress : List (List ℕ) → List ℕ → Result (Unit {0}) Failure → List ℕ → Type 0
Progress lines before (Ok done) after = (bs : List ℕ) × (file_bytes lines ≡ Some bs) × (after ≡ before ++ bs)
Progress lines before (Err (Line n)) after = Broken lines n
Progress lines before (Err Memory) after = Unit {0}
Progress lines before (Err TooLong) after = ⊥
Progress lines before (Err Io) after = ⊥

-- What the text is answered with: the bytes of its lines, or the number of the first line that says nothing.
abbrev pub Encoded : List ℕ → Result (Vec ℕ Global) Failure → Type 0
Encoded text (Ok v) = file_bytes (lines_of text) ≡ Some (vec_items v)
Encoded text (Err (Line n)) = Broken (lines_of text) n
Encoded text (Err Memory) = Unit {0}
Encoded text (Err TooLong) = ⊥
Encoded text (Err Io) = ⊥
