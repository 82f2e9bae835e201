-- Numbers as bytes, the high byte first.
use Rattle.std.specs.Prelude.{◌≡◌, ℕ, ◌+◌, ◌*◌, ◌/◌, ◌%◌, ◌<◌, List, [], ◌∷◌, length, Some, None, Option, slice_index}

-- a number in two bytes, and in four
abbrev pub two_bytes : ℕ → List ℕ
two_bytes n = (n / 256 % 256) ∷ (n % 256) ∷ []

abbrev pub four_bytes : ℕ → List ℕ
four_bytes n = (n / 16777216 % 256) ∷ (n / 65536 % 256) ∷ (n / 256 % 256) ∷ (n % 256) ∷ []

-- the number that stands in the two bytes at a place, and in the four
abbrev pub two_at : List ℕ → ℕ → ℕ
two_at bs at = slice_index bs at * 256 + slice_index bs (at + 1)

abbrev pub four_at : List ℕ → ℕ → ℕ
four_at bs at = slice_index bs at * 16777216 + slice_index bs (at + 1) * 65536 + slice_index bs (at + 2) * 256 + slice_index bs (at + 3)

-- the four bytes at a place
abbrev pub code_at : List ℕ → ℕ → List ℕ
code_at bs at = slice_index bs at ∷ slice_index bs (at + 1) ∷ slice_index bs (at + 2) ∷ slice_index bs (at + 3) ∷ []

-- what one, two and four bytes can say
abbrev pub Narrow : ℕ → Type 0
Narrow n = n < 256

abbrev pub Half : ℕ → Type 0
Half n = n < 65536

abbrev pub Word : ℕ → Type 0
Word n = n < 4294967296

-- each of a list is a byte
abbrev pub Bytes : List ℕ → Type 0
Bytes bs = (i : ℕ) → Narrow (slice_index bs i)

-- a member's code: four bytes
abbrev pub Code : List ℕ → Type 0
Code bs = (length bs ≡ 4) × Bytes bs

-- What decoding answers: bytes of the width are exactly those of the answer, and others have none.
abbrev pub Decoded : {X : Type 0} → ℕ → (X → List ℕ) → (X → Type 0) → List ℕ → Option X → Type 0
Decoded width bytes Fits value None = length value ≡ width → ⊥
Decoded width bytes Fits value (Some x) = (bytes x ≡ value) × Fits x × (length value ≡ width)
