-- Member codes as words: four printable characters, or # and eight hexadecimal digits.
use Rattle.std.specs.Prelude.{ℕ, ◌+◌, ◌-◌, ◌*◌, Bool, cond, ◌&&◌, List, [], ◌∷◌, length, Some, None, Option, ◌==◌, nat_le, slice_index}
use Rattle.std.specs.Char.{is_ascii_graphic}
use Rattle.std.specs.List.{list_all}
use Rattle.encode.specs.Numbers.{onward}

-- each byte is a printable character and no space: from 33 to 126
abbrev pub all_graphic : List ℕ → Bool
all_graphic word = list_all is_ascii_graphic word

-- the value of a digit: 0 to 9, a to f or A to F
abbrev pub hex_digit : ℕ → Option ℕ
hex_digit c =
    cond (nat_le 48 c && nat_le c 57) (Some (c - 48))
    (cond (nat_le 97 c && nat_le c 102) (Some (c - 97 + 10)) (cond (nat_le 65 c && nat_le c 70) (Some (c - 65 + 10)) None))

abbrev pub hex_byte : ℕ → ℕ → Option ℕ
hex_byte high low = onward (hex_digit high) (λ h. onward (hex_digit low) (λ l. Some (h * 16 + l)))

-- the four bytes of the eight digits behind the first byte
abbrev pub hex_code : List ℕ → Option (List ℕ)
hex_code word =
    onward (hex_byte (slice_index word 1) (slice_index word 2)) (λ a.
    onward (hex_byte (slice_index word 3) (slice_index word 4)) (λ b.
    onward (hex_byte (slice_index word 5) (slice_index word 6)) (λ c.
    onward (hex_byte (slice_index word 7) (slice_index word 8)) (λ d. Some (a ∷ b ∷ c ∷ d ∷ [])))))

-- the code that a word writes
abbrev pub code_in : List ℕ → Option (List ℕ)
code_in word =
    cond (length word == 9 && slice_index word 0 == 35) (hex_code word)
    (cond (length word == 4 && all_graphic word) (Some word) None)
