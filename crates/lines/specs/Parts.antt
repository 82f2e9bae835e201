-- The parts of a line: a marginal price, and a member code.
use Rattle.std.specs.Prelude.{ℕ, ◌/◌, ◌%◌, Bool, cond, ◌&&◌, List, [], ◌∷◌, ◌++◌, Some, None, codes, decimal, Option, nat_le, slice_index}
use Rattle.std.specs.List.{list_all}

-- a price, or `-` where there is none
abbrev pub price_text : Option ℕ → List ℕ
price_text (Some price) = decimal price
price_text None = codes "-"

-- a printable character of ASCII, and no space
abbrev pub is_printable : ℕ → Bool
is_printable byte = nat_le 33 byte && nat_le byte 126

abbrev pub all_printable : List ℕ → Bool
all_printable = list_all is_printable

-- a hexadecimal digit, lower case
abbrev pub digit : ℕ → ℕ
digit n = slice_index (codes "0123456789abcdef") n

-- a byte, as two hexadecimal digits
abbrev pub hex_of : ℕ → List ℕ
hex_of byte = digit (byte / 16) ∷ digit (byte % 16) ∷ []

abbrev pub all_hex : List ℕ → List ℕ
all_hex [] = []
all_hex (byte ∷ bytes) = hex_of byte ++ all_hex bytes

-- a member code: its characters if each can be printed, else `#` and its hexadecimal digits
abbrev pub member_text : List ℕ → List ℕ
member_text member = cond (all_printable member) member (codes "#" ++ all_hex member)
