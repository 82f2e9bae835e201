-- Letters and numbers as words.
use Rattle.std.specs.Prelude.{ℕ, ◌+◌, ◌-◌, ◌*◌, cond, ◌&&◌, List, [], ◌∷◌, length, Some, None, Option, ◌==◌, nat_le, slice_index}

-- what comes of a value, if there is one
abbrev pub onward : {X Y : Type 0} → Option X → (X → Option Y) → Option Y
onward None f = None
onward (Some x) f = f x

-- the one byte of a word
abbrev pub letter_in : List ℕ → Option ℕ
letter_in word = cond (length word == 1) (Some (slice_index word 0)) None

-- a number with one decimal digit more, at most so much
abbrev pub with_digit : ℕ → ℕ → ℕ → Option ℕ
with_digit most n c =
    cond (nat_le 48 c && nat_le c 57) (cond (nat_le (n * 10 + (c - 48)) most) (Some (n * 10 + (c - 48))) None) None

abbrev pub digits : ℕ → ℕ → List ℕ → Option ℕ
digits most n [] = Some n
digits most n (c ∷ cs) = onward (with_digit most n c) (λ m. digits most m cs)

-- the number that a word writes in decimal digits, one or more, if it is at most so much
abbrev pub number_in : ℕ → List ℕ → Option ℕ
number_in most word = cond (length word == 0) None (digits most 0 word)
