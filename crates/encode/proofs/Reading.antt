-- Numbers, one digit at a time.
use Rattle.std.proofs.Common.{◌≡◌, ℕ, ◌+◌, ◌<◌, eqb, List, length, get_or, drop, None, ap}
use Rattle.std.proofs.lemmas.List.{drop_more}
use Rattle.std.proofs.lemmas.Bool.{cond-false, ne_eqb}
use Rattle.encode.specs.Numbers.{onward, with_digit, digits, number_in}

-- the first of the digits that are left, and the others
pub digits_more :
    (most n : ℕ) (w : List ℕ) (i : ℕ) →
    i < length w →
    digits most n (drop i w) ≡ onward (with_digit most n (get_or w i 0)) (λ m. digits most m (drop (i + 1) w))
digits_more most n w i lt = ap (digits most n) (drop_more w i 0 lt)

-- a word that is not empty is read digit by digit
pub number_some : (most : ℕ) (w : List ℕ) → (length w ≡ 0 → ⊥) → number_in most w ≡ digits most 0 w
number_some most w some = cond-false (eqb (length w) 0) None (digits most 0 w) (ne_eqb (length w) 0 some)
