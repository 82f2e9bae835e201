-- A row of 512 ranks, no two equal, is a draw.
use Rattle.std.specs.Prelude.{◌≡◌, ℕ, zero, suc, ◌<◌, true, not, List, [], ◌∷◌, length, ◌==◌, slice_index, refl}
use Rattle.std.proofs.Common.{sym, ap, le_of_suc-le-suc, not-suc-le-zero, arith}
use Rattle.std.proofs.lemmas.Bool.{and_parts, or_left, or_right, eq-eqb, not-true, both_ways}
use Rattle.sharing.specs.Distinct.{among, distinct}
use Rattle.sharing.specs.Draws.{Lawful, Narrow}

-- what stands at a place of the list is among it
pub at_among : (xs : List ℕ) (i n : ℕ) → i < length xs → n ≡ slice_index xs i → among n xs ≡ true
at_among [] i n h e = absurd (not-suc-le-zero h)
at_among (x ∷ xs) zero n h e = or_left (n == x) (among n xs) (eq-eqb n x e)
at_among (x ∷ xs) (suc i) n h e = or_right (n == x) (among n xs) (at_among xs i n (le_of_suc-le-suc h) e)

-- two places of a list of distinct numbers hold different ones
pub distinct_apart : (xs : List ℕ) → distinct xs ≡ true → (i j : ℕ) → i < length xs → j < length xs → slice_index xs i ≡ slice_index xs j → i ≡ j
distinct_apart [] d i j hi hj e = absurd (not-suc-le-zero hi)
distinct_apart (x ∷ xs) d zero zero hi hj e = refl
distinct_apart (x ∷ xs) d zero (suc j) hi hj e =
    absurd (both_ways (among x xs) (not-true (among x xs) (and_parts (not (among x xs)) (distinct xs) d).0) (at_among xs j x (le_of_suc-le-suc hj) e))
distinct_apart (x ∷ xs) d (suc i) zero hi hj e =
    absurd (both_ways (among x xs) (not-true (among x xs) (and_parts (not (among x xs)) (distinct xs) d).0) (at_among xs i x (le_of_suc-le-suc hi) (sym e)))
distinct_apart (x ∷ xs) d (suc i) (suc j) hi hj e =
    ap suc (distinct_apart xs (and_parts (not (among x xs)) (distinct xs) d).1 i j (le_of_suc-le-suc hi) (le_of_suc-le-suc hj) e)

pub row_lawful : (ranks : List ℕ) → length ranks ≡ 512 → distinct ranks ≡ true → Narrow ranks → Lawful (λ n. slice_index ranks n)
row_lawful ranks long apart narrow = record {
  apart = λ i j hi hj same. distinct_apart ranks apart i j (omega arith) (omega arith) same;
  small = λ i hi. narrow i (omega arith);
}
