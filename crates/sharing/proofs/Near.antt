-- How near shares are to their exact proportions.
use Rattle.std.proofs.Common.{◌≡◌, ℕ, ◌+◌, ◌*◌, ◌/◌, ◌%◌, ◌<◌, ◌≤◌, Bool, true, false, cond, ltb, List, [], ◌∷◌, length, get_or, count_by, refl, ap, ⊎_elim, mod-lt, mul-add, arith}
use native.Mathlib.Nat.{div-add-mod}
use Rattle.std.proofs.lemmas.List.{get_or-map}
use Rattle.std.proofs.lemmas.List.Sums.{sum_by-cons}
use Rattle.std.proofs.lemmas.Bool.{ltb-true, le-ltb, lt-ltb, or_left, cases_lt, false≢true, true≢false}
use Rattle.sharing.specs.declared.claim.Claim.{Claim}
use Rattle.sharing.specs.declared.leftover.Leftover.{Leftover}
use Rattle.sharing.specs.declared.leftover.Leftover.TheVariants.{ByRank, ByRemainder}
use Rattle.sharing.specs.Bounds.{AboutProportional, LessThanALotOff, Near}
use Rattle.sharing.specs.Claims.{admissible, claimed, nobody}
use Rattle.sharing.specs.Shares.{remainder, ahead, ahead_of, left_over, share_of, shareable, divided, proportional, largest_remainder, larger_remainder}
use Rattle.sharing.specs.Admitted.{claimed_pos}
use Rattle.sharing.specs.Parts.{has_remainder, enough}

-- a part with a lot more or none, times k, against what was divided
spread : (n k : ℕ) → 0 < k → (b : Bool) → (n < k * (n / k + cond b 1 0) + k) × (k * (n / k + cond b 1 0) + n % k ≤ n + k) × (b ≡ false → k * (n / k + cond b 1 0) ≤ n)
spread n k pos true =
    let all = div-add-mod n k in
    let less = mod-lt n pos in
    let one = mul-add k (n / k) 1 in
    (omega arith, omega arith, λ f. absurd (true≢false f))
spread n k pos false =
    let all = div-add-mod n k in
    let less = mod-lt n pos in
    let none = mul-add k (n / k) 0 in
    (omega arith, omega arith, λ f. omega arith)

module _ (by : Leftover) (rank : ℕ → ℕ) (cs : List Claim) (ok : admissible cs ≡ true) (amount : ℕ) where
  abbrev first : Claim → Claim → Bool
  first = ahead by rank (shareable cs amount) (claimed cs)

  -- whether the claim at i has a lot more
  abbrev more : ℕ → Bool
  more i = ltb (ahead_of first cs (get_or cs i nobody)) (left_over (shareable cs amount) cs)

  share_at : (i : ℕ) → i < length cs → get_or (divided by rank cs amount) i 0 ≡ share_of first cs (shareable cs amount) (get_or cs i nobody)
  share_at i h = get_or-map (share_of first cs (shareable cs amount)) cs i nobody 0 h

  bounds : (i : ℕ) → i < length cs → let n = shareable cs amount * (get_or cs i nobody).lots in let k = claimed cs in (n < k * get_or (divided by rank cs amount) i 0 + k) × (k * get_or (divided by rank cs amount) i 0 + n % k ≤ n + k) × (more i ≡ false → k * get_or (divided by rank cs amount) i 0 ≤ n)
  bounds i h =
      let a = shareable cs amount in
      let n = a * (get_or cs i nobody).lots in
      let k = claimed cs in
      let found = spread n k (claimed_pos cs ok i h) (more i) in
      let at = ap (λ (s : ℕ). k * s) (share_at i h) in
      (omega (arith, found.0), omega (arith, found.1), λ f. omega (arith, found.2 f))

pub proportional_near : (rank : ℕ → ℕ) (cs : List Claim) → admissible cs ≡ true → (amount : ℕ) → AboutProportional cs amount (proportional rank cs amount)
proportional_near rank cs ok amount = record {
  not_a_lot_below = λ i h. (bounds ByRank rank cs ok amount i h).0;
  at_most_a_lot_above = λ i h. omega (arith, (bounds ByRank rank cs ok amount i h).1);
}

one_le : (p q : Bool) → (p ≡ true → q ≡ true) → cond p 1 0 ≤ cond q 1 0
one_le false q h = omega arith
one_le true true h = omega arith
one_le true false h = absurd (false≢true (h refl))

module _ (rank : ℕ → ℕ) (a k : ℕ) (c : Claim) (zero : remainder a k c ≡ 0) where
  one_ahead : (d : Claim) → has_remainder a k d ≡ true → larger_remainder rank a k d c ≡ true
  one_ahead d t = or_left (ltb (remainder a k c) (remainder a k d)) _ (lt-ltb (remainder a k c) (remainder a k d) (omega (arith, ltb-true 0 (remainder a k d) t)))

  -- a claim without a remainder comes behind all that have one
  behind_all : (cs : List Claim) → count_by (has_remainder a k) cs ≤ ahead_of (larger_remainder rank a k) cs c
  behind_all [] = omega arith
  behind_all (d ∷ ds) =
      let one = sum_by-cons (λ (x : Claim). cond (has_remainder a k x) 1 0) d ds in
      let two = sum_by-cons (λ (x : Claim). cond (larger_remainder rank a k x c) 1 0) d ds in
      let rest = behind_all ds in
      let here = one_le (has_remainder a k d) (larger_remainder rank a k d c) (one_ahead d) in
      omega arith

-- so it has no lot more
no_more : (rank : ℕ → ℕ) (cs : List Claim) (ok : admissible cs ≡ true) (amount i : ℕ) → i < length cs → remainder (shareable cs amount) (claimed cs) (get_or cs i nobody) ≡ 0 → more ByRemainder rank cs ok amount i ≡ false
no_more rank cs ok amount i h zero =
    let a = shareable cs amount in
    let k = claimed cs in
    let c = get_or cs i nobody in
    le-ltb (ahead_of (larger_remainder rank a k) cs c) (left_over a cs) (omega (arith, behind_all rank a k c zero cs, (enough a cs (claimed_pos cs ok i h)).1))

pub remainder_near : (rank : ℕ → ℕ) (cs : List Claim) → admissible cs ≡ true → (amount : ℕ) → LessThanALotOff cs amount (largest_remainder rank cs amount)
remainder_near rank cs ok amount = record {
  below = λ i h. (bounds ByRemainder rank cs ok amount i h).0;
  above = λ i h.
      let k = claimed cs in
      let c = get_or cs i nobody in
      let r = remainder (shareable cs amount) k c in
      let found = bounds ByRemainder rank cs ok amount i h in
      let pos = claimed_pos cs ok i h in
      ⊎_elim
      (λ (some : 0 < r). omega (arith, found.1))
      (λ (none : r ≤ 0). omega (arith, found.2 (no_more rank cs ok amount i h (omega arith))))
      (cases_lt 0 r);
}

pub divided_near : (by : Leftover) (rank : ℕ → ℕ) (cs : List Claim) → admissible cs ≡ true → (amount : ℕ) → Near by cs amount (divided by rank cs amount)
divided_near ByRank = proportional_near
divided_near ByRemainder = remainder_near
