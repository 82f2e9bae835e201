-- What a division by parts and leftover lots gives each claim.
use Rattle.std.specs.Prelude.{◌≡◌, ℕ, ◌+◌, ◌<◌, ◌≤◌, Bool, true, false, cond, ltb, List, [], ◌∷◌, length, get_or, sum_by, nat_lt, slice_index_or, refl}
use Rattle.std.proofs.Common.{⊎_elim, ap, ◌∙◌, arith}
use Rattle.std.proofs.lemmas.List.{length-map, get_or-map}
use Rattle.std.proofs.lemmas.List.Sums.{sum_by-cons, sum-map, count_by-le-length}
use Rattle.std.proofs.lemmas.Bool.{ltb-true, cases_lt, cases_Bool}
use Rattle.sharing.specs.declared.claim.Claim.{Claim}
use Rattle.sharing.specs.declared.leftover.Leftover.{Leftover}
use Rattle.sharing.specs.Claims.{admissible, claimed, nobody, Fair}
use Rattle.sharing.specs.Draws.{Lawful}
use Rattle.sharing.specs.Shares.{part, ahead, ahead_of, left_over, share_of, shareable, divided}
use Rattle.sharing.specs.Admitted.{admitted, limits_at, claimed_pos}
use Rattle.sharing.specs.Leftovers.{served_total}
use Rattle.sharing.specs.Parts.{part_le, part_lt, whole_parts, has_remainder, enough}

-- a lot more, or none
bit : (b : Bool) → cond b 1 0 ≤ 1
bit true = omega arith
bit false = omega arith

odd_le : (n m : ℕ) → cond (nat_lt n m) 1 0 ≤ m
odd_le n m = ⊎_elim (λ (t : ltb n m ≡ true). omega (arith, ltb-true n m t, bit (nat_lt n m))) (λ (f : ltb n m ≡ false). let none : ◌≡◌ {A = ℕ} (cond (nat_lt n m) 1 0) 0 = ap (λ (b : Bool). cond b 1 0) f in omega arith) (cases_Bool (nat_lt n m))

-- the parts come to at most what is shared, and what they leave over is no more than the claims
pub parts_le : (cs : List Claim) → admissible cs ≡ true → (a : ℕ) → (sum_by (part a (claimed cs)) cs ≤ a) × (a ≤ claimed cs → left_over a cs ≤ length cs)
parts_le [] ok a = (omega arith, λ le. omega arith)
parts_le (c ∷ cs) ok a =
    let all = c ∷ cs in
    let both = enough a all (claimed_pos all ok 0 (omega arith)) in
    (both.0, λ le. omega (arith, both.1, count_by-le-length (has_remainder a (claimed all)) all))

module _ (first : Claim → Claim → Bool) (cs : List Claim) (ok : admissible cs ≡ true) (a : ℕ) (le : a ≤ claimed cs) where
  -- a claim's lot more, or none
  abbrev odd : Claim → ℕ
  odd c = cond (nat_lt (ahead_of first cs c) (left_over a cs)) 1 0

  share_within : (i : ℕ) → i < length cs → share_of first cs a (slice_index_or cs i nobody) ≤ (get_or cs i nobody).lots
  share_within i h =
      let k = claimed cs in
      let c = get_or cs i nobody in
      let most = bit (nat_lt (ahead_of first cs c) (left_over a cs)) in
      let left = odd_le (ahead_of first cs c) (left_over a cs) in
      ⊎_elim
      (λ (lt : a < k). omega (arith, part_lt a k c.lots lt (limits_at cs (admitted cs ok).each i h).some))
      (λ (ge : k ≤ a).
      let e : a ≡ k = omega arith in
      let full = ap (λ (n : ℕ). sum_by (part n k) cs) e ∙ whole_parts k (claimed_pos cs ok i h) cs in
      omega (arith, part_le a k c.lots le))
      (cases_lt a k)

sum_of_both : (f g : Claim → ℕ) (cs : List Claim) → sum_by (λ c. f c + g c) cs ≡ sum_by f cs + sum_by g cs
sum_of_both f g [] = refl
sum_of_both f g (c ∷ cs) =
    let both = sum_by-cons (λ (x : Claim). f x + g x) c cs in
    let one = sum_by-cons f c cs in
    let two = sum_by-cons g c cs in
    let rest = sum_of_both f g cs in
    omega arith

pub divided_fair : (by : Leftover) (rank : ℕ → ℕ) → Lawful rank → (cs : List Claim) → admissible cs ≡ true → (amount : ℕ) → Fair cs amount (divided by rank cs amount)
divided_fair by rank lawful cs ok amount =
    let k = claimed cs in
    let a = shareable cs amount in
    let first = ahead by rank a k in
    let f = share_of first cs a in
    let le : a ≤ k = omega arith in
    record {
      one_each = length-map cs f;
      within = λ i h. omega (arith, get_or-map f cs i nobody 0 h, share_within first cs ok a le i h);
      whole =
          let parts = parts_le cs ok a in
          let odds = served_total by rank a k lawful cs ok (left_over a cs) in
          let both = sum_of_both (part a k) (λ (c : Claim). cond (nat_lt (ahead_of first cs c) (left_over a cs)) 1 0) cs in
          let all = sum-map f cs in
          omega (arith, parts.0, parts.1 le);
    }
