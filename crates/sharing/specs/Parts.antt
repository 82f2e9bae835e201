-- Parts with the fraction dropped, and what they leave over.
use Rattle.std.specs.Prelude.{◌≡◌, ℕ, ◌+◌, ◌*◌, ◌/◌, ◌<◌, ◌≤◌, Bool, true, false, cond, List, [], ◌∷◌, sum_by, count_by, nat_lt, refl}
use Rattle.std.proofs.Common.{ap, ◌∙◌, mul-add, mul_comm, mul-le-mul_right, mul-lt-mul_of_pos_right, mod-lt, arith}
use Rattle.std.proofs.Math.Nat.{le_of_mul-le-mul_left, div-le_of_le-mul, div-add-mod, mul-div_cancel_left}
use Rattle.std.proofs.lemmas.Nat.{div_below}
use Rattle.std.proofs.lemmas.List.Sums.{sum_by-cons}
use Rattle.std.proofs.lemmas.Bool.{ltb-false}
use Rattle.sharing.specs.declared.claim.Claim.{Claim}
use Rattle.sharing.specs.Claims.{claimed}
use Rattle.sharing.specs.Shares.{part, remainder, left_over}

-- a part is at most the claim, and less where less is shared than claimed
pub part_le : (a k l : ℕ) → a ≤ k → a * l / k ≤ l
part_le a k l le = div-le_of_le-mul k (mul-le-mul_right l le)

pub part_lt : (a k l : ℕ) → a < k → 0 < l → a * l / k < l
part_lt a k l lt pos = div_below (a * l) k l (omega arith) (omega (arith, mul-lt-mul_of_pos_right lt pos, mul_comm l k))

-- where all that is claimed is shared, the parts are the claims
pub whole_parts : (k : ℕ) → 0 < k → (cs : List Claim) → sum_by (part k k) cs ≡ claimed cs
whole_parts k pos [] = refl
whole_parts k pos (c ∷ cs) =
    let one = sum_by-cons (part k k) c cs in
    let two = sum_by-cons (λ (x : Claim). x.lots) c cs in
    let here = mul-div_cancel_left c.lots pos in
    let rest = whole_parts k pos cs in
    omega arith

-- whether a claim's division leaves a remainder
abbrev pub has_remainder : ℕ → ℕ → Claim → Bool
has_remainder a k c = nat_lt 0 (remainder a k c)

-- the parts, times k, and the remainders come to all that was divided
parts_and_remainders : (a k : ℕ) (cs : List Claim) → k * sum_by (part a k) cs + sum_by (remainder a k) cs ≡ a * claimed cs
parts_and_remainders a k [] = omega arith
parts_and_remainders a k (c ∷ cs) =
    let rest = parts_and_remainders a k cs in
    let p = part a k c in
    let one = ap (λ (n : ℕ). k * n) (sum_by-cons (part a k) c cs) ∙ mul-add k p (sum_by (part a k) cs) in
    let two = ap (λ (n : ℕ). a * n) (sum_by-cons (λ (x : Claim). x.lots) c cs) ∙ mul-add a c.lots (claimed cs) in
    let three = sum_by-cons (remainder a k) c cs in
    let here = div-add-mod (a * c.lots) k in
    omega arith

-- the remainders come to less than k for each claim that has one
bit : (b : Bool) (r k : ℕ) → r < k → (b ≡ false → r ≤ 0) → r ≤ k * cond b 1 0
bit true r k lt z = omega arith
bit false r k lt z = omega (arith, z refl)

remainders_le : (a k : ℕ) → 0 < k → (cs : List Claim) → sum_by (remainder a k) cs ≤ k * count_by (has_remainder a k) cs
remainders_le a k pos [] = omega arith
remainders_le a k pos (c ∷ cs) =
    let rest = remainders_le a k pos cs in
    let b = has_remainder a k c in
    let one = sum_by-cons (remainder a k) c cs in
    let two = ap (λ (n : ℕ). k * n) (sum_by-cons (λ (x : Claim). cond (has_remainder a k x) 1 0) c cs) ∙ mul-add k (cond b 1 0) (count_by (has_remainder a k) cs) in
    let here = bit b (remainder a k c) k (mod-lt (a * c.lots) pos) (λ f. ltb-false 0 (remainder a k c) f) in
    omega arith

-- the parts come to at most what is shared, and the lots left over are no more than the claims with a remainder
pub enough :
    (a : ℕ) (cs : List Claim) →
    0 < claimed cs →
    (sum_by (part a (claimed cs)) cs ≤ a) × (left_over a cs ≤ count_by (has_remainder a (claimed cs)) cs)
enough a cs pos =
    let k = claimed cs in
    let s = sum_by (part a k) cs in
    let n = count_by (has_remainder a k) cs in
    let all = parts_and_remainders a k cs in
    let few = remainders_le a k pos cs in
    let turned = mul_comm a k in
    let joined = mul-add k s n in
    let low : s ≤ a = le_of_mul-le-mul_left {k = k} (omega arith) pos in
    let high : a ≤ s + n = le_of_mul-le-mul_left {k = k} (omega arith) pos in
    (low, omega arith)
