-- Payments total the receipts, and each is near its part.
use Rattle.std.proofs.Common.{◌≡◌, ℕ, zero, suc, ◌+◌, ◌-◌, ◌*◌, ◌/◌, ◌%◌, ◌<◌, ◌≤◌, eqb, List, [], ◌∷◌, map, sum, sym, refl, ap, ◌∙◌, mul_comm, add-mul, mul-le-mul_left, mul-add, mul_right_comm, arith}
use native.Mathlib.Nat.{mul-div-le, lt-mul-div-succ, mul-add-div_right, div-zero, div-le_of_le-mul, mul-div_cancel_left}
use Rattle.std.proofs.lemmas.Nat.{le-div, div-add-mod'}
use Rattle.std.proofs.lemmas.List.Sums.{sum_by-cons}
use Rattle.std.proofs.lemmas.Bool.{ne_eqb, cond-false}
use Rattle.allotment_theory.specs.Receipts.{part, payments, payments_of, Nearby}
use Rattle.allotment_theory.specs.Theorems.{PaymentsTotal, PaymentsNear}

-- a part times what is due
scaled : (r due l : ℕ) → 0 < due → (due * part r due l ≤ r * l) × (r * l < due * part r due l + due)
scaled r due l pos =
    let low = mul-div-le (r * l) due in
    let high = lt-mul-div-succ (r * l) pos in
    let spread : due * (part r due l + 1) ≡ due * part r due l + due = mul-add due (part r due l) 1 ∙ omega arith in
    (omega arith, omega arith)

pub part_mono : (r due a b : ℕ) → 0 < due → a ≤ b → part r due a ≤ part r due b
part_mono r due a b pos le =
    le-div (part r due a) (r * b) due pos (omega (arith, mul-div-le (r * a) due, mul_comm (part r due a) due, mul-le-mul_left r le))

telescopes : (r due before : ℕ) (ls : List ℕ) → 0 < due → sum (payments r due before ls) + part r due before ≡ part r due (before + sum ls)
telescopes r due before [] pos = let e : before + 0 ≡ before = omega arith in omega (arith, ap (part r due) e)
telescopes r due before (l ∷ ls) pos =
    let pay = part r due (before + l) - part r due before in
    let head = sum_by-cons (λ n. n) pay (payments r due (before + l) ls) in
    let all : before + l + sum ls ≡ before + sum (l ∷ ls) = omega (arith, sum_by-cons (λ n. n) l ls) in
    let up = part_mono r due before (before + l) pos (omega arith) in
    let tail = telescopes r due (before + l) ls pos ∙ ap (part r due) all in
    omega arith

nears : (r due before : ℕ) (ls : List ℕ) → 0 < due → Nearby r due ls (payments r due before ls)
nears r due before [] pos = tt
nears r due before (l ∷ ls) pos =
    let a = part r due before in
    let b = part r due (before + l) in
    let low = scaled r due before pos in
    let high = scaled r due (before + l) pos in
    let spread = mul-add r before l in
    let up = part_mono r due before (before + l) pos (omega arith) in
    let d = b - a in
    let is : b ≡ a + d = omega arith in
    let apart : due * b ≡ due * a + due * d = ap (λ (n : ℕ). due * n) is ∙ mul-add due a d in
    (record { above = omega arith; beneath = omega arith }, nears r due (before + l) ls pos)

pub payments_due : (r due : ℕ) (ls : List ℕ) → 0 < due → payments_of r due ls ≡ payments r due 0 ls
payments_due r due ls pos = cond-false (eqb due 0) (map (λ _. 0) ls) (payments r due 0 ls) (ne_eqb due 0 (λ e. omega arith))

pub payments_total : PaymentsTotal
payments_total r due ls pos all =
    let e = ap sum (payments_due r due ls pos) in
    let t = telescopes r due 0 ls pos in
    let whole : part r due (0 + sum ls) ≡ r = ap (part r due) (omega arith) ∙ ap (λ (n : ℕ). n / due) (mul_comm r due) ∙ mul-div_cancel_left r pos in
    let start : part r due 0 ≡ 0 = omega (arith, (scaled r due 0 pos).0) in
    omega arith

pub payments_near : PaymentsNear
payments_near r due ls pos = rw (payments_due r due ls pos) (nears r due 0 ls pos)

-- a part by quotient and remainder
pub part_split : (r due l : ℕ) → 0 < due → part r due l ≡ r / due * l + r % due * l / due
part_split r due l pos =
    let q = r / due in
    let m = r % due in
    let is : r ≡ q * due + m = omega (arith, div-add-mod' r due) in
    let spread : r * l ≡ q * l * due + m * l = ap (λ (n : ℕ). n * l) is ∙ add-mul (q * due) m l ∙ ap (λ (n : ℕ). n + m * l) (mul_right_comm q due l) in
    ap (λ (n : ℕ). n / due) spread ∙ mul-add-div_right pos (q * l) (m * l)

-- a part of what is due is at most the receipts
pub part_le : (r due l : ℕ) → l ≤ due → part r due l ≤ r
part_le r due l le = div-le_of_le-mul due (omega (arith, mul-le-mul_left r le, mul_comm r due))

none_part : (r l : ℕ) → part r 0 l ≡ 0
none_part r l = div-zero (r * l)

none_paid : (r before : ℕ) (ls : List ℕ) → payments r 0 before ls ≡ map (λ _. 0) ls
none_paid r before [] = refl
none_paid r before (l ∷ ls) =
    let here : part r 0 (before + l) - part r 0 before ≡ 0 = omega (arith, none_part r (before + l)) in
    let ih = none_paid r (before + l) ls in
    cc

-- the payments need no case for nothing due
pub payments_any : (r due : ℕ) (ls : List ℕ) → payments_of r due ls ≡ payments r due 0 ls
payments_any r zero ls = sym (none_paid r 0 ls)
payments_any r (suc n) ls = payments_due r (suc n) ls (omega arith)
