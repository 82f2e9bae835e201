-- An odd stride brings no two numbers below 512 to one rank.
use Rattle.std.specs.Prelude.{◌≡◌, ℕ, zero, suc, ◌+◌, ◌-◌, ◌*◌, ◌/◌, ◌%◌, ◌<◌, ◌≤◌}
use Rattle.std.proofs.Common.{sym, ap, ◌∙◌, ⊎_elim, mul-add, add-mul, mul_assoc, mul_left_comm, arith}
use Rattle.std.proofs.lemmas.Bool.{cases_lt}
use Rattle.sharing.specs.Draws.{Lawful, stridden}

-- `double k` is 2 ^ k, by a recursion
abbrev double : ℕ → ℕ
double zero = 1
double (suc k) = 2 * double k

-- where an odd number times d is even, d is even
halved : (a d m : ℕ) → (2 * a + 1) * d ≡ 2 * m → (e : ℕ) × (d ≡ 2 * e) × ((2 * a + 1) * e ≡ m)
halved a d m h =
    let e = m - a * d in
    let spread : (2 * a + 1) * d ≡ 2 * (a * d) + d = rw (add-mul (2 * a) 1 d, mul_assoc 2 a d) (omega arith) in
    let twice : d ≡ 2 * e = omega arith in
    let again : (2 * a + 1) * d ≡ 2 * ((2 * a + 1) * e) = ap (λ (x : ℕ). (2 * a + 1) * x) twice ∙ mul_left_comm (2 * a + 1) 2 e in
    (e, twice, omega arith)

divides : (k a d q : ℕ) → (2 * a + 1) * d ≡ double k * q → (e : ℕ) × (d ≡ double k * e)
divides zero a d q h = (d, omega arith)
divides (suc k) a d q h =
    let less = halved a d (double k * q) (h ∙ mul_assoc 2 (double k) q) in
    let rest = divides k a less.0 q less.2 in
    (rest.0, less.1 ∙ ap (λ (x : ℕ). 2 * x) rest.1 ∙ sym (mul_assoc 2 (double k) rest.0))

-- the numbers i and i + d, with one rank
gap : (s t i d : ℕ) → s % 2 ≡ 1 → i + d ≤ 511 → stridden s t i ≡ stridden s t (i + d) → d ≡ 0
gap s t i d odd high same =
    let a = s / 2 in
    let half : s ≡ 2 * a + 1 = omega arith in
    let q = (s * (i + d) + t) / 512 - (s * i + t) / 512 in
    let multiple : s * d ≡ 512 * q = omega (arith, mul-add s i d) in
    let found = divides 9 a d q (ap (λ (x : ℕ). x * d) (sym half) ∙ multiple) in
    omega (arith, found.1)

pub odd_lawful : (s t : ℕ) → s % 2 ≡ 1 → Lawful (stridden s t)
odd_lawful s t odd = record {
  apart = λ i j hi hj same.
      ⊎_elim
      (λ (le : i < j). let e : i + (j - i) ≡ j = omega arith in omega (arith, gap s t i (j - i) odd (omega arith) (same ∙ ap (stridden s t) (sym e))))
      (λ (le : j ≤ i). let e : j + (i - j) ≡ i = omega arith in omega (arith, gap s t j (i - j) odd (omega arith) (sym same ∙ ap (stridden s t) (sym e))))
      (cases_lt i j);
  small = λ i hi. omega arith;
}
