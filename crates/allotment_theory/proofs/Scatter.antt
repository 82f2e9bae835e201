-- Fills written by the numbers of their offers keep their total.
use Rattle.std.proofs.Common.{◌≡◌, ℕ, zero, suc, ◌+◌, ◌<◌, ◌≤◌, List, [], ◌∷◌, map, length, get_or, set, replicate, sum, sym, refl, ap, ◌∙◌, arith}
use Rattle.std.specs.List.{AllByRecursion}
use Rattle.std.proofs.lemmas.List.Sums.{sum_by-cons, sum_by-set}
use Rattle.std.proofs.lemmas.List.{length-set, get_or-set_same, get_or-set_other, get_or-replicate}
use Rattle.std.proofs.ByRecursion.{All-weaker}
use Rattle.book.specs.declared.offer.Offer.{Offer}
use Rattle.book.specs.Soundness.{Apart}
use Rattle.allotment_theory.specs.Fills.{scattered, gathered}
use Rattle.allotment_theory.specs.Theorems.{ScatterTotal, Gathers}

-- what stands at the numbers of the offers is 0, and stays so at the other numbers
abbrev Free : List ℕ → Offer → Type 0
Free row o = (o.number < length row) × (get_or row o.number 0 ≡ 0)

still : (row : List ℕ) (o : Offer) (x : ℕ) (os : List Offer) → AllByRecursion (λ q. q.number ≡ o.number → ⊥) os → AllByRecursion (Free row) os → AllByRecursion (Free (set row o.number x)) os
still row o x [] apart free = tt
still row o x (q ∷ qs) apart free =
    let long = length-set row o.number x in
    let same = get_or-set_other row o.number q.number x 0 apart.0 in
    ((omega (arith, free.0.0), same ∙ free.0.1), still row o x qs apart.1 free.1)

adds : (os : List Offer) (xs row : List ℕ) → Apart os → AllByRecursion (Free row) os → length xs ≡ length os → sum (scattered os xs row) ≡ sum row + sum xs
adds [] [] row apart free long = omega arith
adds [] (x ∷ xs) row apart free long = absurd (omega arith)
adds (o ∷ os) [] row apart free long = absurd (omega arith)
adds (o ∷ os) (x ∷ xs) row apart free long =
    let put = sum_by-set (λ n. n) row o.number x 0 free.0.0 in
    let ih = adds os xs (set row o.number x) apart.1 (still row o x os apart.0 free.1) (omega arith) in
    omega (arith, sum_by-cons (λ n. n) x xs, free.0.1)

zeros : (n : ℕ) → sum (replicate n 0) ≡ 0
zeros zero = refl
zeros (suc n) = omega (arith, sum_by-cons (λ (k : ℕ). k) 0 (replicate n 0), zeros n)

fresh : (os : List Offer) → AllByRecursion (λ o. o.number ≤ 511) os → AllByRecursion (Free (replicate 512 0)) os
fresh [] small = tt
fresh (o ∷ os) small = ((omega (arith, small.0), get_or-replicate 512 o.number 0 0 (omega (arith, small.0))), fresh os small.1)

pub scatter_total : ScatterTotal
scatter_total os xs apart small long = omega (arith, adds os xs (replicate 512 0) apart (fresh os small) long, zeros 512)

-- a number that none of the offers has keeps what stands there
untouched : (n : ℕ) (os : List Offer) (xs row : List ℕ) → AllByRecursion (λ q. n ≡ q.number → ⊥) os → get_or (scattered os xs row) n 0 ≡ get_or row n 0
untouched n [] xs row a = refl
untouched n (o ∷ os) [] row a = refl
untouched n (o ∷ os) (x ∷ xs) row a = untouched n os xs (set row o.number x) a.1 ∙ get_or-set_other row o.number n x 0 a.0

gathers_from : (os : List Offer) (xs row : List ℕ) → Apart os → AllByRecursion (λ o. o.number < length row) os → length xs ≡ length os → gathered os (scattered os xs row) ≡ xs
gathers_from [] [] row apart small long = refl
gathers_from [] (x ∷ xs) row apart small long = absurd (omega arith)
gathers_from (o ∷ os) [] row apart small long = absurd (omega arith)
gathers_from (o ∷ os) (x ∷ xs) row apart small long =
    let row' = set row o.number x in
    let here = untouched o.number os xs row' (All-weaker (λ (q : Offer). q.number ≡ o.number → ⊥) (λ (q : Offer). o.number ≡ q.number → ⊥) (λ q h e. h (sym e)) os apart.0) ∙ get_or-set_same row o.number x 0 small.0 in
    let size = length-set row o.number x in
    let ih = gathers_from os xs row' apart.1 (All-weaker (λ (q : Offer). q.number < length row) (λ (q : Offer). q.number < length row') (λ q h. omega arith) os small.1) (omega arith) in
    cc

pub gathers : Gathers
gathers os xs apart small long =
    gathers_from os xs (replicate 512 0) apart
    (All-weaker (λ (q : Offer). q.number ≤ 511) (λ (q : Offer). q.number < 512) (λ q h. omega arith) os small) long

set_zero : (n k : ℕ) → set {A = ℕ} (replicate n 0) k 0 ≡ replicate n 0
set_zero zero k = refl
set_zero (suc n) zero = refl
set_zero (suc n) (suc k) = ap (λ (l : List ℕ). 0 ∷ l) (set_zero n k)

-- where nothing is filled, the row is empty
pub zero_row : (n : ℕ) (os : List Offer) → scattered os (map (λ _. 0) os) (replicate n 0) ≡ replicate n 0
zero_row n [] = refl
zero_row n (o ∷ os) = ap (λ (l : List ℕ). scattered os (map (λ _. 0) os) l) (set_zero n o.number) ∙ zero_row n os
