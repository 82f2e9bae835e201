-- Fills total what is due, and are cut at the marginal price.
use Rattle.std.proofs.Common.{◌≡◌, ℕ, zero, suc, ◌+◌, ◌<◌, ◌≤◌, cond, eqb, ltb, leb, List, [], ◌∷◌, map, length, get_or, sum, filter, refl, ap, ◌∙◌, ⊎_elim, arith}
use Rattle.std.proofs.lemmas.List.Sums.{sum_by-cons}
use Rattle.std.proofs.lemmas.Bool.{cases_eq, ne_eqb, eq-eqb, cond-true, cond-false}
use Rattle.std.proofs.lemmas.Bool.Decides.{nat_tests}
use Rattle.sharing.specs.declared.claim.Claim.{Claim}
use Rattle.sharing.specs.Claims.{claimed, nobody}
use Rattle.book.specs.declared.offer.Offer.{Offer}
use Rattle.allotment_theory.specs.Offered.{up_to, below, Marginal}
use Rattle.allotment_theory.specs.Fills.{Paired, Cut, tied, fill_one, filled, fills_at, first, rest, claim_of}
use Rattle.allotment_theory.specs.Theorems.{FillsTotal, FillsCut}

-- a share for each claim, at most its lots
abbrev Under : List Claim → List ℕ → Type 0
Under [] [] = Unit {0}
Under [] (x ∷ xs) = ⊥
Under (c ∷ cs) [] = ⊥
Under (c ∷ cs) (x ∷ xs) = (x ≤ c.lots) × Under cs xs

under : (cs : List Claim) (xs : List ℕ) → length xs ≡ length cs → ((i : ℕ) → i < length cs → get_or xs i 0 ≤ (get_or cs i nobody).lots) → Under cs xs
under [] [] long le = tt
under [] (x ∷ xs) long le = absurd (omega arith)
under (c ∷ cs) [] long le = absurd (omega arith)
under (c ∷ cs) (x ∷ xs) long le = (le 0 (omega arith), under cs xs (omega arith) (λ i h. le (suc i) (omega arith)))

-- the first of some shares, and the others
under_parts : (c : Claim) (cs : List Claim) (ss : List ℕ) → Under (c ∷ cs) ss → (first ss ≤ c.lots) × Under cs (rest ss)
under_parts c cs [] u = absurd u
under_parts c cs (s ∷ ss) u = u

pub long_parts : (n : ℕ) (ss : List ℕ) → length ss ≡ suc n → (ss ≡ first ss ∷ rest ss) × (length (rest ss) ≡ n)
long_parts n [] e = absurd (omega arith)
long_parts n (s ∷ ss) e = (refl, omega arith)

-- one offer more, at the price and off it
module _ (p : ℕ) (o : Offer) where
  pub shares_at : (ss : List ℕ) → o.price ≡ p → cond (eqb o.price p) (rest ss) ss ≡ rest ss
  shares_at ss e = cond-true (eqb o.price p) (rest ss) ss (eq-eqb _ _ e)

  pub shares_off : (ss : List ℕ) → (o.price ≡ p → ⊥) → cond (eqb o.price p) (rest ss) ss ≡ ss
  shares_off ss e = cond-false (eqb o.price p) (rest ss) ss (ne_eqb _ _ e)

  pub tied_at : (os : List Offer) → o.price ≡ p → tied p (o ∷ os) ≡ claim_of o ∷ tied p os
  tied_at os e = ap (map claim_of) (cond-true (eqb o.price p) (o ∷ filter (λ o. eqb o.price p) os) _ (eq-eqb _ _ e))

  pub tied_off : (os : List Offer) → (o.price ≡ p → ⊥) → tied p (o ∷ os) ≡ tied p os
  tied_off os e = ap (map claim_of) (cond-false (eqb o.price p) (o ∷ filter (λ o. eqb o.price p) os) _ (ne_eqb _ _ e))

  cut_one : (s : ℕ) → (o.price ≡ p → s ≤ o.lots) → Cut p o (fill_one p o s)
  cut_one s le = record { within = grind (arith, nat_tests, le); whole = λ h. grind (arith, nat_tests); nothing = λ h. grind (arith, nat_tests) }

  abbrev below_one : ℕ
  below_one = cond (ltb o.price p) o.lots 0

  one_at : (s : ℕ) → o.price ≡ p → fill_one p o s ≡ below_one + s
  one_at s e = grind (arith, nat_tests)

  one_off : (s : ℕ) → (o.price ≡ p → ⊥) → fill_one p o s ≡ below_one
  one_off s e = grind (arith, nat_tests)

-- the fills are cut at the price
cut : (p : ℕ) (os : List Offer) (ss : List ℕ) → Under (tied p os) ss → Paired (Cut p) os (filled p os ss)
cut p [] ss u = tt
cut p (o ∷ os) ss u =
    ⊎_elim
    (λ (e : o.price ≡ p).
    let v = under_parts (claim_of o) (tied p os) ss (rw (tied_at p o os e) at u) in
    (cut_one p o (first ss) (λ _. v.0), rw (shares_at p o ss e) (cut p os (rest ss) v.1)))
    (λ (e : o.price ≡ p → ⊥).
    (cut_one p o (first ss) (λ h. absurd (e h)), rw (shares_off p o ss e) (cut p os ss (rw (tied_off p o os e) at u))))
    (cases_eq o.price p)

-- they come to what is below the price, with the shares
comes : (p : ℕ) (os : List Offer) (ss : List ℕ) → length ss ≡ length (tied p os) → sum (filled p os ss) ≡ below p os + sum ss
comes p [] [] long = refl
comes p [] (s ∷ ss) long = absurd (omega arith)
comes p (o ∷ os) ss long =
    let more = sum_by-cons (below_one p) o os in
    let x = fill_one p o (first ss) in
    ⊎_elim
    (λ (e : o.price ≡ p).
    let parts = long_parts (length (tied p os)) ss (long ∙ ap length (tied_at p o os e)) in
    let all = sum_by-cons (λ n. n) x (filled p os (rest ss)) in
    let own = ap sum parts.0 ∙ sum_by-cons (λ n. n) (first ss) (rest ss) in
    let left = ap (λ (l : List ℕ). sum (x ∷ filled p os l)) (shares_at p o ss e) in
    omega (arith, one_at p o (first ss) e, comes p os (rest ss) parts.1))
    (λ (e : o.price ≡ p → ⊥).
    let all = sum_by-cons (λ n. n) x (filled p os ss) in
    let left = ap (λ (l : List ℕ). sum (x ∷ filled p os l)) (shares_off p o ss e) in
    omega (arith, one_off p o (first ss) e, comes p os ss (long ∙ ap length (tied_off p o os e))))
    (cases_eq o.price p)

-- the fills at the price are the shares
pub ties : (p : ℕ) (os : List Offer) (ss : List ℕ) → length ss ≡ length (tied p os) → fills_at p os (filled p os ss) ≡ ss
ties p [] [] long = refl
ties p [] (s ∷ ss) long = absurd (omega arith)
ties p (o ∷ os) ss long =
    let x = fill_one p o (first ss) in
    let fs = filled p os (cond (eqb o.price p) (rest ss) ss) in
    ⊎_elim
    (λ (e : o.price ≡ p).
    let parts = long_parts (length (tied p os)) ss (long ∙ ap length (tied_at p o os e)) in
    let here = cond-true (eqb o.price p) (x ∷ fills_at p os fs) (fills_at p os fs) (eq-eqb _ _ e) in
    let left = shares_at p o ss e in
    let own : x ≡ first ss = grind (arith, nat_tests) in
    let ih = ties p os (rest ss) parts.1 in
    let whole = parts.0 in
    cc)
    (λ (e : o.price ≡ p → ⊥).
    let here = cond-false (eqb o.price p) (x ∷ fills_at p os fs) (fills_at p os fs) (ne_eqb _ _ e) in
    let left = shares_off p o ss e in
    let ih = ties p os ss (long ∙ ap length (tied_off p o os e)) in
    cc)
    (cases_eq o.price p)

-- what is offered up to the price is what is below it and what is tied
pub splits : (p : ℕ) (os : List Offer) → up_to p os ≡ below p os + claimed (tied p os)
splits p [] = refl
splits p (o ∷ os) =
    let one = sum_by-cons (λ (q : Offer). cond (leb q.price p) q.lots 0) o os in
    let two = sum_by-cons (below_one p) o os in
    let ih = splits p os in
    ⊎_elim
    (λ (e : o.price ≡ p).
    let here : cond (leb o.price p) o.lots 0 ≡ below_one p o + o.lots = grind (arith, nat_tests) in
    omega (arith, ap claimed (tied_at p o os e), sum_by-cons (λ (c : Claim). c.lots) (claim_of o) (tied p os)))
    (λ (e : o.price ≡ p → ⊥).
    let here : cond (leb o.price p) o.lots 0 ≡ below_one p o = grind (arith, nat_tests) in
    omega (arith, ap claimed (tied_off p o os e)))
    (cases_eq o.price p)

-- what is below a price is what is offered up to the price before it
beneath : (p : ℕ) (os : List Offer) → below (suc p) os ≡ up_to p os
beneath p [] = refl
beneath p (o ∷ os) =
    let one = sum_by-cons (λ (q : Offer). cond (leb q.price p) q.lots 0) o os in
    let two = sum_by-cons (λ (q : Offer). cond (ltb q.price (suc p)) q.lots 0) o os in
    let here : cond (ltb o.price (suc p)) o.lots 0 ≡ cond (leb o.price p) o.lots 0 = grind (arith, nat_tests) in
    omega (arith, beneath p os)

nothing_below : (os : List Offer) → below 0 os ≡ 0
nothing_below [] = refl
nothing_below (o ∷ os) =
    let two = sum_by-cons (λ (q : Offer). cond (ltb q.price 0) q.lots 0) o os in
    let here : cond (ltb o.price 0) o.lots 0 ≡ 0 = grind (arith, nat_tests) in
    omega (arith, nothing_below os)

pub below_le : (os : List Offer) (due p : ℕ) → Marginal os due p → below p os ≤ due
below_le os due zero m = omega (arith, nothing_below os)
below_le os due (suc p) m = omega (arith, beneath p os, m.least p (omega arith))

pub fills_total : FillsTotal
fills_total os due p ss m fair =
    omega (arith, comes p os ss fair.one_each, splits p os, below_le os due p m, m.reached, fair.whole)

pub fills_cut : FillsCut
fills_cut os amount p ss fair = cut p os ss (under (tied p os) ss fair.one_each fair.within)
