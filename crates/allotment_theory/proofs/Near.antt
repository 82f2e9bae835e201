-- What holds of each tied claim and its share holds of each offer at the price and its fill.
use Rattle.std.proofs.Common.{◌≡◌, ℕ, suc, ◌-◌, ◌<◌, eqb, List, [], ◌∷◌, length, get_or, ⊎_elim, arith}
use Rattle.std.proofs.lemmas.Bool.{cases_eq, cond-true, cond-false, eq-eqb, ne_eqb}
use Rattle.sharing.specs.declared.claim.Claim.{Claim}
use Rattle.sharing.specs.Claims.{nobody}
use Rattle.sharing.specs.Shares.{shareable}
use Rattle.book.specs.declared.offer.Offer.{Offer}
use Rattle.allotment_theory.specs.Offered.{below, Marginal}
use Rattle.allotment_theory.specs.Fills.{Paired, tied, fills_at}
use Rattle.allotment_theory.proofs.Total.{tied_at, tied_off, splits, below_le}

-- a share for each claim, and what holds of each pair
abbrev Each : (ℕ → ℕ → Type 0) → List Claim → List ℕ → Type 0
Each P [] [] = Unit {0}
Each P [] (x ∷ xs) = ⊥
Each P (c ∷ cs) [] = ⊥
Each P (c ∷ cs) (x ∷ xs) = P c.lots x × Each P cs xs

module _ (P : ℕ → ℕ → Type 0) where
  each : (cs : List Claim) (xs : List ℕ) → length xs ≡ length cs → ((i : ℕ) → i < length cs → P (get_or cs i nobody).lots (get_or xs i 0)) → Each P cs xs
  each [] [] long h = tt
  each [] (x ∷ xs) long h = absurd (omega arith)
  each (c ∷ cs) [] long h = absurd (omega arith)
  each (c ∷ cs) (x ∷ xs) long h = (h 0 (omega arith), each cs xs (omega arith) (λ i lt. h (suc i) (omega arith)))

  carried : (p : ℕ) (os : List Offer) (xs : List ℕ) → length xs ≡ length os → Each P (tied p os) (fills_at p os xs) → Paired (λ o x. o.price ≡ p → P o.lots x) os xs
  carried p [] [] long h = tt
  carried p [] (x ∷ xs) long h = absurd (omega arith)
  carried p (o ∷ os) [] long h = absurd (omega arith)
  carried p (o ∷ os) (x ∷ xs) long h =
      ⊎_elim
      (λ (e : o.price ≡ p).
      let here = cond-true (eqb o.price p) (x ∷ fills_at p os xs) (fills_at p os xs) (eq-eqb _ _ e) in
      let k = rw (tied_at p o os e, here) at h in ((λ _. k.0), carried p os xs (omega arith) k.1))
      (λ (e : o.price ≡ p → ⊥).
      let here = cond-false (eqb o.price p) (x ∷ fills_at p os xs) (fills_at p os xs) (ne_eqb _ _ e) in
      let k = rw (tied_off p o os e, here) at h in ((λ f. absurd (e f)), carried p os xs (omega arith) k))
      (cases_eq o.price p)

  pub carries : (p : ℕ) (os : List Offer) (xs ss : List ℕ) → length xs ≡ length os → fills_at p os xs ≡ ss → length ss ≡ length (tied p os) → ((i : ℕ) → i < length (tied p os) → P (get_or (tied p os) i nobody).lots (get_or ss i 0)) → Paired (λ o x. o.price ≡ p → P o.lots x) os xs
  carries p os xs ss long same fit h = carried p os xs long (rw same (each (tied p os) ss fit h))

-- what remains for the tied offers is at most their lots
pub remains : (os : List Offer) (due p : ℕ) → Marginal os due p → shareable (tied p os) (due - below p os) ≡ due - below p os
remains os due p m = omega (arith, m.reached, splits p os, below_le os due p m)
