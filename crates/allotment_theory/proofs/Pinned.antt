-- The laws leave no choice.
use Rattle.std.proofs.Common.{◌≡◌, ℕ, ◌<◌, eqb, List, [], ◌∷◌, sym, refl, ◌∙◌, ⊎_elim, arith}
use Rattle.std.proofs.lemmas.Bool.{cases_order, cond-true, cond-false, eq-eqb, ne_eqb}
use Rattle.book.specs.declared.offer.Offer.{Offer}
use Rattle.allotment_theory.specs.Fills.{fills_at}
use Rattle.allotment_theory.specs.Theorems.{OnePrice, OneFill}

pub one_price : OnePrice
one_price os due p q m n =
    ⊎_elim
    (λ (e : p ≡ q). e)
    (⊎_elim
    (λ (lt : p < q). absurd (omega (arith, n.least p lt, m.reached)))
    (λ (lt : q < p). absurd (omega (arith, m.least q lt, n.reached))))
    (cases_order p q)

off : (p : ℕ) (o : Offer) (os : List Offer) (x : ℕ) (xs : List ℕ) → (o.price ≡ p → ⊥) → fills_at p (o ∷ os) (x ∷ xs) ≡ fills_at p os xs
off p o os x xs e = cond-false (eqb o.price p) (x ∷ fills_at p os xs) (fills_at p os xs) (ne_eqb _ _ e)

here : (p : ℕ) (o : Offer) (os : List Offer) (x : ℕ) (xs : List ℕ) → o.price ≡ p → fills_at p (o ∷ os) (x ∷ xs) ≡ x ∷ fills_at p os xs
here p o os x xs e = cond-true (eqb o.price p) (x ∷ fills_at p os xs) (fills_at p os xs) (eq-eqb _ _ e)

pub one_fill : OneFill
one_fill p [] [] [] c d e = refl
one_fill p [] [] (y ∷ ys) c d e = absurd d
one_fill p [] (x ∷ xs) ys c d e = absurd c
one_fill p (o ∷ os) [] ys c d e = absurd c
one_fill p (o ∷ os) (x ∷ xs) [] c d e = absurd d
one_fill p (o ∷ os) (x ∷ xs) (y ∷ ys) c d e =
    ⊎_elim
    (λ (at : o.price ≡ p).
    let a = here p o os x xs at in
    let b = here p o os y ys at in
    let same : x ≡ y = cc in
    let ih = one_fill p os xs ys c.1 d.1 (cc) in
    cc)
    (⊎_elim
    (λ (lt : o.price < p).
    let same : x ≡ y = c.0.whole lt ∙ sym (d.0.whole lt) in
    let ih = one_fill p os xs ys c.1 d.1 (sym (off p o os x xs (λ h. omega arith)) ∙ e ∙ off p o os y ys (λ h. omega arith)) in
    cc)
    (λ (lt : p < o.price).
    let same : x ≡ y = c.0.nothing lt ∙ sym (d.0.nothing lt) in
    let ih = one_fill p os xs ys c.1 d.1 (sym (off p o os x xs (λ h. omega arith)) ∙ e ∙ off p o os y ys (λ h. omega arith)) in
    cc))
    (cases_order o.price p)
