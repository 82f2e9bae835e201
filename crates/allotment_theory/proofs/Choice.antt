-- Whole below a price and nothing above it is the cheapest choice.
use Rattle.std.proofs.Common.{◌≡◌, ℕ, ◌+◌, ◌-◌, ◌*◌, ◌<◌, ◌≤◌, List, [], ◌∷◌, sum, ap, ◌∙◌, ⊎_elim, mul_assoc, add-mul, mul-add, arith}
use Rattle.std.proofs.lemmas.List.Sums.{sum_by-cons}
use Rattle.std.proofs.lemmas.Bool.{cases_order}
use Rattle.book.specs.declared.offer.Offer.{Offer}
use Rattle.allotment_theory.specs.Fills.{Paired, Within, Cut, worth}
use Rattle.allotment_theory.specs.Theorems.{Cheapest}

-- the larger number at the smaller price comes to less
swap : (x y a b : ℕ) → x ≤ y → a ≤ b → y * a + x * b ≤ y * b + x * a
swap x y a b le le' =
    let e = y - x in
    let f = b - a in
    let is_y : y ≡ x + e = omega arith in
    let is_b : b ≡ a + f = omega arith in
    rw (is_y, is_b)
    (omega (arith, add-mul x e a, add-mul x e (a + f), mul-add x a f, mul-add e a f))

scale : (u a b : ℕ) → a ≤ b → u * a ≤ u * b
scale u a b h =
    let f = b - a in
    let is : b ≡ a + f = omega arith in
    rw is (omega (arith, mul-add u a f))

-- one offer: x is what the cut has of it, y what the choice has
one : (unit p : ℕ) (o : Offer) (x y : ℕ) → Cut p o x → Within o y → x * unit * o.price + y * (unit * p) ≤ y * unit * o.price + x * (unit * p)
one unit p o x y cut le =
    let ex = mul_assoc x unit o.price in
    let ey = mul_assoc y unit o.price in
    ⊎_elim
    (λ (e : o.price ≡ p). let h = ap (λ (z : ℕ). unit * z) e in let hx = ap (λ (z : ℕ). x * z) h in let hy = ap (λ (z : ℕ). y * z) h in omega arith)
    (⊎_elim
    (λ (lt : o.price < p). let w = cut.whole lt in let s = swap y x (unit * o.price) (unit * p) (omega arith) (scale unit o.price p (omega arith)) in omega arith)
    (λ (lt : p < o.price). let w = cut.nothing lt in let s = swap x y (unit * p) (unit * o.price) (omega arith) (scale unit p o.price (omega arith)) in omega arith))
    (cases_order o.price p)

-- all of them
exchange :
    (unit p : ℕ) (os : List Offer) (xs ys : List ℕ) →
    Paired (Cut p) os xs →
    Paired Within os ys →
    worth unit (λ o. o.price) os xs + sum ys * (unit * p) ≤ worth unit (λ o. o.price) os ys + sum xs * (unit * p)
exchange unit p [] [] [] cut le = omega arith
exchange unit p [] (x ∷ xs) ys cut le = absurd cut
exchange unit p [] [] (y ∷ ys) cut le = absurd le
exchange unit p (o ∷ os) [] ys cut le = absurd cut
exchange unit p (o ∷ os) (x ∷ xs) [] cut le = absurd le
exchange unit p (o ∷ os) (x ∷ xs) (y ∷ ys) cut le =
    let w = unit * p in
    let here = one unit p o x y cut.0 le.0 in
    let rest = exchange unit p os xs ys cut.1 le.1 in
    let ex = ap (λ (n : ℕ). n * w) (sum_by-cons (λ n. n) x xs) ∙ add-mul x (sum xs) w in
    let ey = ap (λ (n : ℕ). n * w) (sum_by-cons (λ n. n) y ys) ∙ add-mul y (sum ys) w in
    omega arith

pub cheapest : Cheapest
cheapest unit p os xs ys cut le same =
    let all = exchange unit p os xs ys cut le in
    let e = ap (λ (n : ℕ). n * (unit * p)) same in
    omega arith
