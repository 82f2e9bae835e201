-- What each offer is filled.
use Rattle.std.specs.Prelude.{◌≡◌, ℕ, ◌+◌, ◌-◌, ◌*◌, ◌<◌, ◌≤◌, cond, List, [], ◌∷◌, map, replicate, Some, None, sum, filter, Option, MatchOption, ◌==◌, nat_eq, nat_lt, slice_index, slice_set}
use Rattle.sharing.specs.declared.claim.Claim.{Claim}
use Rattle.book.specs.declared.offer.Offer.{Offer}
use Rattle.allotment_theory.specs.Offered.{below, Marginal, marginal_of}

-- a number for each offer, and what holds of each pair
abbrev pub Paired : (Offer → ℕ → Type 0) → List Offer → List ℕ → Type 0
Paired P [] [] = Unit {0}
Paired P [] (x ∷ xs) = ⊥
Paired P (o ∷ os) [] = ⊥
Paired P (o ∷ os) (x ∷ xs) = P o x × Paired P os xs

-- a whole-lot choice: from none to all of an offer's lots
abbrev pub Within : Offer → ℕ → Type 0
Within o x = x ≤ o.lots

-- whole below the price, nothing above it
pub record Cut (p : ℕ) (o : Offer) (x : ℕ) : Type 0 where
  pub within : x ≤ o.lots
  pub whole : o.price < p → x ≡ o.lots
  pub nothing : p < o.price → x ≡ 0

-- what some lots of each offer come to, at so many shares a lot and a price for each offer
abbrev pub worth : ℕ → (Offer → ℕ) → List Offer → List ℕ → ℕ
worth unit price [] xs = 0
worth unit price (o ∷ os) [] = 0
worth unit price (o ∷ os) (x ∷ xs) = x * unit * price o + worth unit price os xs

-- the claim of an offer, under the offer's number
abbrev pub claim_of : Offer → Claim
claim_of o = record { number = o.number; lots = o.lots }

-- the offers at a price, as claims in the order of the book
abbrev pub tied : ℕ → List Offer → List Claim
tied p os = map claim_of (filter (λ o. nat_eq o.price p) os)

-- the first of some shares, and the others
abbrev pub first : List ℕ → ℕ
first [] = 0
first (x ∷ xs) = x

abbrev pub rest : List ℕ → List ℕ
rest [] = []
rest (x ∷ xs) = xs

-- what one offer is filled, where its share at the price would be s
abbrev pub fill_one : ℕ → Offer → ℕ → ℕ
fill_one p o s = cond (nat_lt o.price p) o.lots (cond (o.price == p) s 0)

-- the fills, where the claims at the price have these shares
abbrev pub filled : ℕ → List Offer → List ℕ → List ℕ
filled p [] shares = []
filled p (o ∷ os) shares = fill_one p o (first shares) ∷ filled p os (cond (o.price == p) (rest shares) shares)

-- each number written at the number of its offer
abbrev pub scattered : List Offer → List ℕ → List ℕ → List ℕ
scattered [] xs row = row
scattered (o ∷ os) [] row = row
scattered (o ∷ os) (x ∷ xs) row = scattered os xs (slice_set row o.number x)

-- 512 fills by the numbers of the offers, 0 where none
abbrev pub row_of : List Offer → List ℕ → List ℕ
row_of os xs = scattered os xs (replicate 512 0)

-- what a row has for each offer
abbrev pub gathered : List Offer → List ℕ → List ℕ
gathered os row = map (λ o. slice_index row o.number) os

-- the fills of the offers at the price, in the order of the book
abbrev pub fills_at : ℕ → List Offer → List ℕ → List ℕ
fills_at p [] xs = []
fills_at p (o ∷ os) [] = []
fills_at p (o ∷ os) (x ∷ xs) = cond (o.price == p) (x ∷ fills_at p os xs) (fills_at p os xs)

-- the fills of what is due, where `shares` means the shares of claims
abbrev pub fills_by : (List Claim → ℕ → List ℕ) → ℕ → List Offer → Option ℕ → List ℕ
fills_by shares due os None = map (λ _. 0) os
fills_by shares due os (Some p) = filled p os (shares (tied p os) (due - below p os))

abbrev pub fills_of : (List Claim → ℕ → List ℕ) → ℕ → List Offer → List ℕ
fills_of shares due os = fills_by shares due os (marginal_of due os)

-- What holds of the fills xs at the marginal price p: offers below it are filled whole, offers above it get nothing, and those
-- at it have the shares that the rule means for them.
pub record Priced (shares : List Claim → ℕ → List ℕ) (os : List Offer) (due p : ℕ) (xs : List ℕ) : Type 0 where
  pub some_due : 0 < due
  pub marginal : Marginal os due p
  pub cut : Paired (Cut p) os xs
  pub ties : fills_at p os xs ≡ shares (tied p os) (due - below p os)

-- Where there is no price nothing is due, and none is filled.
pub record Unpriced (os : List Offer) (due : ℕ) (xs : List ℕ) : Type 0 where
  pub none_due : due ≡ 0
  pub none_filled : xs ≡ map (λ _. 0) os

-- What holds of the fills of the offers.
pub record Filled (shares : List Claim → ℕ → List ℕ) (os : List Offer) (due : ℕ) (price : Option ℕ) (xs : List ℕ) : Type 0 where
  pub total : sum xs ≡ due
  pub within : Paired Within os xs
  pub cheapest : (unit : ℕ) (ys : List ℕ) → Paired Within os ys → sum ys ≡ due → worth unit (λ o. o.price) os xs ≤ worth unit (λ o. o.price) os ys
  pub priced : MatchOption price (Unpriced os due xs) (λ p. Priced shares os due p xs)

-- The same of a row of fills: each offer's stands at its number, and nothing stands elsewhere.
pub record FilledRow (shares : List Claim → ℕ → List ℕ) (os : List Offer) (due : ℕ) (price : Option ℕ) (row : List ℕ) : Type 0 where
  pub fills : Filled shares os due price (gathered os row)
  pub elsewhere : sum row ≡ due
