-- What the sellers receive together, and what each buyer pays of it.
use Rattle.std.specs.Prelude.{ℕ, ◌+◌, ◌-◌, ◌*◌, ◌/◌, ◌<◌, cond, List, [], ◌∷◌, map, sum_by, Option, ◌==◌, slice_index}
use Rattle.std.specs.Option.{unwrap_or}
use Rattle.stages.specs.declared.method.Method.{Method}
use Rattle.stages.specs.declared.method.Method.TheVariants.{OnePrice, AsOffered}
use Rattle.book.specs.declared.offer.Offer.{Offer}

-- the part of the receipts that falls to the first `lots` of those due, its fraction dropped
abbrev pub part : ℕ → ℕ → ℕ → ℕ
part receipts due lots = receipts * lots / due

-- the payments of buyers' lots, of which `before` stand before the first
abbrev pub payments : ℕ → ℕ → ℕ → List ℕ → List ℕ
payments receipts due before [] = []
payments receipts due before (l ∷ ls) =
    (part receipts due (before + l) - part receipts due before) ∷ payments receipts due (before + l) ls

-- nothing is paid where nothing is due
abbrev pub payments_of : ℕ → ℕ → List ℕ → List ℕ
payments_of receipts due ls = cond (due == 0) (map (λ _. 0) ls) (payments receipts due 0 ls)

-- A payment is less than one cent off its exact part, receipts × lots ÷ due: times due, it is less than due off receipts × lots.
pub record Near (receipts due lots payment : ℕ) : Type 0 where
  pub above : receipts * lots < due * payment + due
  pub beneath : due * payment < receipts * lots + due

-- each payment is near its part
abbrev pub Nearby : ℕ → ℕ → List ℕ → List ℕ → Type 0
Nearby receipts due [] [] = Unit {0}
Nearby receipts due [] (p ∷ ps) = ⊥
Nearby receipts due (l ∷ ls) [] = ⊥
Nearby receipts due (l ∷ ls) (p ∷ ps) = Near receipts due l p × Nearby receipts due ls ps

-- the price that an offer is paid: the marginal price, or its own
abbrev pub paid_at : Method → ℕ → Offer → ℕ
paid_at OnePrice p o = p
paid_at AsOffered p o = o.price

-- what the fills of a row come to, at the price that each offer is paid
abbrev pub receipts_of : ℕ → (Offer → ℕ) → List Offer → List ℕ → ℕ
receipts_of unit price os row = sum_by (λ o. slice_index row o.number * unit * price o) os

-- the price, 0 where there is none
abbrev pub price_or_0 : Option ℕ → ℕ
price_or_0 p = unwrap_or p 0
