-- What stands in a book, what is due of it, and the marginal price.
use Rattle.std.specs.Prelude.{ℕ, ◌-◌, ◌<◌, ◌≤◌, cond, List, [], ◌∷◌, length, Some, None, sum_by, Option, ◌==◌, nat_le, nat_lt}
use Rattle.std.specs.List.{AllByRecursion}
use Rattle.ordered.specs.Behind.{InOrder}
use Rattle.stages.specs.declared.shortfall.Shortfall.{Shortfall}
use Rattle.stages.specs.declared.shortfall.Shortfall.TheVariants.{Take, Void}
use Rattle.book.specs.declared.offer.Offer.{Offer}
use Rattle.book.specs.Offers.{cheaper}
use Rattle.book.specs.Soundness.{Apart}

-- the lots that are offered up to a price
abbrev pub up_to : ℕ → List Offer → ℕ
up_to q os = sum_by (λ o. cond (nat_le o.price q) o.lots 0) os

-- the lots that are offered below a price
abbrev pub below : ℕ → List Offer → ℕ
below q os = sum_by (λ o. cond (nat_lt o.price q) o.lots 0) os

-- what is due in a shortage: all there is where it is taken, and nothing where the tender is void
abbrev pub due_short : Shortfall → ℕ → ℕ
due_short Take supply = supply
due_short Void supply = 0

-- what is due of a demand: all of it where the supply reaches it
abbrev pub due_of : ℕ → Shortfall → ℕ → ℕ
due_of demand shortfall supply = cond (nat_le demand supply) demand (due_short shortfall supply)

-- The marginal price: up to it the offers total at least what is due, and up to every lower price less.
pub record Marginal (os : List Offer) (due p : ℕ) : Type 0 where
  pub reached : due ≤ up_to p os
  pub least : (q : ℕ) → q < p → up_to q os < due

-- the price at which a pass through the offers has come to what is due
abbrev pub reaching : ℕ → List Offer → Option ℕ
reaching due [] = None
reaching due (o ∷ os) = cond (nat_le due o.lots) (Some o.price) (reaching (due - o.lots) os)

-- none where nothing is due
abbrev pub marginal_of : ℕ → List Offer → Option ℕ
marginal_of due os = cond (due == 0) None (reaching due os)

-- the limits of one offer
abbrev pub Single : Offer → Type 0
Single o = (o.number ≤ 511) × (1 ≤ o.price) × (o.price ≤ 920000) × (1 ≤ o.lots) × (o.lots ≤ 1000000)

-- What holds of the offers of a sound book: at most 512, in order of price, each within its limits, no number twice.
pub record Standing (os : List Offer) : Type 0 where
  pub few : length os ≤ 512
  pub order : InOrder cheaper os
  pub each : AllByRecursion Single os
  pub apart : Apart os
