-- What an allotment promises.
use Rattle.std.specs.Prelude.{◌≡◌, ℕ, ◌+◌, ◌-◌, ◌*◌, ◌/◌, ◌<◌, ◌≤◌, true, List, map, length, take, drop, replicate, sum, MatchOption, slice_index_or}
use Rattle.stages.specs.declared.particulars.Particulars.{Particulars}
use Rattle.stages.specs.declared.terms.Buyer.{Buyer}
use Rattle.stages.specs.Buyers.{as_filed, nobody}
use Rattle.sharing.specs.declared.claim.Claim.{Claim}
use Rattle.sharing.specs.Claims.{admissible, claimed}
use Rattle.sharing.specs.Shares.{proportional, largest_remainder}
use Rattle.book.specs.declared.offer.Offer.{Offer}
use Rattle.book.specs.Offers.{capped, supplied}
use Rattle.allotment_theory.specs.Offered.{Standing, Marginal, below, due_of, marginal_of}
use Rattle.allotment_theory.specs.Fills.{Paired, Within, Cut, worth, tied, fills_at, fills_of, row_of, gathered}
use Rattle.allotment_theory.specs.Receipts.{paid_at, receipts_of, price_or_0, payments_of, Nearby}
use Rattle.allotment.specs.declared.pay.BuyerRow.{BuyerRow}
use Rattle.allotment.specs.declared.tender.Allotted.{Allotted}
use Rattle.allotment.specs.Rows.{no_row, rows_of, lots_in, payments_in, billed_of, claims_of}

-- places and buyers that are not refused
pub record Asked (p : Particulars) (long wide : ℕ) (bs : List Buyer) : Type 0 where
  pub fills : long ≡ 512
  pub rows : wide ≡ 8
  pub buyers : as_filed p bs ≡ true

-- The answer, the fills and the rows as they are computed, where the places had so many fills and rows.
pub record Computed
    (sellers buyers : List Claim → ℕ → List ℕ) (p : Particulars) (os : List Offer) (cs : List Claim) (long wide : ℕ)
    (a : Allotted) (fills : List ℕ) (rows : List BuyerRow) : Type 0 where
  pub due : a.due ≡ due_of p.demand p.shortfall (supplied os)
  pub price : a.price ≡ marginal_of a.due os
  pub filled : Standing os → long ≡ 512 → fills ≡ row_of os (fills_of sellers a.due os)
  pub receipts : a.receipts ≡ capped (receipts_of p.unit (paid_at p.method (price_or_0 a.price)) os fills)
  pub paid : admissible cs ≡ true → sum (buyers cs a.due) ≤ a.due → take (length cs) rows ≡ rows_of a.receipts a.due (billed_of p.kind) (buyers cs a.due)
  pub beyond : drop (length cs) rows ≡ drop (length cs) (replicate wide no_row)
  pub fee : a.fee ≡ a.receipts / 2000

-- A tied offer's fill x is not a whole lot below its exact proportion, and not over one lot above it. With `a` remaining and `k`
-- the lots of all tied offers, that is a × lots ÷ k; times k, the fill is compared with a × lots.
pub record AboutItsProportion (a k lots x : ℕ) : Type 0 where
  pub not_a_lot_below : a * lots < k * x + k
  pub at_most_a_lot_above : k * x ≤ a * lots + k

-- A buyer's row is less than one lot off its exact proportion, due × lots ÷ demand, where `lots` were handed over for it: times
-- the demand, the row's lots are less than the demand off due × lots.
pub record LessThanALotOff (due demand lots row : ℕ) : Type 0 where
  pub below : due * lots < demand * row + demand
  pub above : demand * row < due * lots + demand

-- What there is where something is due and the marginal price is q.
pub record AtPrice (sellers : List Claim → ℕ → List ℕ) (os : List Offer) (due q : ℕ) (xs : List ℕ) : Type 0 where
  pub some_due : 0 < due
  -- Standing offers up to the marginal price total at least what is due, and up to every lower price less.
  pub marginal : Marginal os due q
  -- Offers below the marginal price are filled whole, and offers above it get nothing.
  pub cut : Paired (Cut q) os xs
  -- Offers at it have the shares that the sellers' rule means for them, in the order of the book, of what remains.
  pub tied_shares : fills_at q os xs ≡ sellers (tied q os) (due - below q os)
  -- Under the proportional rule each is about its exact proportion.
  pub tied_near :
      (rank : ℕ → ℕ) → sellers ≡ proportional rank →
      Paired (λ o x. o.price ≡ q → AboutItsProportion (due - below q os) (claimed (tied q os)) o.lots x) os xs

-- What there is where no price is: nothing is due, and none is filled.
pub record WithoutPrice (os : List Offer) (due : ℕ) (xs : List ℕ) : Type 0 where
  pub none_due : due ≡ 0
  pub none_filled : xs ≡ map (λ _. 0) os

-- The promise of an allotment to the buyers `bs` of a tender with the particulars `p`, of the standing offers `os`. The fill of an
-- offer stands at its number; `gathered os fills` are the fills of the standing offers, in their order.
pub record Promise
    (sellers buyers : List Claim → ℕ → List ℕ) (p : Particulars) (os : List Offer) (bs : List Buyer)
    (a : Allotted) (fills : List ℕ) (rows : List BuyerRow) : Type 0 where
  -- Due is the demand if the supply reaches it, otherwise the supply or nothing.
  pub due : a.due ≡ due_of p.demand p.shortfall (supplied os)
  -- There are 512 fills. They total what is due, and so do those of the standing offers: nothing else is filled.
  pub places : length fills ≡ 512
  pub total : sum fills ≡ a.due
  pub total_standing : sum (gathered os fills) ≡ a.due
  -- No fill is above its standing offer.
  pub none_above : Paired Within os (gathered os fills)
  -- Every other whole-lot choice from the standing offers with that total costs at least as much at offered prices.
  pub cheapest :
      (ys : List ℕ) → Paired Within os ys → sum ys ≡ a.due →
      worth p.unit (λ o. o.price) os (gathered os fills) ≤ worth p.unit (λ o. o.price) os ys
  -- The marginal price, and the fills at it; or none, where nothing is due.
  pub priced : MatchOption a.price (WithoutPrice os a.due (gathered os fills)) (λ q. AtPrice sellers os a.due q (gathered os fills))
  -- Receipts are the total of each fill's lots × unit × price paid, and the fee is their 2,000th part, its fraction dropped.
  pub receipts : a.receipts ≡ worth p.unit (paid_at p.method (price_or_0 a.price)) os (gathered os fills)
  pub fee : a.fee ≡ a.receipts / 2000
  -- There are 8 rows, those past the buyers of no buyer. The buyers' lots are the shares that the buyers' rule means, and total
  -- what is due. Under the remainder rule each is less than one lot off its exact proportion.
  pub width : length rows ≡ 8
  pub beyond : drop (length bs) rows ≡ replicate (8 - length bs) no_row
  pub lots : lots_in (take (length bs) rows) ≡ buyers (claims_of bs) a.due
  pub all_lots : sum (lots_in rows) ≡ a.due
  pub lots_near :
      (rank : ℕ → ℕ) → buyers ≡ largest_remainder rank →
      (i : ℕ) → i < length bs → LessThanALotOff a.due p.demand (slice_index_or bs i nobody).lots (slice_index_or rows i no_row).lots
  -- Each payment is what falls to the lots up to the buyer's row, less what falls to those before it. Payments total the
  -- receipts, each less than one cent off its exact part; with nothing due both are 0.
  pub payments : payments_in (take (length bs) rows) ≡ payments_of a.receipts a.due (lots_in (take (length bs) rows))
  pub all_paid : sum (payments_in rows) ≡ a.receipts
  pub payments_near : 0 < a.due → Nearby a.receipts a.due (lots_in rows) (payments_in rows)
  pub nothing_paid : a.due ≡ 0 → (a.receipts ≡ 0) × (payments_in rows ≡ replicate 8 0)
  -- A general tender's buyer is billed, also where nothing is due; a financing tender's are not yet.
  pub billed : (i : ℕ) → i < length bs → (slice_index_or rows i no_row).billed ≡ billed_of p.kind
