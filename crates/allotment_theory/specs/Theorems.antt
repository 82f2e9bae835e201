-- The laws of an allotment.
use Rattle.std.specs.Prelude.{◌≡◌, ℕ, ◌-◌, ◌*◌, ◌^◌, ◌<◌, ◌≤◌, true, List, length, replicate, Some, sum}
use Rattle.std.specs.List.{AllByRecursion}
use Rattle.ordered.specs.Behind.{InOrder}
use Rattle.stages.specs.declared.method.Method.{Method}
use Rattle.sharing.specs.declared.claim.Claim.{Claim}
use Rattle.sharing.specs.Claims.{Fair, admissible}
use Rattle.book.specs.declared.offer.Offer.{Offer}
use Rattle.book.specs.Offers.{cheaper, supplied}
use Rattle.book.specs.Soundness.{Apart}
use Rattle.allotment_theory.specs.Offered.{below, Marginal, marginal_of, Standing}
use Rattle.allotment_theory.specs.Fills.{Paired, Within, Cut, worth, tied, filled, fills_at, fills_of, Filled, FilledRow, scattered, row_of, gathered}
use Rattle.allotment_theory.specs.Receipts.{payments_of, Nearby, paid_at, receipts_of, price_or_0}

-- A pass through an ordered list finds the marginal price, and it finds one where something is due that is offered.
abbrev pub PassFinds : Type 0
PassFinds = (os : List Offer) (due p : ℕ) → InOrder cheaper os → marginal_of due os ≡ Some p → Marginal os due p

abbrev pub PassEnds : Type 0
PassEnds = (os : List Offer) (due : ℕ) → 0 < due → due ≤ supplied os → (p : ℕ) × (marginal_of due os ≡ Some p)

-- The offers at a price are claims that a rule can share among.
abbrev pub TiesAdmissible : Type 0
TiesAdmissible = (os : List Offer) (p : ℕ) → Standing os → admissible (tied p os) ≡ true

-- Fills total what is due; whole below the marginal price, nothing above it, and none above its offer.
abbrev pub FillsTotal : Type 0
FillsTotal =
    (os : List Offer) (due p : ℕ) (shares : List ℕ) →
    Marginal os due p →
    Fair (tied p os) (due - below p os) shares →
    sum (filled p os shares) ≡ due

abbrev pub FillsCut : Type 0
FillsCut =
    (os : List Offer) (amount p : ℕ) (shares : List ℕ) →
    Fair (tied p os) amount shares →
    Paired (Cut p) os (filled p os shares)

-- Every other choice with the same total costs at least as much at offered prices.
abbrev pub Cheapest : Type 0
Cheapest =
    (unit p : ℕ) (os : List Offer) (xs ys : List ℕ) →
    Paired (Cut p) os xs →
    Paired Within os ys →
    sum ys ≡ sum xs →
    worth unit (λ o. o.price) os xs ≤ worth unit (λ o. o.price) os ys

-- Payments total the receipts, and each is near its part.
abbrev pub PaymentsTotal : Type 0
PaymentsTotal = (receipts due : ℕ) (ls : List ℕ) → 0 < due → sum ls ≡ due → sum (payments_of receipts due ls) ≡ receipts

abbrev pub PaymentsNear : Type 0
PaymentsNear = (receipts due : ℕ) (ls : List ℕ) → 0 < due → Nearby receipts due ls (payments_of receipts due ls)

-- Fills written by the numbers of their offers keep their total.
abbrev pub ScatterTotal : Type 0
ScatterTotal =
    (os : List Offer) (xs : List ℕ) →
    Apart os →
    AllByRecursion (λ o. o.number ≤ 511) os →
    length xs ≡ length os →
    sum (scattered os xs (replicate 512 0)) ≡ sum xs

-- Receipts are bounded by the lots and the highest price paid.
abbrev pub WorthBounded : Type 0
WorthBounded =
    (unit most : ℕ) (price : Offer → ℕ) (os : List Offer) (xs : List ℕ) →
    AllByRecursion (λ o. price o ≤ most) os →
    worth unit price os xs ≤ sum xs * (unit * most)

-- A meaning of shares that is fair to claims which can be shared among.
abbrev pub Lawful : (List Claim → ℕ → List ℕ) → Type 0
Lawful shares = (cs : List Claim) → admissible cs ≡ true → (amount : ℕ) → Fair cs amount (shares cs amount)

-- What holds of the fills, for every sound book and every lawful rule.
abbrev pub Allots : Type 0
Allots =
    (shares : List Claim → ℕ → List ℕ) →
    Lawful shares →
    (os : List Offer) →
    Standing os →
    (due : ℕ) →
    due ≤ supplied os →
    Filled shares os due (marginal_of due os) (fills_of shares due os)

-- A row holds the fills that were written, and so the same holds of the row.
abbrev pub Gathers : Type 0
Gathers =
    (os : List Offer) (xs : List ℕ) →
    Apart os →
    AllByRecursion (λ o. o.number ≤ 511) os →
    length xs ≡ length os →
    gathered os (row_of os xs) ≡ xs

abbrev pub FillsRow : Type 0
FillsRow =
    (shares : List Claim → ℕ → List ℕ) →
    Lawful shares →
    (os : List Offer) →
    Standing os →
    (due : ℕ) →
    due ≤ supplied os →
    FilledRow shares os due (marginal_of due os) (row_of os (fills_of shares due os))

-- The receipts of a row are the worth of its fills, and 64 bits hold them.
abbrev pub ReceiptsWorth : Type 0
ReceiptsWorth = (unit : ℕ) (price : Offer → ℕ) (os : List Offer) (row : List ℕ) → receipts_of unit price os row ≡ worth unit price os (gathered os row)

abbrev pub ReceiptsFit : Type 0
ReceiptsFit =
    (shares : List Claim → ℕ → List ℕ) (os : List Offer) (due unit : ℕ) (method : Method) (row : List ℕ) →
    Standing os →
    FilledRow shares os due (marginal_of due os) row →
    due ≤ 1000000 →
    unit ≤ 1000 →
    receipts_of unit (paid_at method (price_or_0 (marginal_of due os))) os row < 2 ^ 64

-- The laws leave no choice: one marginal price, and one list of fills with it.
abbrev pub OnePrice : Type 0
OnePrice = (os : List Offer) (due p q : ℕ) → Marginal os due p → Marginal os due q → p ≡ q

abbrev pub OneFill : Type 0
OneFill = (p : ℕ) (os : List Offer) (xs ys : List ℕ) → Paired (Cut p) os xs → Paired (Cut p) os ys → fills_at p os xs ≡ fills_at p os ys → xs ≡ ys
