-- The rows of the buyers.
use Rattle.std.specs.Prelude.{ℕ, suc, ◌+◌, ◌-◌, Bool, true, false, List, [], ◌∷◌, map}
use Rattle.stages.specs.declared.kind.Kind.{Kind}
use Rattle.stages.specs.declared.kind.Kind.TheVariants.{General, Financing}
use Rattle.stages.specs.declared.terms.Buyer.{Buyer}
use Rattle.sharing.specs.declared.claim.Claim.{Claim}
use Rattle.allotment_theory.specs.Receipts.{part}
use Rattle.allotment.specs.declared.pay.BuyerRow.{BuyerRow}

-- the row of no buyer
abbrev pub no_row : BuyerRow
no_row = record { lots = 0; payment = 0; billed = false }

-- the buyers as claims, numbered from i
abbrev pub claims_from : ℕ → List Buyer → List Claim
claims_from i [] = []
claims_from i (b ∷ bs) = record { number = i; lots = b.lots } ∷ claims_from (suc i) bs

-- the buyers as claims, numbered from 0
abbrev pub claims_of : List Buyer → List Claim
claims_of bs = claims_from 0 bs

-- a general tender's buyer is billed with the allotment
abbrev pub billed_of : Kind → Bool
billed_of General = true
billed_of Financing = false

-- the rows of buyers with these lots, of which `before` stand before the first
abbrev pub rows_from : ℕ → ℕ → Bool → ℕ → List ℕ → List BuyerRow
rows_from receipts due billed before [] = []
rows_from receipts due billed before (l ∷ ls) =
    record { lots = l; payment = part receipts due (before + l) - part receipts due before; billed = billed }
    ∷ rows_from receipts due billed (before + l) ls

abbrev pub rows_of : ℕ → ℕ → Bool → List ℕ → List BuyerRow
rows_of receipts due billed ls = rows_from receipts due billed 0 ls

-- the lots, the payments and the marks of rows
abbrev pub lots_in : List BuyerRow → List ℕ
lots_in rows = map (λ b. b.lots) rows

abbrev pub payments_in : List BuyerRow → List ℕ
payments_in rows = map (λ b. b.payment) rows

abbrev pub marks_in : List BuyerRow → List Bool
marks_in rows = map (λ b. b.billed) rows
