-- The rows that an allotment leaves.
use Rattle.std.specs.Prelude.{◌≡◌, ℕ, List}
use Rattle.stages.specs.declared.kind.Kind.{Kind}
use Rattle.stages.specs.declared.particulars.Particulars.{Particulars}
use Rattle.stages.specs.declared.terms.Buyer.{Buyer}
use Rattle.sharing.specs.declared.claim.Claim.{Claim}
use Rattle.book.specs.declared.offer.Offer.{Offer}
use Rattle.allotment.specs.declared.pay.BuyerRow.{BuyerRow}
use Rattle.allotment.specs.declared.tender.Allotted.{Allotted}
use Rattle.allotment.specs.Promise.{Promise}

-- These are the rows of an allotment of a tender of the kind, with those receipts: some allotment promises them, under whichever
-- rules and of whichever book.
pub record RowsOf (kind : Kind) (receipts : ℕ) (rows : List BuyerRow) : Type 0 where
  pub sellers : List Claim → ℕ → List ℕ
  pub buyers : List Claim → ℕ → List ℕ
  pub particulars : Particulars
  pub offers : List Offer
  pub filed : List Buyer
  pub allotted : Allotted
  pub fills : List ℕ
  pub promise : Promise sellers buyers particulars offers filed allotted fills rows
  pub of_kind : particulars.kind ≡ kind
  pub received : allotted.receipts ≡ receipts
