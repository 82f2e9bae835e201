-- The standing offers alone, in place of the records that begin with them.
use Rattle.std.proofs.Common.{◌≡◌, ℕ, List, take, ap, ◌∙◌, arith}
use Rattle.std.proofs.lemmas.List.{take_all}
use Rattle.stages.specs.declared.opened.Open.{Open}
use Rattle.stages.specs.declared.terms.Buyer.{Buyer}
use Rattle.sharing.specs.declared.claim.Claim.{Claim}
use Rattle.book.specs.declared.call.Call.{Call}
use Rattle.book.specs.declared.offer.Offer.{Offer}
use Rattle.allotment.specs.declared.pay.BuyerRow.{BuyerRow}
use Rattle.tender_run.specs.declared.running.Outcome.{Outcome}
use Rattle.tender_run.specs.Promise.{RunPromise}

-- the promise of a run speaks of no record behind the standing offers
pub of_standing : (sellers buyers : List Claim → ℕ → List ℕ) (t : Open) (calls : List Call) (bs : List Buyer) (o : Outcome)
    (records offers : List Offer) (fills : List ℕ) (rows : List BuyerRow) →
    RunPromise sellers buyers t calls bs o records fills rows → offers ≡ take o.standing records → RunPromise sellers buyers t calls bs o offers fills rows
of_standing sellers buyers t calls bs o records offers fills rows p is = record {
  standing = ap (λ os. take o.standing os) (is ∙ p.standing) ∙ take_all o.standing _ (omega (arith, p.how_many));
  how_many = p.how_many;
  priority = p.priority;
  accepted = p.accepted;
  refused = p.refused;
  allotment = p.allotment;
}
