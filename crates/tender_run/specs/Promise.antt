-- What a run of a whole tender promises.
use Rattle.std.specs.Prelude.{◌≡◌, ℕ, ◌+◌, List, length, take}
use Rattle.stages.specs.declared.opened.Open.{Open}
use Rattle.stages.specs.declared.terms.Buyer.{Buyer}
use Rattle.sharing.specs.declared.claim.Claim.{Claim}
use Rattle.book.specs.declared.call.Call.{Call}
use Rattle.book.specs.declared.offer.Offer.{Offer}
use Rattle.book.specs.Model.{fresh}
use Rattle.allotment_theory.specs.Arrivals.{ByPriority}
use Rattle.allotment.specs.declared.pay.BuyerRow.{BuyerRow}
use Rattle.allotment.specs.Promise.{Promise}
use Rattle.tender_run.specs.declared.running.Outcome.{Outcome}
use Rattle.tender_run.specs.Runs.{tallied, taken_of}

-- The promise of a run, for every list of calls, whatever was refused.
pub record RunPromise
    (sellers buyers : List Claim → ℕ → List ℕ) (t : Open) (calls : List Call) (bs : List Buyer)
    (o : Outcome) (records : List Offer) (fills : List ℕ) (rows : List BuyerRow) : Type 0 where
  -- The first so many records are the standing offers: the model's list after the same calls.
  pub standing : take o.standing records ≡ (tallied t bs calls).list
  pub how_many : o.standing ≡ length (tallied t bs calls).list
  -- They stand in order of price, and equal prices in order of arrival: who came, or last went to the back, earlier.
  pub priority : ByPriority t bs fresh calls (tallied t bs calls).list
  -- The counts are the model's: it takes the calls that are not refused, and the others are refused.
  pub accepted : o.accepted ≡ taken_of t 512 bs fresh calls
  pub refused : o.accepted + o.refused ≡ length calls
  -- What was allotted of them.
  pub allotment : Promise sellers buyers t.particulars (tallied t bs calls).list bs o.allotted fills rows
