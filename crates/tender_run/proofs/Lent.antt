-- What an accepted run was asked, and what is carried from one promise to the next.
use Rattle.std.proofs.Common.{◌≡◌, ℕ, Bool, cond, not, ◌||◌, eqb, List, take, ap, ◌∙◌, arith}
use Rattle.std.proofs.lemmas.Bool.{eqb-true, not-false, or_parts}
use Rattle.stages.specs.declared.opened.Open.{Open}
use Rattle.stages.specs.declared.particulars.Particulars.{Particulars}
use Rattle.stages.specs.declared.terms.Buyer.{Buyer}
use Rattle.stages.specs.Buyers.{as_filed}
use Rattle.stages.specs.Kinds.{over_at}
use Rattle.stages.specs.Steps.{closing_code}
use Rattle.sharing.specs.declared.claim.Claim.{Claim}
use Rattle.book.specs.declared.call.Call.{Call}
use Rattle.book.specs.declared.offer.Offer.{Offer}
use Rattle.allotment_theory.proofs.Arriving.{passed}
use Rattle.allotment.specs.declared.pay.BuyerRow.{BuyerRow}
use Rattle.allotment.specs.Judgement.{wrong_places}
use Rattle.allotment.specs.Promise.{Asked}
use Rattle.tender_run.specs.declared.running.Outcome.{Outcome}
use Rattle.tender_run.specs.Promise.{RunPromise}
use Rattle.tender_run.specs.Runs.{run_code}

-- an accepted run has 512 records, 512 fills, 8 rows and the buyers as filed
pub asked : (p : Particulars) (closing records fills rows : ℕ) (bs : List Buyer) → run_code p closing records fills rows bs ≡ 0 → (closing_code p closing ≡ 0) × (records ≡ 512) × Asked p fills rows bs
asked p closing records fills rows bs z =
    let p13 = passed 13 (not (over_at p.kind closing)) _ (λ x. omega arith) z in
    let p14 = passed 14 (wrong_places records fills rows) _ (λ x. omega arith) p13.1 in
    let p15 = passed 15 (not (as_filed p bs)) _ (λ x. omega arith) p14.1 in
    let one = or_parts (not (eqb records 512)) (not (eqb fills 512) || not (eqb rows 8)) p14.0 in
    let two = or_parts (not (eqb fills 512)) (not (eqb rows 8)) one.1 in (
      ap (λ (b : Bool). cond b 13 0) p13.0,
      eqb-true records 512 (not-false (eqb records 512) one.0),
      record {
        fills = eqb-true fills 512 (not-false (eqb fills 512) two.0);
        rows = eqb-true rows 8 (not-false (eqb rows 8) two.1);
        buyers = not-false (as_filed p bs) p15.0;
      },
    )

-- the standing offers are the first records, where those are the first of the copy
pub moved :
    (sellers buyers : List Claim → ℕ → List ℕ) (t : Open) (calls : List Call) (bs : List Buyer) (o : Outcome) (offers records : List Offer) (fills : List ℕ) (rows : List BuyerRow) →
    take o.standing records ≡ take o.standing offers →
    RunPromise sellers buyers t calls bs o offers fills rows →
    RunPromise sellers buyers t calls bs o records fills rows
moved sellers buyers t calls bs o offers records fills rows same did = record {
  standing = same ∙ did.standing;
  how_many = did.how_many;
  priority = did.priority;
  accepted = did.accepted;
  refused = did.refused;
  allotment = did.allotment;
}
