use Rattle.std.proofs.Common.{rules, ◌≡◌, ℕ, ◌≤◌, Bool, length, take, drop, replicate, sum, sym, refl, ap, ◌∙◌, arith}
use Rattle.sharing.specs.Claims.{admissible}
use Rattle.sharing.proofs.Codes.{at_accepted}
use Rattle.book.specs.Model.{model_of}
use Rattle.book.specs.Offers.{capped}
use Rattle.allotment_theory.specs.Receipts.{receipts_of, paid_at}
use Rattle.allotment.specs.Rows.{no_row, rows_of, billed_of, claims_of}
use Rattle.allotment.proofs.Accepted.{accepts}
use Rattle.allotment.proofs.Filed.{length_claims}
use Rattle.allotment.proofs.tender.compute.Goals as goal

pub returns-clause-computed : goal.returns-clause-computed
returns-clause-computed g c = λ sound just.
    let os = (model_of c.args.book.now).list in
    let p = c.args.particulars in
    let cs = claims_of c.args.buyers.now in
    let due = c.due-due.result in
    let all = c.receipts-receipts.result in
    let wide = length c.args.rows.now in
    let is : c.deref.result.now ≡ cs = search rules in
    let counts = length_claims 0 c.args.buyers.now in
    let long : length c.share.new.shares ≡ length cs = search (rules, counts) in
    let cleared : c.fill.new.self ≡ replicate wide no_row = search rules in
    record {
      due = c.due-due.ensures;
      price = c.fill_offers-price.ensures.priced;
      filled = λ standing places. c.fill_offers-price.ensures.written standing places sound;
      receipts = c.receipts-receipts.ensures ∙ ap (λ (q : ℕ). capped (receipts_of p.unit (paid_at p.method q) os c.fill_offers-price.new.fills)) c.unwrap_or.ensures;
      paid = λ ok le.
          let shared : c.share.new.shares ≡ g.B.SharingRule.shares_of c.args.rules.buyers.now cs due =
          at_accepted c.share.result _ _ _ (λ _ h. h just) (c.share.ensures.code ∙ accepts c.deref.result.now _ (ap admissible is ∙ ok) (sym c.share.auto.shares ∙ long ∙ sym (ap length is))) c.share.ensures.shared ∙ ap (λ l. g.B.SharingRule.shares_of c.args.rules.buyers.now l due) is in
          let fits : sum c.share.new.shares ≤ due = omega (arith, ap sum shared) in
          ap (λ (k : ℕ). take k c.write_rows.new.rows) (sym long)
          ∙ c.write_rows.ensures.front fits
          ∙ ap (λ (b : Bool). rows_of all due b c.share.new.shares) c.is_billed.ensures
          ∙ ap (rows_of all due (billed_of p.kind)) shared;
      beyond =
          ap (λ (k : ℕ). drop k c.write_rows.new.rows) (sym long)
          ∙ c.write_rows.ensures.back
          ∙ ap (λ (k : ℕ). drop k c.fill.new.self) long
          ∙ ap (drop (length cs)) cleared;
      fee = refl;
    }
