use Rattle.std.proofs.Common.{rules, ◌≡◌, ℕ, ◌+◌, ◌*◌, get_or, sum_by, fold, refl, ap, ◌∙◌, zero-add, arith}
use Rattle.std.proofs.iter.runs.Made.{chains}
use Rattle.book.specs.declared.offer.Offer.{Offer}
use Rattle.book.specs.Model.{model_of}
use Rattle.book.specs.Offers.{capped}
use Rattle.allotment_theory.specs.Receipts.{paid_at}
use Rattle.allotment.proofs.Totals.{capped_fold}
use Rattle.allotment.proofs.pay.receipts.Goals as goal

pub returns : goal.returns
returns c =
    let os = (model_of c.args.book.now).list in
    let p = c.args.particulars in
    let worth : Offer → ℕ = λ o. get_or c.args.fills.now o.number 0 * p.unit * paid_at p.method c.args.price o in
    let total : c.fold.result ≡ fold (λ (a : ℕ) (o : Offer). capped (a + capped (worth o))) 0 os = search (rules, chains) in
    total ∙ capped_fold worth (λ o. capped (worth o)) (λ o. omega arith) os 0 0 refl ∙ ap capped (zero-add (sum_by worth os))
