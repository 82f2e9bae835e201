use Rattle.std.proofs.Common.{◌≡◌, ◌∙◌, rules}
use Rattle.std.specs.List.{fold}
use Rattle.std.proofs.iter.runs.Made.{chains}
use Rattle.book.specs.declared.offer.Offer.{Offer}
use Rattle.book.specs.Model.{model_of}
use Rattle.book.proofs.Totals.{more, capped_total}
use Rattle.book.proofs.book.Book.supply.Goals as goal

pub returns : goal.returns
returns c =
    let os = (model_of c.args.self.now).list in
    let total : c.fold.result ≡ fold (more (λ (o : Offer). o.lots)) 0 os = search (rules, chains) in
    total ∙ capped_total (λ (o : Offer). o.lots) os
