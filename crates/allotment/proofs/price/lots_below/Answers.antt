use Rattle.std.proofs.Common.{rules, tests, ℕ, ◌+◌, ltb, filter, refl, ap, ◌∙◌, arith}
use Rattle.std.proofs.lemmas.Iterator.{YieldsList-from_slice}
use Rattle.std.proofs.lemmas.Iterator.Consumers.{YieldsList-from_filter, fold_from_yields_List}
use Rattle.book.specs.declared.offer.Offer.{Offer}
use Rattle.book.specs.Model.{model_of}
use Rattle.book.specs.Offers.{capped}
use Rattle.allotment.proofs.Totals.{capped_fold, passing}
use Rattle.allotment.proofs.price.lots_below.Goals as goal

pub returns : goal.returns
returns c =
    let os = (model_of c.args.book.now).list in
    let lots : Offer → ℕ = λ o. o.lots in
    let total =
    fold_from_yields_List _ (λ (a : ℕ) (o : Offer). capped (a + o.lots)) 0 c.fold.result c.fold.ensures.ran
    (YieldsList-from_filter _ (λ (o : Offer). ltb o.price c.args.price) (YieldsList-from_slice os cc) c.filter.ensures.closure (λ x r q k. search (rules, tests)))
    (λ a x b q k. search (rules, tests)) in
    total
    ∙ capped_fold lots lots (λ o. refl) (filter (λ (o : Offer). ltb o.price c.args.price) os) 0 0 refl
    ∙ ap capped (omega (arith, passing (λ (o : Offer). ltb o.price c.args.price) lots os))
