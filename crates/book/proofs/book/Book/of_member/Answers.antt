use Rattle.std.proofs.Common.{rules, tests}
use Rattle.std.proofs.lemmas.Iterator.{YieldsList-from_slice}
use Rattle.std.proofs.lemmas.Iterator.Search.{find_from_yields_List}
use Rattle.book.specs.declared.offer.Offer.{Offer}
use Rattle.book.specs.Model.{model_of}
use Rattle.book.specs.Offers.{of_member}
use Rattle.book.proofs.Searching.{found}
use Rattle.book.proofs.book.Book.of_member.Goals as goal

pub returns : goal.returns
returns c =
    let test = λ (o : Offer). of_member o c.args.member in
    let os = (model_of c.args.self.now).list in
    found test os c.find.result (find_from_yields_List test _ _ c.find.result c.find.ensures.ran (YieldsList-from_slice os cc) (λ x b q k. search (rules, tests)))
