use Rattle.std.proofs.Common.{Some, None, [], get_or, sym, ap, ◌∙◌, arith}
use Rattle.book.specs.declared.offer.Offer.{Offer}
use Rattle.book.specs.Model.{model_of, space}
use Rattle.book.proofs.Searching.{stands_at}
use Rattle.book.proofs.book.Book.seek.Goals as goal

abbrev nothing : Offer
nothing = record { number = 0; member = []; account = 0; price = 0; lots = 0 }

pub returns-in_err-at : goal.returns-in_err-at
returns-in_err-at c =
    let none = stands_at (space c.args.self.now) (model_of c.args.self.now).list c.args.number nothing None (omega arith) c.in_err-at.ensures in
    rw c.from_residual.ensures none

pub returns : goal.returns
returns c =
    let stands = stands_at (space c.args.self.now) (model_of c.args.self.now).list c.args.number nothing (Some c.in_ok-at.at) (omega arith) c.in_ok-at.ensures in
    (stands.0 ∙ ap (λ os. Some (get_or os c.in_ok-at.at nothing)) (sym c.offers.ensures), stands.1, stands.2)
