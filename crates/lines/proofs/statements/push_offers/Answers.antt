use Rattle.std.proofs.Common.{ℕ, List, [], ◌++◌, get_or, string_bytes, ap, ◌∙◌}
use Rattle.std.proofs.lemmas.List.{take_all}
use Rattle.book.specs.declared.offer.Offer.{Offer}
use Rattle.lines.specs.Statement.{offer_line, offer_lines}
use Rattle.lines.proofs.Lines.{offers_more}
use Rattle.lines.proofs.statements.push_offers.Goals as goal

abbrev none : Offer
none = record { number = 0; member = []; account = 0; price = 0; lots = 0 }

pub loop-offer-preserved : goal.loop-offer-preserved
loop-offer-preserved c =
    let offers = c.args.offers.now in
    let fills = c.args.fills.now in
    let i = c.loop-offer.offer-index in
    let o = get_or offers i none in
    c.in_ok-push_str.ensures.bytes
    ∙ ap (λ (l : List ℕ). string_bytes c.loop-offer.text ++ l)
    (c.as_str.ensures.value ∙ c.in_ok-line.ensures ∙ ap (λ (n : ℕ). offer_line o n) c.fill_of.ensures)
    ∙ ap (λ (l : List ℕ). l ++ offer_line o (get_or fills o.number 0)) c.loop-offer.invariant
    ∙ offers_more (string_bytes c.args.text.now) fills offers i none c.loop-offer-test.true

pub returns : goal.returns
returns c =
    c.loop-offer.invariant
    ∙ ap (λ l. string_bytes c.args.text.now ++ offer_lines c.args.fills.now l) (take_all c.loop-offer.offer-index c.args.offers.now c.loop-offer-test.false)
