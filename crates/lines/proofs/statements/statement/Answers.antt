use Rattle.std.proofs.Common.{ℕ, List, ◌++◌, string_bytes, ap, ◌∙◌}
use Rattle.std.proofs.lemmas.List.{append_assoc}
use Rattle.lines.specs.Log.{line_of}
use Rattle.lines.specs.Statement.{buyer_lines, offer_lines}
use Rattle.lines.proofs.statements.statement.Goals as goal

pub returns : goal.returns
returns c =
    let r = c.args.report.now in
    let buyers = buyer_lines r.buyers.items r.rows in
    let offers = offer_lines r.fills r.offers.items in
    let standing = c.in_ok-push_offers.ensures ∙ ap (λ l. string_bytes c.in_ok-text.text ++ offer_lines r.fills l) c.as_slice.ensures.value in
    c.in_ok-push_buyers.ensures
    ∙ ap (λ l. string_bytes c.push_offers.new.text ++ buyer_lines l r.rows) c.as_slice-2.ensures.value
    ∙ ap (λ (l : List ℕ). l ++ buyers) (standing ∙ ap (λ (l : List ℕ). l ++ offers) c.in_ok-text.ensures.line)
    ∙ append_assoc (line_of r) offers buyers
