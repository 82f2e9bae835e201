use Rattle.std.proofs.Common.{◌≡◌, ℕ, suc, List, [], ◌∷◌, ◌++◌, get_or, length, length-append, string_bytes, ap, ◌∙◌, rules}
use Rattle.std.specs.Iterator.Adapters.{zip_first, zip_second}
use Rattle.std.specs.Slice.Iter.{iter_rest}
use Rattle.std.proofs.lemmas.Slice.Zip.{zip_end, zip_turn}
use Rattle.stages.specs.Buyers.{nobody}
use Rattle.allotment.specs.Rows.{no_row}
use Rattle.lines.specs.Statement.{buyer_line}
use Rattle.lines.proofs.Lines.{buyers_end, buyers_more}
use Rattle.lines.proofs.statements.push_buyers.Goals as goal

pub loop-buyer-preserved : goal.loop-buyer-preserved
loop-buyer-preserved c =
    let buyers = c.args.buyers.now in
    let rows = c.args.rows.now in
    let i = length c.loop-buyer.yielded in
    let first : iter_rest (zip_first c.into_iter-buyer-iterator.result) ≡ buyers = search rules in
    let second : iter_rest (zip_second c.into_iter-buyer-iterator.result) ≡ rows = search rules in
    let t = zip_turn buyers rows c.loop-buyer.yielded c.into_iter-buyer-iterator.result c.loop-buyer.buyer-iterator c.next.new.self _ first second c.loop-buyer.yielded_by (c.in-Some.buyer, c.in-Some.row) c.in-Some.is c.next.ensures.steps in
    let text = string_bytes c.loop-buyer.text in
    let one_more : length (c.loop-buyer.yielded ++ (c.in-Some.buyer, c.in-Some.row) ∷ []) ≡ suc i = search (rules, length-append) in
    c.in_ok-push_str.ensures.bytes
    ∙ ap (λ (l : List ℕ). text ++ l) (c.as_str.ensures.value ∙ c.in_ok-line.ensures ∙ (λ k. buyer_line (t.2 nobody k) (t.3 no_row k)))
    ∙ ap (λ (l : List ℕ). l ++ buyer_line (get_or buyers i nobody) (get_or rows i no_row)) c.loop-buyer.invariant
    ∙ buyers_more (string_bytes c.args.text.now) buyers rows i _ nobody no_row t.0 t.1 one_more

pub returns : goal.returns
returns c =
    let buyers = c.args.buyers.now in
    let rows = c.args.rows.now in
    let text = string_bytes c.args.text.now in
    let first : iter_rest (zip_first c.into_iter-buyer-iterator.result) ≡ buyers = search rules in
    let second : iter_rest (zip_second c.into_iter-buyer-iterator.result) ≡ rows = search rules in
    let all = zip_end buyers rows c.loop-buyer.yielded c.into_iter-buyer-iterator.result c.loop-buyer.buyer-iterator c.next.new.self _ first second c.loop-buyer.yielded_by c.in-None.is c.next.ensures.steps in
    c.loop-buyer.invariant ∙ ap (λ (l : List ℕ). text ++ l) (buyers_end buyers rows _ all)
