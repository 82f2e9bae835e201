use Rattle.std.proofs.Common.{◌≡◌, eqb, None, Some, sym, ap, ◌∙◌, rules}
use borrow.Author.Tests.{tests}
use Rattle.std.specs.Option.{option_map}
use Rattle.std.proofs.lemmas.Iterator.{YieldsList-from_slice}
use Rattle.std.proofs.lemmas.Iterator.Search.{find_from_yields_List}
use Rattle.frames.proofs.Known.{first_found}
use Rattle.frames.proofs.layout.length_in.Goals as goal

pub returns-in_err-layout : goal.returns-in_err-layout
returns-in_err-layout c =
    let ls = c.args.layouts.now in
    let tag = c.args.tag in
    let looked = find_from_yields_List (λ l. eqb l.tag tag) _ _ c.find.result c.find.ensures.ran (YieldsList-from_slice ls c.iter.ensures.rest) (λ x b q k. search (rules, tests)) in
    let none : c.find.result ≡ None = search rules in
    let left : c.from_residual.result ≡ None = search rules in
    left ∙ ap (option_map (λ l. l.length)) (ap (option_map (λ r. r.now)) (sym none) ∙ looked) ∙ first_found ls tag

pub returns : goal.returns
returns c =
    let ls = c.args.layouts.now in
    let tag = c.args.tag in
    let looked = find_from_yields_List (λ l. eqb l.tag tag) _ _ c.find.result c.find.ensures.ran (YieldsList-from_slice ls c.iter.ensures.rest) (λ x b q k. search (rules, tests)) in
    let some : c.find.result ≡ Some c.in_ok-layout.layout = search rules in
    ap (option_map (λ l. l.length)) (ap (option_map (λ r. r.now)) (sym some) ∙ looked) ∙ first_found ls tag
