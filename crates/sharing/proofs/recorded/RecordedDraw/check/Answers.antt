use Rattle.std.proofs.Common.{Bool, cond, sym, ap, ◌∙◌, arith}
use Rattle.std.proofs.lemmas.List.{map-id}
use Rattle.sharing.specs.Distinct.{distinct}
use Rattle.sharing.proofs.Codes.{full_code}
use Rattle.sharing.proofs.recorded.RecordedDraw.check.Goals as goal

pub returns-then-not-all_distinct : goal.returns-then-not-all_distinct
returns-then-not-all_distinct c =
    let ranks = c.args.ranks.now in
    let found = c.if-not-all_distinct.ensures ∙ ap distinct (map-id ranks) in
    ap (λ (b : Bool). cond b 0 18) found ∙ sym (full_code ranks (omega arith))

pub returns : goal.returns
returns c =
    let ranks = c.args.ranks.now in
    let found = c.if-not-all_distinct.ensures ∙ ap distinct (map-id ranks) in
    ap (λ (b : Bool). cond b 0 18) found ∙ sym (full_code ranks (omega arith))
