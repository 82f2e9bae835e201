use Rattle.std.proofs.Common.{◌≡◌, ◌+◌, fold, ◌∙◌, rules}
use Rattle.std.proofs.iter.runs.Made.{chains}
use Rattle.sharing.specs.Totals.{capped}
use Rattle.sharing.proofs.Totals.{capped_total}
use Rattle.sharing.proofs.total.total_lots.Goals as goal

pub returns : goal.returns
returns g c =
    let f = g.T.Lots.lots_of in
    let whole : c.fold.result ≡ fold (λ all x. capped (all + f x)) 0 c.args.items.now = search (rules, chains) in
    whole ∙ capped_total f c.args.items.now
