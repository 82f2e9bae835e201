use Rattle.std.proofs.Common.{ℕ, map, eqb, sym, arith}
use Rattle.std.proofs.lemmas.Bool.{eq-eqb}
use Rattle.std.proofs.lemmas.List.{length-map}
use Rattle.std.proofs.lemmas.List.Folds.{list_any_at}
use Rattle.sharing.proofs.Rows.{number_at}
use Rattle.sharing.proofs.distinct.has_number.Goals as goal

pub returns-then-number : goal.returns-then-number
returns-then-number g c =
    let f = g.T.Numbered.numbered in
    let xs = c.args.items.now in
    let i = c.loop-item.item-index in
    let long = length-map xs f in
    let here = number_at f xs i c.item-item.result (omega arith) c.item-item.is in
    sym (list_any_at (λ (y : ℕ). eqb c.args.number y) (map f xs) i 0 (omega arith) (eq-eqb _ _ (omega (arith, here, c.number.ensures, c.if-number.true))))
