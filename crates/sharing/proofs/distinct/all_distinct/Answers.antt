use Rattle.std.proofs.Common.{ℕ, suc, map, take, add-one, ap, ◌∙◌, sym, arith}
use Rattle.std.proofs.lemmas.List.{length-map, take-map}
use Rattle.sharing.specs.Distinct.{among, distinct}
use Rattle.sharing.proofs.Rows.{distinct_more, number_at, twice}
use Rattle.sharing.proofs.distinct.all_distinct.Goals as goal

pub returns-then-has_number : goal.returns-then-has_number
returns-then-has_number g c =
    let f = g.T.Numbered.numbered in
    let xs = c.args.items.now in
    let i = c.loop-i.i in
    let n = c.number.result in
    let long = length-map xs f in
    let here = number_at f xs i c.index-items-i.result (omega arith) c.index-items-i.is in
    let front = ap (among n) (take-map f i xs) in
    twice (map f xs) i n (omega arith) (omega arith) (cc)

pub loop-i-preserved : goal.loop-i-preserved
loop-i-preserved g c =
    let f = g.T.Numbered.numbered in
    let xs = c.args.items.now in
    let i = c.loop-i.i in
    let n = c.number.result in
    let long = length-map xs f in
    let here = number_at f xs i c.index-items-i.result (omega arith) c.index-items-i.is in
    let front = ap (among n) (take-map f i xs) in
    ap (λ (k : ℕ). distinct (map f (take k xs))) (add-one i)
    ∙ ap distinct (sym (take-map f (suc i) xs))
    ∙ distinct_more (map f xs) i n (omega arith) (omega arith) (cc) (ap distinct (take-map f i xs) ∙ c.loop-i.invariant)
