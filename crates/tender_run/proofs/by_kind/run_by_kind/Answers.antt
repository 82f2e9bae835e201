use Rattle.std.proofs.Common.{◌≡◌, ◌∙◌, sym, ap, subst}
use Rattle.std.proofs.lemmas.Result.{IfOk-weaker}
use Rattle.sharing.specs.Shares.{largest_remainder}
use Rattle.stages.specs.declared.kind.Kind.{Kind}
use Rattle.stages.specs.declared.kind.Kind.TheVariants.{Financing}
use Rattle.stages.specs.declared.particulars.Particulars.{Particulars}
use Rattle.tender_run.specs.Promise.{RunPromise}
use Rattle.tender_run.specs.Runs.{rule_of}
use Rattle.tender_run.proofs.by_kind.run_by_kind.Goals as goal

pub returns-in-Financing-clause-promise : goal.returns-in-Financing-clause-promise
returns-in-Financing-clause-promise g c =
    let run = c.run-in-Financing in
    let told = c.args.session.now in
    let kind : Financing ≡ c.args.tender.particulars.kind = sym c.in-Financing.is ∙ ap (λ (p : Particulars). p.kind) c.particulars.ensures in
    IfOk-weaker run.result _ _
    (λ o did _ just.
    subst (λ (k : Kind). RunPromise (rule_of k (g.D.Draw.rank_of c.args.draws.sellers)) (largest_remainder (g.E.Draw.rank_of c.args.draws.buyers)) c.args.tender told.calls.now told.buyers.now o run.new.records run.new.fills run.new.rows) kind
    (subst (λ (d : _). g.E.Draw.sound d → RunPromise (rule_of Financing (g.D.Draw.rank_of c.args.draws.sellers)) (largest_remainder (g.E.Draw.rank_of d)) c.args.tender told.calls.now told.buyers.now o run.new.records run.new.fills run.new.rows)
    c.new-buyers.ensures (did tt) just))
    run.ensures.promise
