use Rattle.std.proofs.Common.{rules, ◌≡◌, ℕ, length}
use Rattle.tender_run.specs.Runs.{run_code}
use Rattle.tender_run.proofs.Lent.{asked, moved}
use Rattle.tender_run.proofs.running.run.Goals as goal

pub returns-clause-promise : goal.returns-clause-promise
returns-clause-promise g c = λ fair just.
    let t = c.args.tender in
    let told = c.args.session.now in
    let done = c.run_fresh in
    let passes : ◌≡◌ {A = ℕ} (run_code t.particulars told.closing (length c.args.records.now) (length c.args.fills.now) (length c.args.rows.now) told.buyers.now) 0 = search rules in
    let ask = asked t.particulars told.closing (length c.args.records.now) (length c.args.fills.now) (length c.args.rows.now) told.buyers.now passes in
    moved (g.S.SharingRule.shares_of c.args.rules.sellers.now) (g.B.SharingRule.shares_of c.args.rules.buyers.now) t told.calls.now told.buyers.now c.in_ok-outcome.outcome
    done.new.offers c.write_back.new.records done.new.fills done.new.rows
    c.write_back.ensures (c.in_ok-outcome.ensures.promise ask.1 ask.2 fair just)
