use Rattle.std.proofs.Common.{rules, ◌≡◌, ℕ, ◌-◌, length, replicate, Some, None, sym, ap, ◌∙◌, arith}
use Rattle.sharing.specs.Claims.{admissible}
use Rattle.sharing.proofs.Codes.{at_accepted}
use Rattle.book.specs.Model.{model_of}
use Rattle.allotment_theory.specs.Fills.{row_of, fills_by, filled, scattered, tied}
use Rattle.allotment_theory.specs.Offered.{below, marginal_of}
use Rattle.allotment_theory.proofs.Scatter.{zero_row}
use Rattle.allotment_theory.proofs.Ties.{ties_admissible}
use Rattle.allotment.proofs.Accepted.{accepts}
use Rattle.allotment.proofs.filling.fill_offers.Goals as goal

pub returns-in_err-price-clause-written : goal.returns-in_err-price-clause-written
returns-in_err-price-clause-written g c = λ standing long sound.
    let os = (model_of c.args.book.now).list in
    let shares = g.S.SharingRule.shares_of c.args.rule.now in
    let none : marginal_of c.args.due os ≡ None = search rules in
    let zeros : c.fill.new.self ≡ replicate (length c.args.fills.now) 0 = search rules in
    zeros
    ∙ ap (λ (n : ℕ). replicate n 0) long
    ∙ sym (zero_row 512 os)
    ∙ ap (λ o. row_of os (fills_by shares c.args.due os o)) (sym none)

pub returns-clause-written : goal.returns-clause-written
returns-clause-written g c = λ standing long sound.
    let os = (model_of c.args.book.now).list in
    let shares = g.S.SharingRule.shares_of c.args.rule.now in
    let price = c.in_ok-price.price in
    let some : marginal_of c.args.due os ≡ Some price = search rules in
    let zeros : c.fill.new.self ≡ replicate (length c.args.fills.now) 0 = search rules in
    let ok = ties_admissible os price standing in
    let is : c.deref.result.now ≡ tied price os = search rules in
    let amount : c.saturating_sub-remains.result ≡ c.args.due - below price os = omega arith in
    let shared : c.share.new.shares ≡ shares (tied price os) (c.args.due - below price os) =
    at_accepted c.share.result _ _ _ (λ _ h. h sound) (c.share.ensures.code ∙ accepts c.deref.result.now _ (ap admissible is ∙ ok) (search rules)) c.share.ensures.shared
    ∙ ap (λ l. shares l c.saturating_sub-remains.result) is
    ∙ ap (shares (tied price os)) amount in
    c.write_fills.ensures
    ∙ ap (λ l. scattered os (filled price os l) c.fill.new.self) shared
    ∙ ap (λ l. scattered os (filled price os (shares (tied price os) (c.args.due - below price os))) l) (zeros ∙ ap (λ (n : ℕ). replicate n 0) long)
    ∙ ap (λ o. row_of os (fills_by shares c.args.due os o)) (sym some)
