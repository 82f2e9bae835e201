use Rattle.std.proofs.Common.{◌≡◌, ℕ, List, length, take, sym, ap, ◌∙◌, subst, arith}
use Rattle.stages.specs.declared.particulars.Particulars.{Particulars}
use Rattle.book.specs.declared.offer.Offer.{Offer}
use Rattle.book.specs.Model.{Model, model_of}
use Rattle.book.specs.Soundness.{Sound}
use Rattle.book.specs.Told.{tally}
use Rattle.allotment_theory.proofs.Arriving.{fresh_sound, in_priority}
use Rattle.allotment.specs.Promise.{Promise, Asked}
use Rattle.tender_run.specs.Runs.{with_buyers, tallied, taken_of}
use Rattle.tender_run.proofs.running.run_fresh.Goals as goal

pub returns-clause-promise : goal.returns-clause-promise
returns-clause-promise g c = λ room ask fair just.
    let t = c.args.tender in
    let p = t.particulars in
    let bs = c.args.session.now.buyers.now in
    let calls = c.args.session.now.calls.now in
    let book = c.new-book in
    let b = book.result in
    let made = c.make_calls-accepted in
    let after = made.new.book in
    let closed_p : c.particulars-particulars.result ≡ p = c.particulars-particulars.ensures ∙ c.in_ok-closed.ensures.state.0 in
    let sell = g.S.SharingRule.shares_of c.args.rules.sellers.now in
    let buy = g.B.SharingRule.shares_of c.args.rules.buyers.now in
    let did = c.allot_standing-allotted in
    let new : Sound (model_of b) = subst Sound (sym book.ensures.state) fresh_sound in
    let model : model_of after ≡ tallied t bs calls =
    made.ensures.state new
    ∙ ap (λ (n : ℕ). tally t n (model_of b) (with_buyers bs calls)) (book.ensures.space ∙ room)
    ∙ ap (λ (m : Model). tally t 512 m (with_buyers bs calls)) book.ensures.state in
    let list = ap (λ (m : Model). m.list) model in
    let kept = did.ensures.promise (subst (λ (q : Particulars). Asked q (length c.args.fills.now) (length c.args.rows.now) bs) (sym closed_p) ask) (made.ensures.sound new) fair just in
    let at_p = subst (λ (q : Particulars). Promise sell buy q (model_of after).list bs did.result did.new.fills did.new.rows) closed_p kept in
    record {
      standing = ap (λ (k : ℕ). take k c.copy_standing.new.offers) c.copy_standing.ensures.count ∙ c.copy_standing.ensures.front ∙ list;
      how_many = c.copy_standing.ensures.count ∙ ap length list;
      priority = in_priority t bs calls;
      accepted =
          made.ensures.taken new
          ∙ ap (λ (n : ℕ). taken_of t n bs (model_of b) calls) (book.ensures.space ∙ room)
          ∙ ap (λ (m : Model). taken_of t 512 bs m calls) book.ensures.state;
      refused = omega (arith, made.ensures.few);
      allotment = subst (λ (os : List Offer). Promise sell buy p os bs did.result did.new.fills did.new.rows) list at_p;
    }
