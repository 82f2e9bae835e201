use Rattle.std.proofs.Common.{◌≡◌, rules}
use Rattle.std.proofs.lemmas.Result.{err_from_is_err_and}
use Rattle.stages.specs.Filing.{AsFiled, filing_code}
use Rattle.sharing.specs.Draws.{stride_code}
use Rattle.replay.specs.Heading.{Refused}
use Rattle.replay.proofs.Heads.{drawn, filed_for, not_drawn, not_filed}
use Rattle.replay.proofs.heading.read_tender.Goals as goal

pub returns-in_err-filed-clause-headed : goal.returns-in_err-filed-clause-headed
returns-in_err-filed-clause-headed c =
    let p = err_from_is_err_and c.from_residual-in_err-filed.result c.from_residual-in_err-filed.ensures.1 in
    let h = c.in_ok-buyers.field-0 in
    let refused : Refused (filing_code c.in_ok-terms.terms h.buyers.items) h.place c.in_err-filed.field-0.0 = search rules in
    rw (p.1, p.2)
    (not_filed _ _ _ _ _ _ _ _ _ _ c.read_terms.ensures.file c.in_ok-terms.ensures.read.0 (c.in_ok-buyers.ensures.read c.in_ok-terms.terms) refused)

pub returns-in_err-draw-clause-headed : goal.returns-in_err-draw-clause-headed
returns-in_err-draw-clause-headed c =
    let p = err_from_is_err_and c.from_residual-in_err-draw.result c.from_residual-in_err-draw.ensures.1 in
    let h = c.in_ok-buyers.field-0 in
    let passed : filing_code c.in_ok-terms.terms h.buyers.items ≡ 0 = search rules in
    let refused : Refused (stride_code h.draw.stride h.draw.shift) h.place c.in_err-draw.field-0.0 = search rules in
    rw (p.1, p.2)
    (not_drawn _ _ _ _ _ _ _ _ _ _ c.read_terms.ensures.file c.in_ok-terms.ensures.read.0 (c.in_ok-buyers.ensures.read c.in_ok-terms.terms) passed refused)

pub returns-clause-headed : goal.returns-clause-headed
returns-clause-headed c =
    let t = c.in_ok-terms.terms in
    let h = c.in_ok-buyers.field-0 in
    let d = c.in_ok-draw.draw in
    let passed : filing_code t h.buyers.items ≡ 0 = search rules in
    let filed : AsFiled t h.buyers.items c.in_ok-filed.filed.particulars = search rules in
    let fair : stride_code h.draw.stride h.draw.shift ≡ 0 = search rules in
    let made : (d.stride ≡ h.draw.stride) × (d.shift ≡ h.draw.shift) = search rules in
    record {
      terms = t;
      numbers = h.draw;
      filed = filed;
      as_filed_for = filed_for _ _ _ passed filed;
      stride = made.0;
      shift = made.1;
      leads = drawn _ _ _ _ _ _ _ _ _ c.read_terms.ensures.file c.in_ok-terms.ensures.read.0 (c.in_ok-buyers.ensures.read t) passed fair;
    }
