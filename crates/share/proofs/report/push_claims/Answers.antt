use Rattle.std.proofs.Common.{◌++◌, string_bytes, sym, ap, ◌∙◌, append-nil}
use Rattle.std.proofs.lemmas.Slice.Zip.{either_empty_from_Zip}
use Rattle.share.proofs.Lines.{no_lines}
use Rattle.share.proofs.report.push_claims.Goals as goal

pub returns : goal.returns
returns c =
    let text = string_bytes c.loop-claim.text in
    let end = either_empty_from_Zip c.loop-claim.claim-iterator c.next.new.self c.next.result c.in-None.is c.next.ensures.steps in
    sym (append-nil text) ∙ ap (λ l. text ++ l) (sym (no_lines _ _ end)) ∙ c.loop-claim.invariant
