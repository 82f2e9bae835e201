use Rattle.std.proofs.Common.{◌∙◌, length, ◌≤◌, ap, subst, arith}
use Rattle.std.proofs.lemmas.Result.{err_from_is_err_and}
use Rattle.messages.specs.Reading.{file_of, next_place}
use Rattle.replay.specs.Files.{ComesTo}
use Rattle.sharing.specs.Draws.{stridden}
use Rattle.replay.specs.Running.{RunRead, RunStops, faulted}
use Rattle.replay.proofs.Alone.{one_verdict}
use Rattle.replay.proofs.Joined.{comes, not_opened, not_run, told, told_of}
use Rattle.replay.proofs.whole.run.Goals as goal

pub returns-in_err-reader-clause-alone : goal.returns-in_err-reader-clause-alone
returns-in_err-reader-clause-alone c = one_verdict _

pub returns-in_err-filed-clause-answer : goal.returns-in_err-filed-clause-answer
returns-in_err-filed-clause-answer c =
    let p = err_from_is_err_and c.from_residual-in_err-filed.result c.from_residual-in_err-filed.ensures.1 in
    let at = c.in_ok-reader.ensures in
    let short : length (file_of c.in_ok-reader.reader) ≤ 65536 = omega (arith, at.0, ap length at.1) in
    rw (p.1, p.2) (subst (λ f. ComesTo f (faulted c.in_err-filed.field-0.0)) at.1 (comes _ _ _ short at.2 c.in_err-filed.ensures.headed))

pub returns-in_err-filed-clause-alone : goal.returns-in_err-filed-clause-alone
returns-in_err-filed-clause-alone c = one_verdict _

pub returns-in_err-tender-clause-answer : goal.returns-in_err-tender-clause-answer
returns-in_err-tender-clause-answer c =
    let p = err_from_is_err_and c.from_residual-in_err-tender.result c.from_residual-in_err-tender.ensures.1 in
    let at = c.in_ok-reader.ensures in
    let short : length (file_of c.in_ok-reader.reader) ≤ 65536 = omega (arith, at.0, ap length at.1) in
    rw (p.1, p.2) (subst (λ f. ComesTo f (faulted c.in_err-tender.field-0.0)) at.1
    (not_opened _ _ _ _ _ _ short at.2 c.read_tender.ensures.file c.in_ok-filed.ensures.headed c.in_err-tender.ensures.opened))

pub returns-in_err-tender-clause-alone : goal.returns-in_err-tender-clause-alone
returns-in_err-tender-clause-alone c = one_verdict _

pub returns-in_err-outcome-clause-answer : goal.returns-in_err-outcome-clause-answer
returns-in_err-outcome-clause-answer c =
    let p = err_from_is_err_and c.from_residual-in_err-outcome.result c.from_residual-in_err-outcome.ensures.1 in
    let at = c.in_ok-reader.ensures in
    let short : length (file_of c.in_ok-reader.reader) ≤ 65536 = omega (arith, at.0, ap length at.1) in
    let read = c.read_tender.ensures.file in
    let tender = c.in_ok-tender.ensures.opened in
    let stops = subst (λ bs. RunStops (file_of c.read_opening.new.reader) (next_place c.read_opening.new.reader) c.in_ok-tender.tender bs c.in_err-outcome.field-0.0) c.as_slice.ensures.value c.in_err-outcome.ensures.fault in
    rw (p.1, p.2) (subst (λ f. ComesTo f (faulted c.in_err-outcome.field-0.0)) at.1
    (not_run _ _ _ _ _ _ _ c.in_ok-tender.tender _ short at.2 read (c.read_opening.ensures.file ∙ read) c.in_ok-filed.ensures.headed tender.1 tender.0 stops))

pub returns-in_err-outcome-clause-alone : goal.returns-in_err-outcome-clause-alone
returns-in_err-outcome-clause-alone c = one_verdict _

pub returns-clause-answer : goal.returns-clause-answer
returns-clause-answer c =
    let at = c.in_ok-reader.ensures in
    let short : length (file_of c.in_ok-reader.reader) ≤ 65536 = omega (arith, at.0, ap length at.1) in
    let read = c.read_tender.ensures.file in
    let tender = c.in_ok-tender.ensures.opened in
    let run = subst (λ bs. RunRead (file_of c.read_opening.new.reader) (next_place c.read_opening.new.reader) (stridden c.in_ok-filed.field-0.draw.stride c.in_ok-filed.field-0.draw.shift) c.in_ok-tender.tender bs c.in_ok-outcome.field-0) c.as_slice.ensures.value (c.in_ok-outcome.ensures.read tt) in
    told_of at.1
    (told _ _ _ _ _ _ _ _ _ _ short at.2 read (c.read_opening.ensures.file ∙ read) c.in_ok-filed.ensures.headed tender.0 tender.1 c.particulars-particulars.ensures run)

pub returns-clause-alone : goal.returns-clause-alone
returns-clause-alone c = one_verdict _
