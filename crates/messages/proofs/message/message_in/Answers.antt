use Rattle.std.proofs.Common.{◌≡◌, None, ◌∙◌, sym, rules}
use Rattle.std.specs.Result.{result_ok}
use Rattle.messages.proofs.Untold.{no_message, no_length, untold}
use Rattle.messages.proofs.message.message_in.Goals as goal

pub returns-in_err-ok-clause-reads : goal.returns-in_err-ok-clause-reads
returns-in_err-ok-clause-reads c =
    let unnamed : result_ok c.try_from.result ≡ None = search rules in
    c.from_residual.ensures ∙ sym (no_message c.args.tag c.args.value.now (untold c.args.tag _ c.try_from.ensures unnamed))

pub returns-in_err-ok-clause-back : goal.returns-in_err-ok-clause-back
returns-in_err-ok-clause-back c =
    let unnamed : result_ok c.try_from.result ≡ None = search rules in
    let length = no_length c.args.tag (untold c.args.tag _ c.try_from.ensures unnamed) in
    rw (c.from_residual.ensures, length) (λ e. cc)
