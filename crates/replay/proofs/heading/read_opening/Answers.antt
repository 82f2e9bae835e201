use Rattle.std.proofs.Common.{◌≡◌, MatchResult, subst, rules}
use Rattle.stages.specs.Steps.{opening_code}
use Rattle.replay.specs.Heading.{Refused}
use Rattle.replay.proofs.Heads.{opened}
use Rattle.replay.proofs.heading.read_opening.Goals as goal

pub returns-clause-opened : goal.returns-clause-opened
returns-clause-opened c =
    let o = c.in_ok-base.field-0 in
    let p = c.args.filed.particulars in
    let read = c.in_ok-base.ensures.read in
    let step : MatchResult c.map_err.result (λ t. (opening_code p o.base ≡ 0) × (t.particulars ≡ p) × (t.base ≡ o.base)) (λ e. Refused (opening_code p o.base) o.place e) = search rules in
    opened _ _ _ _ _ _ read.1 (subst (λ place. MatchResult c.map_err.result (λ t. (opening_code p o.base ≡ 0) × (t.particulars ≡ p) × (t.base ≡ o.base)) (λ e. Refused (opening_code p o.base) place e)) read.0 step)
