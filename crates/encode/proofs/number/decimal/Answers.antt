use Rattle.std.proofs.Common.{ℕ, ◌+◌, length, drop, Option, sym, ap, ◌∙◌, arith}
use Rattle.std.proofs.lemmas.List.{drop_all}
use Rattle.std.proofs.lemmas.Bool.{eqb-false}
use Rattle.encode.specs.Numbers.{onward, digits}
use Rattle.encode.proofs.Reading.{digits_more, number_some}
use Rattle.encode.proofs.number.decimal.Goals as goal

pub returns-in_err-number : goal.returns-in_err-number
returns-in_err-number c =
    let w = c.args.word.now in
    let i = c.loop-digit.digit-index in
    let most = c.args.most in
    let all =
    number_some most w (omega arith)
    ∙ c.loop-digit.invariant.0
    ∙ digits_more most c.loop-digit.number w i c.loop-digit-test.true
    ∙ ap (λ (o : Option ℕ). onward o (λ m. digits most m (drop (i + 1) w))) (sym c.in_err-number.ensures.more) in
    record { number = c.from_residual.ensures ∙ sym all; bound = rw c.from_residual.ensures tt }

pub loop-digit-preserved : goal.loop-digit-preserved
loop-digit-preserved c =
    let w = c.args.word.now in
    let i = c.loop-digit.digit-index in
    let most = c.args.most in (
      c.loop-digit.invariant.0
          ∙ digits_more most c.loop-digit.number w i c.loop-digit-test.true
          ∙ ap (λ (o : Option ℕ). onward o (λ m. digits most m (drop (i + 1) w))) (sym c.in_ok-number.ensures.more),
      c.in_ok-number.ensures.bound,
    )

pub returns : goal.returns
returns c =
    let w = c.args.word.now in
    let most = c.args.most in
    let all =
    number_some most w (eqb-false (length w) 0 (sym c.if-is_empty.ensures))
    ∙ c.loop-digit.invariant.0
    ∙ ap (digits most c.loop-digit.number) (drop_all c.loop-digit.digit-index w c.loop-digit-test.false) in
    record { number = sym all; bound = c.loop-digit.invariant.1 }
