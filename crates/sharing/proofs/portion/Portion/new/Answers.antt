use Rattle.std.proofs.Common.{◌∙◌, arith}
use Rattle.sharing.specs.Admitted.{claimed_exact, claimed_most}
use Rattle.sharing.proofs.portion.Portion.new.Goals as goal

pub overflow_cast-all : goal.overflow_cast-all
overflow_cast-all c =
    let cs = c.args.claims.now in
    omega (arith, claimed_exact cs c.requires, claimed_most cs c.requires)

pub invariant_of-result-clause-whole : goal.invariant_of-result-clause-whole
invariant_of-result-clause-whole c = c.claimed_lots-all.ensures ∙ claimed_exact c.args.claims.now c.requires
