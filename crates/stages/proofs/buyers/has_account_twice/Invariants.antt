use Rattle.std.proofs.Common.{◌≡◌, length}
use Rattle.stages.specs.Buyers.{account_twice}
use Rattle.stages.proofs.buyers.has_account_twice.Given as goal

-- what is left tells whether an account stands twice
abbrev pub invariant-loop-first : goal.invariant-loop-first
invariant-loop-first l = account_twice l.buyers ≡ account_twice l.rest

abbrev pub decreases-loop-first : goal.decreases-loop-first
decreases-loop-first l = length l.rest
