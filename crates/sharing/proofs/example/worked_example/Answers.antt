use Rattle.std.proofs.Common.{get_or, ◌∙◌}
use Rattle.sharing.proofs.Codes.{at_accepted}
use Rattle.sharing.proofs.Examples.{remainder_example, proportional_example}
use Rattle.sharing.proofs.example.worked_example.Goals as goal

pub returns : goal.returns
returns c = record {
  shares = at_accepted c.share.result _ _ _ (λ _ p. p tt ∙ remainder_example (λ n. get_or c.new-rule.result.draw.ranks.now n 0) 0 1 2) c.share.ensures.code c.share.ensures.shared;
  remainder = remainder_example;
  proportional = proportional_example;
}
