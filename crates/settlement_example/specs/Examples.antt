-- The worked examples of sharing, allotment and settlement as one statement about the definitions.
use Rattle.sharing.specs.Example.{RemainderExample, ProportionalExample}
use Rattle.allotment_example.specs.Example as allotting
use Rattle.settlement.specs.Example as settling

pub record WorkedExamples : Type 0 where
  -- Claims of 5, 3 and 2 lots with 7 to share, by largest remainder; and an odd lot by the proportional rule.
  pub remainder : RemainderExample
  pub proportional : ProportionalExample
  -- A general tender for 10 lots, and for 19; and payments.
  pub allotment : allotting.WorkedExample
  -- Charges by the time of payment.
  pub charges : settling.WorkedExample
