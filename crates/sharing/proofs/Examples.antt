-- The worked examples.
use Rattle.std.proofs.Common.{◌≡◌, ℕ, false, ltb, refl, arith}
use Rattle.std.proofs.lemmas.Bool.{le-ltb}
use Rattle.sharing.specs.Example.{RemainderExample, ProportionalExample}

itself : (n : ℕ) → ltb n n ≡ false
itself n = le-ltb n n (omega arith)

pub remainder_example : RemainderExample
remainder_example rank i j k = simp itself

pub proportional_example : ProportionalExample
proportional_example = (refl, refl)
