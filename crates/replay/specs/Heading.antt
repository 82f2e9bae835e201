-- A step that a message of a file asks for, refused with the place of the message as that of the fault.
use Rattle.std.specs.Prelude.{◌≡◌, ℕ, ◌<◌}
use Rattle.faults.specs.declared.fault.ProgramFault.{ProgramFault}
use Rattle.faults.specs.declared.layer.Layer.TheVariants.{Rule}
use Rattle.faults.specs.Faults.{layer_of, number_of, place_of}

-- a step is refused by a number of the rules, at the place
pub record Refused (n place : ℕ) (e : ProgramFault) : Type 0 where
  pub layer : layer_of e ≡ Rule
  pub number : number_of e ≡ n
  pub some : 0 < n
  pub at : place_of e ≡ place
