-- A fault as words: its layer, its number and its place.
use Rattle.std.specs.Prelude.{ℕ, List, ◌++◌, codes, decimal}
use Rattle.faults.specs.declared.layer.Layer.{Layer}
use Rattle.faults.specs.declared.layer.Layer.TheVariants.{Frame, Order, Rule}
use Rattle.faults.specs.declared.fault.ProgramFault.{ProgramFault}
use Rattle.faults.specs.Faults.{layer_of, number_of, place_of}

-- the word of a layer
abbrev pub layer_word : Layer → List ℕ
layer_word Frame = codes "frame"
layer_word Order = codes "order"
layer_word Rule = codes "rule"

-- fault LAYER NUMBER at PLACE
abbrev pub fault_words : ProgramFault → List ℕ
fault_words e = codes "fault " ++ (layer_word (layer_of e) ++ (codes " " ++ (decimal (number_of e) ++ (codes " at " ++ decimal (place_of e)))))
