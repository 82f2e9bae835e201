-- The layer, the number and the place of each fault.
use Rattle.std.specs.Prelude.{ℕ}
use Rattle.frames.specs.Faults as frame
use Rattle.stages.specs.Register as rules
use Rattle.sharing.specs.Register as draws
use Rattle.faults.specs.declared.layer.Layer.{Layer}
use Rattle.faults.specs.declared.layer.Layer.TheVariants.{Frame, Order, Rule}
use Rattle.faults.specs.declared.fault.OrderFault.{OrderFault}
use Rattle.faults.specs.declared.fault.OrderFault.TheVariants.{Frame as Framed, OutOfOrder, Ended}
use Rattle.faults.specs.declared.fault.ProgramFault.{ProgramFault}
use Rattle.faults.specs.declared.fault.ProgramFault.TheVariants.{Order as Ordered, Rule as Ruled, Draw as Drew}

abbrev pub order_layer : OrderFault → Layer
order_layer (Framed e) = Frame
order_layer (OutOfOrder at) = Order
order_layer (Ended at) = Order

-- 23: a frame is out of its order, or the file ended before the closing
abbrev pub order_number : OrderFault → ℕ
order_number (Framed e) = frame.number_of e
order_number (OutOfOrder at) = 23
order_number (Ended at) = 23

abbrev pub order_place : OrderFault → ℕ
order_place (Framed e) = frame.place_of e
order_place (OutOfOrder at) = at
order_place (Ended at) = at

abbrev pub layer_of : ProgramFault → Layer
layer_of (Ordered e) = order_layer e
layer_of (Ruled e at) = Rule
layer_of (Drew e at) = Rule

abbrev pub number_of : ProgramFault → ℕ
number_of (Ordered e) = order_number e
number_of (Ruled e at) = rules.number_of e
number_of (Drew e at) = draws.number_of e

abbrev pub place_of : ProgramFault → ℕ
place_of (Ordered e) = order_place e
place_of (Ruled e at) = at
place_of (Drew e at) = at
