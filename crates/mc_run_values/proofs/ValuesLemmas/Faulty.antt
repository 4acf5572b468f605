-- The turns that take no choice.
use Rattle.std.proofs.Common.{List, [], ◌∷◌, refl}
use Rattle.mc_base.specs.declared.plain.FaultKind.{FaultKind}
use Rattle.mc_flow.specs.Heap.Heap.{Heap}
use Rattle.mc_semantics.specs.Values.{fault_of}
use Rattle.mc_semantics.specs.Resolved.Configs.{Values}
use Rattle.mc_run_values.specs.declared.values.turns.Pending.{Pending}
use Rattle.mc_run_values.specs.Values.Turns.{AfterAll}

-- a fault goes through all that waits
pub faults : (values : Values) (heap : Heap) (kind : FaultKind) (ps : List Pending) → AfterAll values heap ps (fault_of kind) (fault_of kind)
faults values heap kind [] = refl
faults values heap kind (Pending.Right o e ∷ ps) = (fault_of kind, refl, faults values heap kind ps)
faults values heap kind (Pending.Apply o a ∷ ps) = (fault_of kind, refl, faults values heap kind ps)
