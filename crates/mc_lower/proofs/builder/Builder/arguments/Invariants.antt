use Rattle.std.proofs.Common.{◌++◌, List, map, drop}
use Rattle.mc_flow.specs.declared.instr.Operand.{Operand}
use Rattle.mc_semantics.specs.Resolved.Views.{argument_of}
use Rattle.mc_lower_spec.specs.Lowering.{AreArguments}
use Rattle.mc_lower.specs.Worlds.{World, Agrees, stage_of}
use Rattle.mc_lower.proofs.builder.Builder.arguments.Given as goal

abbrev pub invariant-loop-at : goal.invariant-loop-at
invariant-loop-at l =
    (w : World) (os : List Operand) → Agrees w l.self
    → AreArguments w.graph (w.out l.occurrence) (stage_of w l.self) (map argument_of (drop l.at l.arguments)) os
    → AreArguments w.graph (w.out l.occurrence) (stage_of w l.self) (map argument_of l.arguments) (l.operands.items ++ os)
