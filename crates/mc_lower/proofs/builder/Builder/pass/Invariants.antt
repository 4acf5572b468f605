use Rattle.std.proofs.Common.{drop}
use Rattle.mc_lower_spec.specs.Graphs.{Stage}
use Rattle.mc_lower_spec.specs.Lowering.{Passes}
use Rattle.mc_lower.specs.Worlds.{World, Agrees, stage_of}
use Rattle.mc_lower.specs.Knowns.{Keeps}
use Rattle.mc_lower.proofs.builder.Builder.pass.Given as goal

abbrev pub invariant-loop-at : goal.invariant-loop-at
invariant-loop-at l =
    record {
      leads :
          (w : World) (u : Stage) → Agrees w l.self → Passes w.graph l.place (drop l.at l.parameters) (drop l.at l.operands) (stage_of w l.self) u
          → Agrees w l.fn.self × Passes w.graph l.place l.parameters l.operands (stage_of w l.fn.self) u;
      same : Keeps l.fn.self l.self;
    }
