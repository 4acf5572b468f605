use Rattle.std.proofs.Common.{◌++◌, List, map, drop}
use Rattle.mc_base.specs.declared.ids.VarId.{VarId}
use Rattle.mc_flow.specs.declared.instr.Operand.{Operand}
use Rattle.mc_semantics.specs.Resolved.Views.{expression_of}
use Rattle.mc_lower_spec.specs.Graphs.{Stage}
use Rattle.mc_lower_spec.specs.Values.{EvaluatesAll}
use Rattle.mc_lower.specs.Worlds.{World, Agrees, stage_of}
use Rattle.mc_lower.specs.Knowns.{Keeps}
use Rattle.std.proofs.Common.{◌≡◌, length}
use Rattle.mc_lower.proofs.builder.Builder.evaluate_all.Given as goal

abbrev pub invariant-loop-at : goal.invariant-loop-at
invariant-loop-at l =
    record {
      leads :
          (w : World) (os : List Operand) (ws : List VarId) (u : Stage) → Agrees w l.self
          → EvaluatesAll w.graph (w.out l.site.occurrence) l.site.place (map expression_of (drop l.at l.expressions)) l.temporaries.items (stage_of w l.self) os ws u
          → Agrees w l.fn.self
          × EvaluatesAll w.graph (w.out l.site.occurrence) l.site.place (map expression_of l.expressions) l.fn.temporaries.items (stage_of w l.fn.self) (l.operands.items ++ os) ws u;
      same : Keeps l.fn.self l.self;
      count : length l.operands.items ≡ l.at;
    }
