use Rattle.std.proofs.Common.{List}
use Rattle.mc_base.specs.declared.ids.VarId.{VarId}
use Rattle.mc_flow.specs.declared.instr.Operand.{Operand}
use Rattle.mc_semantics.specs.Resolved.Views.{expression_of}
use Rattle.mc_lower_spec.specs.Graphs.{Stage}
use Rattle.mc_lower_spec.specs.Values.{Evaluates}
use Rattle.mc_lower.specs.Valued.{Finishes}
use Rattle.mc_lower.specs.Worlds.{World, Agrees, stage_of}
use Rattle.mc_lower.specs.Knowns.{Keeps, known}
use Rattle.mc_lower.specs.Ready.{IsWorkReady}
use Rattle.std.proofs.Common.{length}
use Rattle.mc_lower.proofs.builder.Builder.evaluate.Given as goal

abbrev pub invariant-parts : goal.invariant-parts
invariant-parts l =
    record {
      leads :
          (w : World) (o : Operand) (ts : List VarId) (u : Stage) → Agrees w l.self
          → Finishes w.graph (w.out l.site.occurrence) l.site.place l.work l.made l.temporaries.items (stage_of w l.self) o ts u
          → Agrees w l.fn.self × Evaluates w.graph (w.out l.site.occurrence) l.site.place (expression_of l.expression) l.fn.temporaries.items (stage_of w l.fn.self) o ts u;
      same : Keeps l.fn.self l.self;
      ready : IsWorkReady (known l.self) l.site.occurrence l.work (length l.made);
    }
