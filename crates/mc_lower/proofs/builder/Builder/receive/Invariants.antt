use Rattle.std.proofs.Common.{◌-◌, ◌++◌, List}
use Rattle.mc_base.specs.declared.ids.VarId.{VarId}
use Rattle.mc_semantics.specs.Resolved.Views.{function_of}
use Rattle.mc_lower_spec.specs.Graphs.{Stage}
use Rattle.mc_lower_spec.specs.Lowering.{Receives}
use Rattle.mc_lower.specs.Worlds.{World, Agrees, stage_of}
use Rattle.mc_lower.specs.Knowns.{known, with_owners}
use Rattle.mc_lower.specs.Ready.{locals_to}
use Rattle.std.proofs.Common.{◌≡◌, length}
use Rattle.mc_lower.proofs.builder.Builder.receive.Given as goal

abbrev pub invariant-loop-number : goal.invariant-loop-number
invariant-loop-number l =
    record {
      leads :
          (w : World) (vs : List VarId) (u : Stage) → Agrees w l.self
          → Receives w.graph (function_of l.function) (w.out l.occurrence) l.number (l.function.parameters - l.number) (stage_of w l.self) vs u
          → Agrees w l.fn.self
          × Receives w.graph (function_of l.function) (w.out l.occurrence) 0 l.function.parameters (stage_of w l.fn.self) (l.parameters.items ++ vs) u;
      same : known l.self ≡ with_owners (locals_to l.occurrence l.number) (known l.fn.self);
      count : length l.parameters.items ≡ l.number;
    }
