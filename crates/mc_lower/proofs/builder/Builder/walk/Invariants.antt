use Rattle.std.proofs.Common.{List, map, drop}
use Rattle.mc_base.specs.declared.ids.VarId.{VarId}
use Rattle.mc_semantics.specs.Resolved.Programs.{FieldAt}
use Rattle.mc_semantics.specs.Resolved.Views.{field_of}
use Rattle.mc_lower_spec.specs.Graphs.{Stage}
use Rattle.mc_lower_spec.specs.Values.{Walks}
use Rattle.mc_lower.specs.Worlds.{World, Agrees, stage_of}
use Rattle.mc_lower.specs.Knowns.{Keeps}
use Rattle.std.proofs.Common.{◌<◌, length}
use Rattle.mc_lower.proofs.builder.Builder.walk.Given as goal

abbrev pub invariant-loop-at : goal.invariant-loop-at
invariant-loop-at l =
    record {
      leads :
          (w : World) (z : VarId) (last : FieldAt) (ws : List VarId) (u : Stage) → Agrees w l.self
          → Walks w.graph l.place l.base (map field_of (drop l.at l.fields)) l.temporaries.items (stage_of w l.self) z last ws u
          → Agrees w l.fn.self × Walks w.graph l.place l.fn.start (map field_of l.fields) l.fn.temporaries.items (stage_of w l.fn.self) z last ws u;
      same : Keeps l.fn.self l.self;
      below : l.at < length l.fields;
    }
