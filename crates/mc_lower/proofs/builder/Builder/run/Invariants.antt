use Rattle.mc_lower.specs.Left.{Rest}
use Rattle.mc_lower_spec.specs.Graphs.{Stage}
use Rattle.mc_lower.specs.Worlds.{World, Agrees, stage_of}
use Rattle.mc_lower.specs.Knowns.{known}
use Rattle.mc_lower.specs.Ready.{Ready}
use Rattle.std.proofs.Common.{◌≡◌}
use Rattle.mc_lower.proofs.builder.Builder.run.Given as goal

abbrev pub invariant-tasks : goal.invariant-tasks
invariant-tasks l =
    record {
      leads :
          (w : World) (u : Stage) → Agrees w l.self → Rest w l.tasks (stage_of w l.self) u → Agrees w l.fn.self × Rest w l.fn.tasks (stage_of w l.fn.self) u;
      source : (known l.self).source ≡ (known l.fn.self).source;
      ready : Ready (known l.self) l.tasks;
    }
