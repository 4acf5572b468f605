use Rattle.std.proofs.Common.{◌≡◌, ℕ, length}
use Rattle.mc_semantics.specs.Resolved.Views.{condition_of}
use Rattle.mc_lower_spec.specs.Values.{Tests}
use Rattle.mc_lower.specs.Valued.{Testing, froms}
use Rattle.mc_lower.specs.Worlds.{World, Agrees, stage_of}
use Rattle.mc_lower.specs.Knowns.{known, with_all, with_label}
use Rattle.mc_lower.specs.Ready.{AreTestsReady}
use Rattle.mc_lower.proofs.builder.Builder.test.Given as goal

abbrev pub invariant-parts : goal.invariant-parts
invariant-parts l =
    record {
      leads :
          (w : World) (n k : ℕ) → Agrees w l.self → Testing w l.occurrence l.work (length l.self.lines.points.items) (length l.self.variables.list.items) n k
          → Agrees w l.fn.self
          × Tests w.graph (w.out l.occurrence) (condition_of l.condition) (stage_of w l.fn.self) (w.at l.fn.ways.yes.0) (w.at l.fn.ways.no.0) n k;
      rest : with_all (froms l.work) (known l.fn.self) ≡ with_label l.self.lines.goal (known l.self);
      ready : AreTestsReady (known l.self) l.occurrence l.work;
    }
