use Rattle.std.proofs.Common.{◌≡◌, ◌++◌, map}
use Rattle.mc_lower.specs.Finished.{point_at}
use Rattle.mc_lower.specs.Worlds.{point_in}
use Rattle.mc_lower.proofs.finishing.settle.Given as goal

abbrev pub invariant-loop-draft : goal.invariant-loop-draft
invariant-loop-draft l =
    (l.points.items ≡ map (point_in (point_at l.table)) l.yielded) × (l.yielded ++ l.draft-iterator.rest.items ≡ l.fn.drafts.items)
