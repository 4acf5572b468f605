use Rattle.std.proofs.Common.{◌≡◌, ℤ, List, Option, length, map}
use Rattle.mc_semantics.specs.Resolved.Values.{assigned_behind}
use Rattle.mc_semantics.specs.Resolved.Views.{field_of}
use Rattle.mc_run_values.proofs.values.changes.assign_behind.Given as goal

abbrev pub invariant-loop-more : goal.invariant-loop-more
invariant-loop-more l = (values : List (Option ℤ))
    → assigned_behind values l.heap l.initial.base (field_of l.first) (map field_of l.initial.more) l.fn.value
    ≡ assigned_behind values l.heap l.base (field_of l.field) (map field_of l.more) l.fn.value

abbrev pub decreases-loop-more : goal.decreases-loop-more
decreases-loop-more l = length l.more
