use Rattle.std.proofs.Common.{◌≡◌, length, map}
use Rattle.mc_semantics.specs.Resolved.Values.{behind_value}
use Rattle.mc_semantics.specs.Resolved.Views.{field_of}
use Rattle.mc_semantics.specs.Resolved.Configs.{held}
use Rattle.mc_run_values.proofs.values.reading.left_value.Given as goal

abbrev pub invariant-loop-fields : goal.invariant-loop-fields
invariant-loop-fields l =
    behind_value l.heap (held l.values l.left.variable) (map field_of l.left.fields.items) ≡ behind_value l.heap l.value (map field_of l.fields)

abbrev pub decreases-loop-fields : goal.decreases-loop-fields
decreases-loop-fields l = length l.fields
