use Rattle.std.proofs.Common.{◌≡◌, ◌++◌, drop}
use Rattle.mc_lower.proofs.finishing.struct_again.Given as goal

abbrev pub invariant-loop-field : goal.invariant-loop-field
invariant-loop-field l = l.fields.items ++ drop l.field-index l.info.fields ≡ l.info.fields
