use Rattle.mc_semantics.specs.Resolved.Views.{function_of}
use Rattle.mc_lower_spec.specs.Length.Lengths.{IsSoMany, calling_rest}
use Rattle.std.specs.Prelude.{slice_index}
use Rattle.mc_lower_spec.proofs.LengthLemmas.Firsts.{AllTo}
use Rattle.mc_lower_spec.proofs.length.tables.is_right.Given as goal

abbrev pub invariant-loop-at : goal.invariant-loop-at
invariant-loop-at l = AllTo (λ i f. IsSoMany (slice_index l.table i) (calling_rest l.table (function_of f))) l.at l.functions
