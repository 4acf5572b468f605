use Rattle.std.proofs.Common.{◌≡◌, ◌++◌, drop, option_map}
use Rattle.mc_shape_search.specs.Sat.Marks.{all_defined}
use Rattle.mc_shape_search.proofs.sat.names.push_defined.Given as goal

abbrev pub invariant-loop-field : goal.invariant-loop-field
invariant-loop-field l =
    option_map (λ values. l.fn.names.items ++ values) (all_defined l.fields) ≡ option_map (λ values. l.names.items ++ values) (all_defined (drop l.field-index l.fields))
