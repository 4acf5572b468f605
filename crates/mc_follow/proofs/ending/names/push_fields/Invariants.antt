use Rattle.std.proofs.Common.{◌≡◌, ◌++◌, drop, map, option_map}
use Rattle.mc_state.specs.Terms.{plain}
use Rattle.mc_cover.specs.Goals.{all_there}
use Rattle.mc_follow.proofs.ending.names.push_fields.Given as goal

abbrev pub invariant-loop-field : goal.invariant-loop-field
invariant-loop-field l =
    option_map (λ nodes. l.fn.names.items ++ map plain nodes) (all_there l.fields) ≡ option_map (λ nodes. l.names.items ++ map plain nodes) (all_there (drop l.field-index l.fields))
