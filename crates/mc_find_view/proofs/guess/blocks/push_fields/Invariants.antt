use Rattle.std.proofs.Common.{◌≡◌, ◌++◌, drop, option_map}
use Rattle.mc_cover.specs.Goals.{all_there}
use Rattle.mc_find_view.proofs.guess.blocks.push_fields.Given as goal

abbrev pub invariant-loop-field : goal.invariant-loop-field
invariant-loop-field l =
    option_map (λ known. l.fn.nodes.items ++ known) (all_there l.fields) ≡ option_map (λ known. l.nodes.items ++ known) (all_there (drop l.field-index l.fields))
