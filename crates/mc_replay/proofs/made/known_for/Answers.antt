use Rattle.std.proofs.Common.{◌++◌, ◌∙◌, List, Option, map, option_map, append-nil, sym, ap}
use Rattle.std.specs.Option.{option_zip}
use Rattle.mc_base.specs.declared.ids.NodeId.{NodeId}
use Rattle.mc_joins.specs.Steps.{node_for}
use Rattle.mc_replay.proofs.Pairing.{zip_past}
use Rattle.mc_replay.proofs.made.known_for.Goals as goal

pub returns-in-None : goal.returns-in-None
returns-in-None c =
    sym (c.loop-place.invariant
    ∙ (ap (λ (z : List (Option NodeId × Option NodeId)).
    c.loop-place.nodes.items ++ map (λ both. option_map (λ p. node_for c.args.pairs.now p.0 p.1) (option_zip both.0 both.1)) z)
    (zip_past c.args.left.now c.args.right.now c.loop-place.place c.in-None.ensures.lookup.3)
    ∙ append-nil c.loop-place.nodes.items))
