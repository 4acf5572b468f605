-- An Ind that meets a goal.
use Rattle.std.proofs.Common.{[], ◌∷◌, map, refl}
use Rattle.mc_base.specs.Nodes.{at_node}
use Rattle.mc_flow.specs.Defs.Meaning.{Sat}
use Rattle.mc_state.specs.declared.graph.edge.Edge.TheVariants.{Ind}
use Rattle.mc_state.specs.Graph.Graph.{without}
use Rattle.mc_state.specs.Laws.{EqualNodesAreOne, EdgesAreTaken}
use Rattle.mc_state.specs.Stands.{EdgeMeets}
use Rattle.mc_rules_logic.specs.Fold.Laws.{LawOfGoal}
use Rattle.mc_rules_logic.proofs.FoldLemmas.Parts.{PartLaws, one_star}
use Rattle.mc_rules_logic.proofs.FoldLemmas.Standing.{one_value}

pub meet_goal : PartLaws → EqualNodesAreOne → EdgesAreTaken → LawOfGoal
meet_goal parts equal taken defs goal edge s v values region addresses i st =
    let got = taken defs v values region s (edge ∷ []) (Ind i.at goal.pred i.args ∷ []) (without s.graph.edges edge) (i.there, (refl, refl)) st in
    let here = one_value equal defs v values region s goal.at i.at addresses st i.meets in
    let more = equal defs v values region s goal.args i.args addresses st i.args_meet in
    let sat = one_star parts (EdgeMeets defs v) (Ind i.at goal.pred i.args) got.0 got.3 in
    let held : Sat defs goal.pred (v goal.at.0) (map (at_node v) goal.args) got.0 = rw (here, more) sat in
    (got.0, got.1, got.2, held)
