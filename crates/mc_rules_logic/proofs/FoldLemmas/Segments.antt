-- Segments are closed, joined and made of nothing.
use Rattle.std.proofs.Common.{List, [], ◌∷◌, map, refl}
use Rattle.mc_base.specs.declared.ids.NodeId.{NodeId}
use Rattle.mc_base.specs.declared.ids.PredId.{PredId}
use Rattle.mc_base.specs.declared.plain.Kind.TheVariants.{Ptr}
use Rattle.mc_base.specs.Nodes.{at_node}
use Rattle.mc_flow.specs.Heap.Instances.{nowhere}
use Rattle.mc_flow.specs.declared.defs.rules.Def.{Def}
use Rattle.mc_flow.specs.Defs.Meaning as meaning
use Rattle.mc_state.specs.declared.graph.edge.Edge.{Edge}
use Rattle.mc_state.specs.declared.graph.edge.Edge.TheVariants.{Ind, Seg}
use Rattle.mc_pure.specs.Pure.{Kinds, IsNode}
use Rattle.mc_state.specs.Fits.{AreNodes, ArgsFit}
use Rattle.mc_state.specs.Stands.{EdgeMeets}
use Rattle.mc_state.specs.State.{with_edges}
use Rattle.mc_rules_logic.specs.Fold.Laws.{LawOfCloseSeg, LawOfJoinSegs, LawOfEmptySeg}
use Rattle.mc_rules_logic.proofs.FoldLemmas.Names.{kinds_there}
use Rattle.mc_rules_logic.proofs.FoldLemmas.Parts.{nowhere-IsEmpty, none_left, star_one, one_star}
use Rattle.mc_rules_logic.proofs.FoldLemmas.Standing.{FoldLaws, one_value, folded_lawful}
use Rattle.mc_state.proofs.Lists.{all_append, all_left, all_right}

pub close_seg : FoldLaws → LawOfCloseSeg
close_seg laws defs first second s next bounded i =
    let old : List Edge = Seg i.at i.args i.pred i.stop i.ends ∷ Ind i.from i.pred i.from_args ∷ [] in
    let nodes = laws.picked_there s (first ∷ second ∷ []) old i.left i.picks bounded in
    let lawful = folded_lawful laws defs s (first ∷ second ∷ []) old i.left (Ind i.at i.pred i.args) bounded i.picks (nodes.0.0, all_left (IsNode s.kinds) i.args (i.stop ∷ i.ends) nodes.0.1)
    (λ v values region part addresses st each.
    let here = one_value laws.equal defs v values region s i.stop i.from addresses st i.meet in
    let there = laws.equal defs v values region s i.ends i.from_args addresses st i.args_meet in
    let sat : meaning.Sat defs i.pred (v i.stop.0) (map (at_node v) i.ends) each.1 = rw (here, there) (one_star laws.parts (EdgeMeets defs v) (Ind i.from i.pred i.from_args) each.1 each.4) in
    laws.then_sat defs i.pred (v i.at.0) (map (at_node v) i.args) (v i.stop.0) (map (at_node v) i.ends) part each.0 each.1 each.2 each.3 sat) in
    rw i.gives lawful

pub join_segs : FoldLaws → LawOfJoinSegs
join_segs laws defs first second s next bounded i =
    let old : List Edge = Seg i.at i.args i.pred i.stop i.ends ∷ Seg i.from i.from_args i.pred i.last i.last_args ∷ [] in
    let nodes = laws.picked_there s (first ∷ second ∷ []) old i.left i.picks bounded in
    let front = all_left (IsNode s.kinds) i.args (i.stop ∷ i.ends) nodes.0.1 in
    let back = all_right (IsNode s.kinds) i.from_args (i.last ∷ i.last_args) nodes.1.0.1 in
    let lawful = folded_lawful laws defs s (first ∷ second ∷ []) old i.left (Seg i.at i.args i.pred i.last i.last_args) bounded i.picks (nodes.0.0, all_append (IsNode s.kinds) i.args (i.last ∷ i.last_args) front back)
    (λ v values region part addresses st each.
    let here = one_value laws.equal defs v values region s i.stop i.from addresses st i.meet in
    let there = laws.equal defs v values region s i.ends i.from_args addresses st i.args_meet in
    let seg : meaning.Seg defs i.pred (v i.stop.0) (map (at_node v) i.ends) (v i.last.0) (map (at_node v) i.last_args) each.1 =
    rw (here, there) (one_star laws.parts (EdgeMeets defs v) (Seg i.from i.from_args i.pred i.last i.last_args) each.1 each.4) in
    laws.then_seg defs i.pred (v i.at.0) (map (at_node v) i.args) (v i.stop.0) (map (at_node v) i.ends) (v i.last.0) (map (at_node v) i.last_args) part each.0 each.1 each.2 each.3 seg) in
    rw i.gives lawful

args_there : (defs : List Def) (kinds : Kinds) (pred : PredId) (args : List NodeId) → ArgsFit defs kinds pred args → AreNodes kinds args
args_there defs kinds pred args fit = kinds_there kinds fit.0.params args fit.2

pub empty_seg : FoldLaws → LawOfEmptySeg
empty_seg laws defs pred at args stop ends s next bounded i =
    let new : Edge = Seg at args pred stop ends in
    rw i.gives (
      λ v values region addresses st.
          let here = one_value laws.equal defs v values region s at stop addresses st i.meet in
          let there = laws.equal defs v values region s args ends addresses st i.args_meet in
          let seg : EdgeMeets defs v new nowhere = record { height = 0; holds = (here, there, nowhere-IsEmpty) } in
          (0, with_edges s (new ∷ []), v, refl, λ m below. refl, laws.put defs v values region nowhere region s (new ∷ []) (none_left laws.parts region) (star_one laws.parts (EdgeMeets defs v) new nowhere seg) st),
      (
        laws.edges_bounded s (new ∷ []) bounded
            (((Ptr, i.at_is), all_append (IsNode s.kinds) args (stop ∷ ends) (args_there defs s.kinds pred args i.args_are) ((Ptr, i.stop_is), args_there defs s.kinds pred ends i.ends_are)), tt),
        tt,
      ),
    )
