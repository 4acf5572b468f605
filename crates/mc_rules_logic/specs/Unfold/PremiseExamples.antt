-- States at which a premise of the rules that unfold is the first that is unmet.
use Rattle.std.specs.Prelude.{pos, [], ◌∷◌}
use Rattle.mc_base.specs.declared.plain.Atom.TheVariants.{Ne}
use Rattle.mc_base.specs.declared.plain.Kind.TheVariants.{Ptr}
use Rattle.mc_base.specs.Nodes.{null}
use Rattle.mc_flow.specs.Defs.Examples.{list_id}
use Rattle.mc_state.specs.declared.graph.edge.Edge.TheVariants.{Ind, Seg}
use Rattle.mc_pure.specs.Examples.{node}
use Rattle.mc_state.specs.CoverExamples.{state_of}
use Rattle.mc_state.specs.State.{State}

-- a list in a state that is false: null is not itself
abbrev pub false_list : State
false_list = state_of ((node 1, Ptr) ∷ []) (Ind (node 1) list_id [] ∷ []) (Ne null null (pos 0) ∷ [])

-- a list segment in a state that is false
abbrev pub false_segment : State
false_segment =
    state_of ((node 1, Ptr) ∷ (node 2, Ptr) ∷ []) (Seg (node 1) [] list_id (node 2) [] ∷ []) (Ne null null (pos 0) ∷ [])
