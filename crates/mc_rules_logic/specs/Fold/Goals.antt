-- How a side branch ends.
use Rattle.std.specs.Prelude.{◌≡◌, List, Some}
use Rattle.mc_base.specs.declared.ids.EdgeId.{EdgeId}
use Rattle.mc_base.specs.declared.ids.NodeId.{NodeId}
use Rattle.mc_state.specs.declared.graph.edge.Edge.TheVariants.{Ind}
use Rattle.mc_state.specs.Graph.Graph.{edge_with}
use Rattle.mc_state.specs.declared.goal.Goal.{Goal}
use Rattle.mc_state.specs.State.{State}
use Rattle.mc_state.specs.Facts.{IsFalse, AreEqual, AreAllEqual}

-- L14: an Ind of the goal's predicate, with start and arguments equal to the goal's
pub record MeetsGoal (goal : Goal) (edge : EdgeId) (s : State) : Type 0 where
  pub consistent : IsFalse s → ⊥
  pub at : NodeId
  pub args : List NodeId
  pub there : edge_with s.graph.edges edge ≡ Some (Ind at goal.pred args)
  pub meets : AreEqual s goal.at at
  pub args_meet : AreAllEqual s goal.args args
