use Rattle.std.proofs.Common.{◌≡◌, ◌<◌, ℕ, Some, slice_get}
use Rattle.mc_base.specs.declared.ids.NodeId.{NodeId}
use Rattle.mc_pure.specs.Rows.{nodes_of}
use Rattle.mc_joins.specs.Alike.Tidy.{CanBeMerged}
use Rattle.mc_joins.proofs.alike.tidy.none_merges_with.Given as goal

abbrev pub invariant-loop-gone : goal.invariant-loop-gone
invariant-loop-gone l = (place : ℕ) → place < l.gone-index → (gone : NodeId) → slice_get (nodes_of l.state.kinds) place ≡ Some gone → CanBeMerged l.state l.keep gone → ⊥
