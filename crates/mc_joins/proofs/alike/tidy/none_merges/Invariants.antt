use Rattle.std.proofs.Common.{◌≡◌, ◌<◌, ℕ, Some, slice_get}
use Rattle.mc_base.specs.declared.ids.NodeId.{NodeId}
use Rattle.mc_pure.specs.Rows.{nodes_of}
use Rattle.mc_joins.specs.Alike.Tidy.{NoneMergesWith}
use Rattle.mc_joins.proofs.alike.tidy.none_merges.Given as goal

abbrev pub invariant-loop-keep : goal.invariant-loop-keep
invariant-loop-keep l = (place : ℕ) → place < l.keep-index → (keep : NodeId) → slice_get (nodes_of l.state.kinds) place ≡ Some keep → NoneMergesWith l.state keep
