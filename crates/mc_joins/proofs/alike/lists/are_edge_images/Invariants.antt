use Rattle.std.proofs.Common.{◌≡◌, length, drop}
use Rattle.mc_pure_ops.specs.Renaming.Images.{image}
use Rattle.mc_joins.specs.Alike.Alike.{moved_edges}
use Rattle.mc_joins.proofs.alike.lists.are_edge_images.Given as goal

abbrev pub invariant-loop-i : goal.invariant-loop-i
invariant-loop-i l = record {
  lengths : length l.from ≡ length l.to;
  forth : moved_edges (image l.renaming) (drop l.i l.from) ≡ drop l.i l.to → moved_edges (image l.renaming) l.from ≡ l.to;
}
