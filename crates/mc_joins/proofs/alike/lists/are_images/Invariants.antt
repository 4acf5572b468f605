use Rattle.std.proofs.Common.{◌≡◌, length, drop, map}
use Rattle.mc_base.specs.Nodes.{moved}
use Rattle.mc_pure_ops.specs.Renaming.Images.{image}
use Rattle.mc_joins.proofs.alike.lists.are_images.Given as goal

abbrev pub invariant-loop-i : goal.invariant-loop-i
invariant-loop-i l = record {
  lengths : length l.from ≡ length l.to;
  forth : map (moved (image l.renaming)) (drop l.i l.from) ≡ drop l.i l.to → map (moved (image l.renaming)) l.from ≡ l.to;
}
