use Rattle.std.proofs.Common.{◌≡◌, drop}
use Rattle.std.specs.List.{list_all}
use Rattle.mc_state.specs.Known.{Test, Tells}
use Rattle.mc_kernel.specs.Judges.{knows_image}
use Rattle.mc_check_line.proofs.jump.images.know_images.Given as goal

abbrev pub invariant-loop-atom : goal.invariant-loop-atom
invariant-loop-atom l =
    (know : Test) → Tells know l.s
    → list_all (knows_image know l.images) l.atoms ≡ list_all (knows_image know l.images) (drop l.atom-index l.atoms)
