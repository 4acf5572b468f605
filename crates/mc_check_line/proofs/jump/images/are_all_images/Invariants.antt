use Rattle.std.proofs.Common.{◌≡◌, drop, length}
use Rattle.mc_state.specs.Known.{Test, Tells}
use Rattle.mc_state.specs.Lists.{all_both}
use Rattle.mc_kernel.specs.Judges.{is_image}
use Rattle.mc_check_line.proofs.jump.images.are_all_images.Given as goal

abbrev pub invariant-loop-i : goal.invariant-loop-i
invariant-loop-i l =
    (length l.theres ≡ length l.heres)
    × ((know : Test) → Tells know l.s → all_both (is_image know l.images) l.theres l.heres ≡ all_both (is_image know l.images) (drop l.i l.theres) (drop l.i l.heres))
