use Rattle.std.proofs.Common.{◌≡◌, drop}
use Rattle.mc_kernel.specs.Judges.{is_cut}
use Rattle.mc_check_line.proofs.places.is_cut.Given as goal

abbrev pub invariant-loop-cut : goal.invariant-loop-cut
invariant-loop-cut l = is_cut (drop l.cut-index l.cuts) l.point ≡ is_cut l.cuts l.point
