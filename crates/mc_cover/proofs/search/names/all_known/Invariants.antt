use Rattle.std.proofs.Common.{◌≡◌, drop}
use Rattle.mc_state.specs.Known.{Test, Tells}
use Rattle.mc_cover.specs.Terms.{atoms_known}
use Rattle.mc_cover.proofs.search.names.all_known.Given as goal

abbrev pub invariant-loop-atom : goal.invariant-loop-atom
invariant-loop-atom l =
    (know : Test) → Tells know l.state → atoms_known know l.names l.atoms ≡ atoms_known know l.names (drop l.atom-index l.atoms)
