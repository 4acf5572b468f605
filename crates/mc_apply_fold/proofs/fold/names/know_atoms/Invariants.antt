use Rattle.std.proofs.Common.{◌≡◌, drop}
use Rattle.std.specs.List.{list_all}
use Rattle.mc_flow.specs.Defs.Instances.{atom_of}
use Rattle.mc_state.specs.Known.{Test, Tells}
use Rattle.mc_apply_fold.proofs.fold.names.know_atoms.Given as goal

abbrev pub invariant-loop-atom : goal.invariant-loop-atom
invariant-loop-atom l =
    (know : Test) → Tells know l.s
    → list_all (λ a. know (atom_of l.names a)) l.atoms ≡ list_all (λ a. know (atom_of l.names a)) (drop l.atom-index l.atoms)
