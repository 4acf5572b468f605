use Rattle.std.specs.Prelude.{drop, ◌↔◌}
use Rattle.mc_flow.specs.Defs.Conditions.{AtomsFit}
use Rattle.mc_flow.proofs.defs.fits.atoms_fit.Given as goal

abbrev pub invariant-loop-atom : goal.invariant-loop-atom
invariant-loop-atom l = AtomsFit l.names l.initial.known l.atoms ↔ AtomsFit l.names l.known (drop l.atom-index l.atoms)
