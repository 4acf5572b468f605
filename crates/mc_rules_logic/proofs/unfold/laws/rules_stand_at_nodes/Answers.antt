use Rattle.mc_base.specs.declared.plain.Atom.{Atom}
use Rattle.mc_base.specs.Atoms.{nodes_of_atom}
use Rattle.mc_flow.specs.Defs.Instances.{atom_of}
use Rattle.mc_state.specs.Fits.{AreNodes}
use Rattle.mc_rules_logic.proofs.UnfoldLemmas.Lists.{all_images}
use Rattle.mc_rules_logic.proofs.UnfoldLemmas.Names.{atoms_true, name_there, atom_there}
use Rattle.mc_rules_logic.proofs.UnfoldLemmas.Openings.{body_there}
use Rattle.mc_rules_logic.proofs.UnfoldLemmas.Unfolds.{equal_true, equal_there}
use Rattle.mc_rules_logic.proofs.unfold.laws.rules_stand_at_nodes.Goals as goal

pub returns : goal.returns
returns c =
    record {
      atoms = λ v nodes atoms zero_is t. atoms_true v nodes zero_is atoms t;
      equal = equal_true;
      name_there = name_there;
      body_there = λ kinds nodes block contents calls there. body_there kinds nodes there block contents calls;
      atoms_there = λ kinds nodes atoms there. all_images (λ (a : Atom). AreNodes kinds (nodes_of_atom a)) (atom_of nodes) (λ a. atom_there kinds nodes a there) atoms;
      equal_there = equal_there;
    }
