use Rattle.mc_joins.proofs.ChainsLemmas.Lores.{LoreLaws, lores_are_there}
use Rattle.mc_joins.proofs.ChainsLemmas.TidyOr.{TidyLaws}
use Rattle.mc_joins.proofs.chains.lores.lores_are_there.Goals as goal

pub returns : goal.returns
returns c =
    let tidy : TidyLaws = record {
      wrong = c.tests_tell.ensures.is_false;
      merge = c.naming_is_judged.ensures.merge;
      reached = c.naming_is_judged.ensures.reached;
    } in
    let laws : LoreLaws = record {
      judges = c.judges_are_there.ensures;
      joint = c.joint_atoms_are_there.ensures;
      tidy = tidy;
      follows = c.derived_is_renamed.ensures.follows;
      wrong = c.derived_is_renamed.ensures.is_false;
    } in
    lores_are_there laws
