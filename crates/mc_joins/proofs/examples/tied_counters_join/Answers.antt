use Rattle.mc_joins.proofs.JointExamples.{ExampleLaws, tied_counters_join}
use Rattle.mc_joins.proofs.examples.tied_counters_join.Goals as goal

pub returns : goal.returns
returns c =
    let laws : ExampleLaws = record {
      lists = record {
        says = c.normal_forms_say_all.ensures;
        grows = c.derived_grows.ensures.atoms;
        has = c.each_is_decided.ensures.normal;
        decided = c.each_is_decided.ensures.decided;
      };
      renamed = c.derived_is_renamed.ensures.is_false;
      truth = c.derived_is_true.ensures.derived;
      true_is = c.derived_is_true.ensures.not_false;
    } in
    tied_counters_join laws
