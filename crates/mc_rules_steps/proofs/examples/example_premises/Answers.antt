use Rattle.mc_rules_steps.proofs.ExampleFlow.{flow_is_valid}
use Rattle.mc_rules_steps.proofs.ExampleStates as proof
use Rattle.mc_rules_steps.proofs.examples.example_premises.Goals as goal

pub returns : goal.returns
returns c =
    record {
      valid = flow_is_valid c.examples_fit.ensures;
      one_cell = proof.one_cell_bounded;
      no_cell = proof.no_cell_bounded;
      not_whole = proof.not_whole_bounded;
      at_one_cell = proof.at_one_cell;
      at_no_cell = proof.at_no_cell;
      at_not_whole = proof.at_not_whole;
    }
