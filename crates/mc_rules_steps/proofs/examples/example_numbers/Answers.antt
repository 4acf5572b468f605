use Rattle.mc_rules_steps.proofs.ExampleSteps as proof
use Rattle.mc_rules_steps.proofs.examples.example_numbers.Goals as goal

pub returns : goal.returns
returns c =
    let law = c.derived_is_true.ensures.derived in
    let sound = proof.one_cell_sound c.derived_is_true.ensures.not_false in
    record {
      skip = proof.skip sound;
      copy = proof.copy sound;
      undef = proof.undef sound;
      input = proof.input sound;
      sum = proof.sum sound law;
      wrap = proof.wrap sound law;
      difference = proof.difference sound law;
      product = proof.product sound law;
      equal = proof.equal sound;
      at_most = proof.at_most sound law;
    }
