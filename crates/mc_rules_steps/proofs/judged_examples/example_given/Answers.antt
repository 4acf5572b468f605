use Rattle.mc_rules_steps.proofs.ExampleJudged as proof
use Rattle.mc_rules_steps.proofs.judged_examples.example_given.Goals as goal

pub returns : goal.returns
returns c =
    let law = c.derived_is_true.ensures.not_false in
    record {
      sum = proof.sums law;
      difference = proof.differences law;
      product = proof.products law;
      load = proof.load law;
      store = proof.store law;
      malloc = proof.malloc law;
      free = proof.free law;
      at_most = proof.at_most law;
      assume = proof.assume law;
      assert = proof.assert' law;
    }
