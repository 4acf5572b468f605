use Rattle.mc_rules_steps.proofs.ExampleJudged as proof
use Rattle.mc_rules_steps.proofs.judged_examples.example_of_back_position.Goals as goal

pub returns : goal.returns
returns c = record { from_end = proof.from_end c.back_is_told.ensures }
