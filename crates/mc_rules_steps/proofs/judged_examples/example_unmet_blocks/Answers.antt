use Rattle.mc_rules_steps.proofs.ExampleJudged as proof
use Rattle.mc_rules_steps.proofs.judged_examples.example_unmet_blocks.Goals as goal

pub returns : goal.returns
returns c =
    let law = c.derived_is_true.ensures.not_false in
    record {
      base = proof.base law;
      block = proof.block law;
      field = proof.field law;
      stored = proof.stored law;
      stored_base = proof.stored_base law;
      stored_block = proof.stored_block law;
      not_null = proof.not_null law c.derived_is_true.ensures.derived;
      freed = proof.freed law;
      freed_block = proof.freed_block law;
    }
