use Rattle.mc_rules_steps.proofs.ExampleGaps as proof
use Rattle.mc_rules_steps.proofs.examples.example_gaps.Goals as goal

pub returns : goal.returns
returns c =
    let law = c.derived_is_true.ensures.not_false in
    record { variable = proof.uninit law; block = proof.no_block law; field = proof.uninit_field law; reached = proof.reached law; left = proof.not_empty law }
