use Rattle.mc_rules_steps.proofs.ExampleJudged as proof
use Rattle.mc_rules_steps.proofs.judged_examples.example_unmet_moves.Goals as goal

pub returns : goal.returns
returns c =
    let law = c.derived_is_true.ensures.not_false in
    record { other = proof.other; copied = proof.copied law; added = proof.added law; compared = proof.compared law; not_whole = proof.not_whole law; not_empty = proof.not_empty law }
