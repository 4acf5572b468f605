use Rattle.std.proofs.Common.{refl}
use Rattle.mc_rules_steps.proofs.ExampleJudged as proof
use Rattle.mc_rules_steps.proofs.judged_examples.example_results.Goals as goal

pub returns : goal.returns
returns c =
    record { wraps = proof.wraps; wraps_down = proof.wraps_down; leaves = refl; leaves_below = refl; stays = refl; either = proof.either; less = refl; product = refl }
