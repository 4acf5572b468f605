use Rattle.mc_apply_steps.proofs.compute.results.differences.Goals as goal

pub returns : goal.returns
returns c = λ n. c.results_are_ranged.ensures.differences n c.args.left c.args.right c.sub.result c.requires.left.0 c.requires.right.0 c.sub.ensures
