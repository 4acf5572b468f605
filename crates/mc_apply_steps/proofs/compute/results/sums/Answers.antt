use Rattle.mc_apply_steps.proofs.compute.results.sums.Goals as goal

pub returns : goal.returns
returns c = λ n. c.results_are_ranged.ensures.sums n c.args.left c.args.right c.add.result c.requires.left.0 c.requires.right.0 c.add.ensures
