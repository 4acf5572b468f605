use Rattle.mc_apply_steps.proofs.compute.results.products.Goals as goal

pub returns : goal.returns
returns c = λ n. c.results_are_ranged.ensures.products n c.args.left c.args.right c.mul.result c.requires.left.0 c.requires.right.0 c.mul.ensures
