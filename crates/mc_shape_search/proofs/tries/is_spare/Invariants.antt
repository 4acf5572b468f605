use Rattle.mc_shape_search.proofs.tries.is_spare.Given as goal

abbrev pub invariant-loop-j : goal.invariant-loop-j
invariant-loop-j g l = Unit {0}
