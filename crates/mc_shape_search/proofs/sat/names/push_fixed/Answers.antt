use Rattle.std.proofs.Common.{◌∙◌, ap}
use Rattle.mc_shape_search.specs.Sat.Names.{all_in_kinds}
use Rattle.mc_shape_search.proofs.SatLemmas.Fixed.{far_rest}
use Rattle.mc_shape_search.proofs.sat.names.push_fixed.Goals as goal

pub returns-then-not-branch-clause-far : goal.returns-then-not-branch-clause-far
returns-then-not-branch-clause-far c = λ no kinds.
    ap (all_in_kinds kinds) c.loop-atom.invariant
    ∙ far_rest kinds c.loop-atom.names.items c.args.atoms.now c.loop-atom.atom-index _ c.loop-atom-test.true (c.in_ok-push_sum.ensures.far c.if-not-branch.true)
