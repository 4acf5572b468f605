use Rattle.std.proofs.Common.{◌∙◌, ap}
use Rattle.mc_cover.specs.Search.Terms.{all_near}
use Rattle.mc_cover.proofs.SearchLemmas.Fixed.{far_rest}
use Rattle.mc_cover.proofs.search.names.push_fixed.Goals as goal

pub returns-then-not-branch-clause-far : goal.returns-then-not-branch-clause-far
returns-then-not-branch-clause-far c = λ no.
    ap all_near c.loop-atom.invariant
    ∙ far_rest c.loop-atom.names.items c.args.atoms.now c.loop-atom.atom-index _ c.loop-atom-test.true (c.in_ok-push_sum.ensures.far c.if-not-branch.true)
