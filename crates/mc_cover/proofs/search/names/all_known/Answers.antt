use Rattle.std.proofs.Common.{sym, ◌∙◌}
use Rattle.mc_cover.proofs.SearchLemmas.Fixed.{each_small, known_more}
use Rattle.mc_cover.proofs.search.names.all_known.Goals as goal

pub is_known-requires-clause-small : goal.is_known-requires-clause-small
is_known-requires-clause-small c = each_small c.args.atoms.now c.loop-atom.atom-index _ c.loop-atom-test.true c.requires.small

pub loop-atom-preserved : goal.loop-atom-preserved
loop-atom-preserved c = λ know t.
    c.loop-atom.invariant know t ∙ known_more know c.args.names.now c.args.atoms.now c.loop-atom.atom-index _ c.loop-atom-test.true (sym (c.if-not-is_known.ensures know t))
