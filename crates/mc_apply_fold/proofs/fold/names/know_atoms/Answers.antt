use Rattle.std.proofs.Common.{sym, ◌∙◌}
use Rattle.std.proofs.lemmas.List.{at_drop_all}
use Rattle.std.specs.List.{list_all}
use Rattle.mc_flow.specs.Defs.Instances.{atom_of}
use Rattle.mc_apply_fold.proofs.FoldLemmas.Lists.{all_later, not_all}
use Rattle.mc_apply_fold.proofs.fold.names.know_atoms.Goals as goal

pub loop-atom-preserved : goal.loop-atom-preserved
loop-atom-preserved c = λ know t.
    c.loop-atom.invariant know t
    ∙ all_later (λ a. know (atom_of c.args.names.now a)) c.args.atoms.now c.loop-atom.atom-index _ c.loop-atom-test.true (c.if-not-knows_atom.ensures know t)

pub returns-then-not-knows_atom : goal.returns-then-not-knows_atom
returns-then-not-knows_atom c = λ know t. sym (
    c.loop-atom.invariant know t
    ∙ not_all (λ a. know (atom_of c.args.names.now a)) c.args.atoms.now c.loop-atom.atom-index _ c.loop-atom-test.true (c.if-not-knows_atom.ensures know t)
    )

pub returns : goal.returns
returns c = λ know t. sym (
    c.loop-atom.invariant know t
    ∙ at_drop_all (list_all (λ a. know (atom_of c.args.names.now a))) c.args.atoms.now c.loop-atom.atom-index c.loop-atom-test.false
    )
