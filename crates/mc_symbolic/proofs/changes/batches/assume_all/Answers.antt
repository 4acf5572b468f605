use Rattle.std.specs.Prelude.{pos}
use Rattle.mc_base.specs.declared.plain.Atom.TheVariants.{In}
use Rattle.mc_base.specs.Nodes.{null}
use Rattle.std.proofs.Common.{◌∙◌, sym, ap, subst, drop, ◌+◌}
use Rattle.std.proofs.lemmas.List.{drop_more}
use Rattle.std.specs.List.{AllByRecursion}
use Rattle.mc_pure.specs.Pure.{IsWellFormed}
use Rattle.mc_state.specs.State.{with_atoms}
use Rattle.mc_symbolic.proofs.ChangesLemmas.OneByOne.{after_atom, all_more}
use Rattle.mc_symbolic.proofs.changes.batches.assume_all.Goals as goal

pub loop-atom-preserved : goal.loop-atom-preserved
loop-atom-preserved c =
    let s = c.loop-atom.s in
    let atoms = c.args.atoms.now in
    let i = c.loop-atom.atom-index in
    let made = c.in_ok-assume.ensures.ok in (
      ap (λ t. with_atoms t (drop (i + 1) atoms)) made ∙ after_atom s _ (drop (i + 1) atoms) ∙ ap (with_atoms s) (sym (drop_more atoms i _ c.loop-atom-test.true)) ∙ c.loop-atom.invariant.0,
      subst (λ t. AllByRecursion (IsWellFormed t.kinds) (drop (i + 1) atoms)) (sym made) (all_more (IsWellFormed s.kinds) atoms i (In null (pos 0) (pos 0)) c.loop-atom-test.true c.loop-atom.invariant.1).1,
    )
