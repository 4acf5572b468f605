use Rattle.std.proofs.Common.{◌≡◌, true, false, refl, sym, subst, arith}
use Rattle.mc_base.specs.declared.plain.Atom.{Atom}
use Rattle.mc_base.specs.Atoms.{moved_atom}
use Rattle.mc_state.specs.Facts.{Derives}
use Rattle.mc_pure_ops.specs.Renaming.Images.{image}
use Rattle.mc_joins.specs.Alike.Alike.{way_back}
use Rattle.mc_state.proofs.Lists.{each_here, each_more, each_all}
use Rattle.mc_joins.proofs.alike.atoms.all_known_back.Goals as goal

pub returns-then-not-knows : goal.returns-then-not-knows
returns-then-not-knows c =
    let ys = c.atoms-atom-items.result.now in (
      λ t. let w : false ≡ true = t in absurd (cc w),
      λ all.
          let here = each_here (λ (a : Atom). Derives c.args.state.now (moved_atom (way_back (image c.args.renaming.now) c.args.state.now) a)) ys _ c.atoms-atom-items.ensures c.loop-atom.atom-index _ (omega arith) all in
          let w = c.if-not-knows.ensures.derived.1 (subst (λ (z : Atom). Derives c.args.state.now z) (sym c.atom_back.ensures) here) in
          absurd (cc w),
    )

pub loop-atom-preserved : goal.loop-atom-preserved
loop-atom-preserved c =
    let ys = c.atoms-atom-items.result.now in
    let here = subst (λ (z : Atom). Derives c.args.state.now z) c.atom_back.ensures (c.if-not-knows.ensures.derived.0 refl) in
    each_more (λ (a : Atom). Derives c.args.state.now (moved_atom (way_back (image c.args.renaming.now) c.args.state.now) a)) ys _ c.atoms-atom-items.ensures c.loop-atom.atom-index _ (omega arith) c.loop-atom.invariant here

pub returns : goal.returns
returns c =
    let ys = c.atoms-atom-items.result.now in
    (λ t. each_all (λ (a : Atom). Derives c.args.state.now (moved_atom (way_back (image c.args.renaming.now) c.args.state.now) a)) ys _ c.atoms-atom-items.ensures c.loop-atom.atom-index (omega arith) c.loop-atom.invariant, λ all. refl)
