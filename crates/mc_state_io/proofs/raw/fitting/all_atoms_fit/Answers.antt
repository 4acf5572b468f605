use Rattle.std.proofs.Common.{◌≡◌, true, false, refl, arith}
use Rattle.mc_base.specs.declared.plain.Atom.{Atom}
use Rattle.mc_pure.specs.Pure.{IsWellFormed}
use Rattle.mc_state.proofs.Lists.{each_here, each_more, each_all}
use Rattle.mc_state_io.proofs.raw.fitting.all_atoms_fit.Goals as goal

pub returns-then-not-allows : goal.returns-then-not-allows
returns-then-not-allows c = (
  λ t. let w : false ≡ true = t in absurd (cc w),
  λ all. let w = c.if-not-allows.ensures.1 (each_here (λ (a : Atom). IsWellFormed c.args.state.now.kinds a) c.args.atoms.now _ refl c.loop-atom.atom-index _ (omega arith) all) in absurd (cc w),
)

pub loop-atom-preserved : goal.loop-atom-preserved
loop-atom-preserved c = each_more (λ (a : Atom). IsWellFormed c.args.state.now.kinds a) c.args.atoms.now _ refl c.loop-atom.atom-index _ (omega arith) c.loop-atom.invariant (c.if-not-allows.ensures.0 refl)

pub returns : goal.returns
returns c = (λ t. each_all (λ (a : Atom). IsWellFormed c.args.state.now.kinds a) c.args.atoms.now _ refl c.loop-atom.atom-index (omega arith) c.loop-atom.invariant, λ all. refl)
