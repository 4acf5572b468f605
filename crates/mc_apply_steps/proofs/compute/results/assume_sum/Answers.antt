use Rattle.std.proofs.Common.{◌≡◌, ◌∙◌, ◌++◌, sym, subst, ap, ap₂, arith}
use Rattle.std.proofs.lemmas.Int.{ints}
use Rattle.mc_pure.specs.Pure.{AreOfOneKind}
use Rattle.mc_state.specs.State.{State, with_atoms}
use Rattle.mc_apply_steps.specs.Compute.Computed.{list_of}
use Rattle.mc_apply_steps.proofs.ComputeLemmas.Written.{more_atoms}
use Rattle.mc_apply_steps.proofs.compute.results.assume_sum.Goals as goal

pub assume_if-requires : goal.assume_if-requires
assume_if-requires c = c.shift-first.ensures.fits c.args.s.now.kinds c.requires.first

pub assume_if-requires-2 : goal.assume_if-requires-2
assume_if-requires-2 c = c.shift-second.ensures.fits c.assume_if.new.s.kinds (subst (λ (t : State). AreOfOneKind t.kinds c.args.node c.args.b) (sym c.in_ok-assume_if.ensures) c.requires.second)

pub returns : goal.returns
returns c =
    let s = c.args.s.now in
    let xs = list_of c.shift-first.result in
    let ys = list_of c.shift-second.result in
    c.in_ok-assume_if-2.ensures ∙ ap (λ (t : State). with_atoms t ys) c.in_ok-assume_if.ensures
    ∙ more_atoms s xs ys ∙ ap₂ (λ xs ys. with_atoms s (xs ++ ys)) (sym c.shift-first.ensures.atom) (sym c.shift-second.ensures.atom)
