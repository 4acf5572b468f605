use Rattle.std.proofs.Common.{◌≡◌, ◌∙◌, ◌++◌, sym, subst, ap, ap₂}
use Rattle.mc_pure.specs.Pure.{AreOfOneKind}
use Rattle.mc_state.specs.State.{State, with_atoms}
use Rattle.mc_rules_steps.specs.Fitting.{ends_of}
use Rattle.mc_apply_steps.specs.Compute.Computed.{list_of, operation}
use Rattle.mc_apply_steps.proofs.ComputeLemmas.Written.{more_atoms}
use Rattle.mc_apply_steps.proofs.compute.results.assume_computed.Goals as goal

pub assume_if-requires : goal.assume_if-requires
assume_if-requires c = c.place-place.ensures.fits c.args.s.now.kinds (c.requires.first.0, c.requires.first.1)

pub assume_offsets-requires : goal.assume_offsets-requires
assume_offsets-requires c =
    let new = c.in_ok-assume_if.ensures in
    record {
      first = subst (λ (t : State). AreOfOneKind t.kinds c.args.node c.args.a) (sym new) c.requires.first;
      second = subst (λ (t : State). AreOfOneKind t.kinds c.args.node c.args.b) (sym new) c.requires.second;
      left = c.requires.left;
      right = c.requires.right;
    }

pub returns : goal.returns
returns c =
    let s = c.args.s.now in
    let others = (operation c.args.op).offsets c.args.node c.args.a c.args.b (ends_of c.args.left) (ends_of c.args.right) in
    c.in_ok-assume_offsets.ensures ∙ ap (λ (t : State). with_atoms t others) c.in_ok-assume_if.ensures
    ∙ more_atoms s (list_of c.place-place.result) others ∙ ap (λ xs. with_atoms s (xs ++ others)) (sym c.place-place.ensures.atom)
