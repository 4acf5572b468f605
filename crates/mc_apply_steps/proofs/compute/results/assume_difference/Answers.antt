use Rattle.std.proofs.Common.{◌≡◌, ◌∙◌, sym, ap}
use Rattle.mc_state.specs.State.{with_atoms}
use Rattle.mc_rules_steps.specs.Fitting.{ends_of}
use Rattle.mc_rules_steps.specs.Sums.{shift_atoms}
use Rattle.mc_apply_steps.proofs.compute.results.assume_difference.Goals as goal

pub assume_if-requires : goal.assume_if-requires
assume_if-requires c = c.shift-first.ensures.fits c.args.s.now.kinds c.requires.first

pub returns : goal.returns
returns c =
    let s = c.args.s.now in
    c.in_ok-assume_if.ensures
    ∙ ap (with_atoms s) (sym c.shift-first.ensures.atom ∙ ap (shift_atoms c.args.node c.args.a (ends_of c.args.left) (ends_of c.args.right)) c.turned-by.ensures)
