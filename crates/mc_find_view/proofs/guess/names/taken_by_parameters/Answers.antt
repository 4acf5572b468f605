use Rattle.std.proofs.Common.{Option, ap, ◌∙◌}
use Rattle.mc_state.specs.declared.terms.Term.{Term}
use Rattle.mc_state.specs.Guess.{or_zero}
use Rattle.mc_find_view.proofs.GuessLemmas.Given.{params_next}
use Rattle.mc_find_view.proofs.guess.names.taken_by_parameters.Goals as goal

pub loop-place-preserved : goal.loop-place-preserved
loop-place-preserved c =
    params_next c.args.names.now c.args.count c.loop-place.place c.loop-place.terms.items c.push.new.self.items c.or_zero.result
    c.loop-place-test.true c.loop-place.invariant (c.or_zero.ensures ∙ ap (λ (z : Option Term). or_zero z) c.given.ensures) c.in_ok-push.ensures.items
