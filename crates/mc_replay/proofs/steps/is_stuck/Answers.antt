use Rattle.std.proofs.Common.{sym, ap, ◌∙◌}
use Rattle.std.specs.Prelude.{not}
use Rattle.mc_replay.specs.Joined.{seen}
use Rattle.mc_replay.proofs.StepLemmas.{stuck_is}
use Rattle.mc_replay.proofs.steps.is_stuck.Goals as goal

pub returns-in_ok-has_step-in-Some : goal.returns-in_ok-has_step-in-Some
returns-in_ok-has_step-in-Some c = λ w same t.
    sym (stuck_is w (seen c.args.join.now) c.in-Some.pair (sym c.next_pair.ensures ∙ c.in-Some.is) ∙ ap not (sym (c.in_ok-has_step-in-Some.ensures w same t)))
