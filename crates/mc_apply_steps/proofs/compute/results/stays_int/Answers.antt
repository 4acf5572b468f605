use Rattle.std.proofs.Common.{◌≡◌, ◌∙◌, ap₂}
use Rattle.mc_rules_steps.specs.Sums.{Ends, are_ints}
use Rattle.mc_apply_steps.proofs.compute.results.stays_int.Goals as goal

pub returns : goal.returns
returns c = c.are_ints.ensures ∙ ap₂ (λ lo hi. are_ints (record { lo = lo; hi = hi })) c.moved.ensures.low c.moved.ensures.high
