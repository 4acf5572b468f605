use Rattle.mc_joins.proofs.ChainsLemmas.Assertion.{has_one_alarm, is_early}
use Rattle.mc_joins.proofs.chains.examples.assertion_alarms.Goals as goal

pub returns : goal.returns
returns c =
    record { alarm = has_one_alarm c.derived_is_true.ensures.not_false; early = is_early c.derived_is_true.ensures.not_false }
