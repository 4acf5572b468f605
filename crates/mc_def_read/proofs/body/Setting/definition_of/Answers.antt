use Rattle.std.proofs.Common.{◌∙◌}
use Rattle.mc_def_read.proofs.body.Setting.definition_of.Goals as goal

pub rules-requires : goal.rules-requires
rules-requires c = c.in_ok-parameters.ensures.same ∙ c.in_ok-push.ensures.front ∙ c.new-none.ensures
