use Rattle.mc_kernel.proofs.OracleLemmas.Judging.{judge}
use Rattle.mc_kernel.proofs.oracle.judges_are_there.Goals as goal

pub returns : goal.returns
returns c flow defs valid =
    judge c.each_is_decided.ensures.decided c.each_is_decided.ensures.normal c.normal_forms_say_all.ensures c.lists_are_there.ensures
    c.gaps_are_told.ensures c.causes_are_one.ensures c.none_is_missed.ensures.cover c.operands_fit.ensures.one c.operands_fit.ensures.many
    c.operands_tell_nothing.ensures.sound flow defs valid
