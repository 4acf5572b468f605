use Rattle.mc_rules_logic.proofs.FoldLemmas.Refusing.{close_absent, close_other, close_twice, close_missing, close_segment, close_apart, close_lengths}
use Rattle.mc_rules_logic.proofs.fold.refused.examples_of_closing_refused.Goals as goal

pub returns : goal.returns
returns c =
    let truth = c.derived_is_true.ensures.derived in
    let sound = c.derived_is_true.ensures.not_false in
    record {
      absent = close_absent truth sound;
      list = close_other truth sound;
      twice = close_twice truth sound;
      missing = close_missing truth sound;
      segment = close_segment truth sound;
      apart = close_apart truth sound;
      lengths = close_lengths truth sound;
    }
