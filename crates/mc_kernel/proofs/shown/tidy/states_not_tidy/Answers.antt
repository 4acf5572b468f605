use Rattle.mc_kernel.proofs.ShownLemmas.TidyStates as tidy
use Rattle.mc_kernel.proofs.shown.tidy.states_not_tidy.Goals as goal

pub returns : goal.returns
returns c =
    let truth = c.derived_is_true.ensures.derived in
    let sound = c.derived_is_true.ensures.not_false in
    record {
      wrong = tidy.no_number truth sound;
      lost = tidy.lost_cell truth sound;
      twice = tidy.second_name truth sound;
      zero = tidy.zero_named truth sound;
    }
