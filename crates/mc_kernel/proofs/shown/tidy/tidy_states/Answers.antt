use Rattle.mc_kernel.proofs.ShownLemmas.TidyStates as tidy
use Rattle.mc_kernel.proofs.shown.tidy.tidy_states.Goals as goal

pub returns : goal.returns
returns c =
    let truth = c.derived_is_true.ensures.derived in
    let sound = c.derived_is_true.ensures.not_false in
    record {
      one = tidy.is_tidy truth sound;
      apart = tidy.offset_is_tidy truth sound;
    }
