use Rattle.mc_kernel.proofs.ShownLemmas.Jumping as jump
use Rattle.mc_kernel.proofs.shown.jumps.jumps_out_of_place.Goals as goal

pub returns : goal.returns
returns c =
    let truth = c.derived_is_true.ensures.derived in
    let sound = c.derived_is_true.ensures.not_false in
    record {
      before = jump.before_step;
      side = jump.on_side;
      no_cut = jump.elsewhere;
      wrong = jump.of_false;
      no_state = jump.no_state truth sound;
    }
