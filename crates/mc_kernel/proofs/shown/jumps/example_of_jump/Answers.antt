use Rattle.mc_kernel.proofs.ShownLemmas.Jumping as jump
use Rattle.mc_kernel.proofs.shown.jumps.example_of_jump.Goals as goal

pub returns : goal.returns
returns c =
    let truth = c.derived_is_true.ensures.derived in
    let sound = c.derived_is_true.ensures.not_false in
    jump.jumps truth sound
