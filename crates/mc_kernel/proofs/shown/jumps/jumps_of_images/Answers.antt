use Rattle.mc_kernel.proofs.ShownLemmas.Jumping as jump
use Rattle.mc_kernel.proofs.shown.jumps.jumps_of_images.Goals as goal

pub returns : goal.returns
returns c =
    let truth = c.derived_is_true.ensures.derived in
    let sound = c.derived_is_true.ensures.not_false in
    record {
      few = jump.few_images truth sound;
      many = jump.many_images truth sound;
      moved = jump.moved_null truth sound;
      number = jump.number_for_pointer truth sound;
      pointer = jump.pointer_for_number truth sound;
      absent = jump.absent_image truth sound;
      other = jump.other_node truth sound;
      unknown = jump.not_known truth sound;
    }
