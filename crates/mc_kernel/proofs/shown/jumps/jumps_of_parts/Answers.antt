use Rattle.mc_kernel.proofs.ShownLemmas.Jumping as jump
use Rattle.mc_kernel.proofs.shown.jumps.jumps_of_parts.Goals as goal

pub returns : goal.returns
returns c =
    let truth = c.derived_is_true.ensures.derived in
    let sound = c.derived_is_true.ensures.not_false in
    record {
      few = jump.few_edges truth sound;
      twice = jump.edge_twice truth sound;
      absent = jump.absent_edge truth sound;
      form = jump.cell_for_list truth sound;
      atom = jump.not_derived truth sound;
      whole = jump.whole_from_other truth sound;
      left = jump.edge_left truth sound;
    }
