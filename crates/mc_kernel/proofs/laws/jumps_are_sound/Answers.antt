use Rattle.mc_kernel.proofs.Jumping.{StateLaws, jumps_are_sound}
use Rattle.mc_kernel.proofs.laws.jumps_are_sound.Goals as goal

pub returns : goal.returns
returns c =
    let laws : StateLaws = record { derived = c.derived_is_true.ensures.derived; equal = c.derived_is_true.ensures.equal; taken = c.edges_come_and_go.ensures.taken; whole = c.nothing_is_allocated.ensures.whole } in
    jumps_are_sound laws
