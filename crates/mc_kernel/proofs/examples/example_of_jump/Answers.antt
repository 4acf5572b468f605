use Rattle.mc_kernel.proofs.EdgesOnce.{two_names_jump}
use Rattle.mc_kernel.proofs.examples.example_of_jump.Goals as goal

pub returns : goal.returns
returns c = two_names_jump
