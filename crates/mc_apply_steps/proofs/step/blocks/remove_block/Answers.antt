use Rattle.std.proofs.Common.{◌≡◌, rules}
use Rattle.mc_state.specs.Graph.Graph.{block_starts}
use Rattle.mc_rules_steps.specs.Steps.{freed_atoms}
use Rattle.mc_apply_steps.proofs.StepLemmas.There.{freed_there}
use Rattle.mc_apply_steps.proofs.step.blocks.remove_block.Goals as goal

pub assume_all-requires : goal.assume_all-requires
assume_all-requires c =
    let es = c.edges.result.now in
    let own : c.as_slice.result.now ≡ freed_atoms c.args.at (block_starts es) = search rules in
    freed_there c.args.s.now c.take_edge.new.self c.args.id c.args.at es c.as_slice.result.now c.in_ok-take_edge.ensures.ok c.edges.ensures own c.requires
