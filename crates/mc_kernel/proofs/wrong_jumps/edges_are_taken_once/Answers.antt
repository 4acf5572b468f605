use Rattle.mc_kernel.proofs.EdgesOnce.{right_premises, one_edge_for_two, an_edge_is_left}
use Rattle.mc_kernel.proofs.wrong_jumps.edges_are_taken_once.Goals as goal

pub returns : goal.returns
returns c =
    let e = c.example_merging.ensures in
    record { right = right_premises; distinct = one_edge_for_two e.addresses e.stands; each = an_edge_is_left c.nothing_is_allocated.ensures.whole e.addresses e.stands }
