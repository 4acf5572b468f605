use Rattle.mc_flow.proofs.DefsLemmas.SmallHeaps as proof
use Rattle.mc_flow.proofs.defs.examples.example_premises.Goals as goal

pub returns : goal.returns
returns c =
    record {
      split = proof.two_split;
      at_end = proof.second_list;
      to_null = proof.second_segment;
      body = proof.two_body;
      height = proof.null_height;
      segment_height = proof.first_height;
      addresses = proof.at_addresses;
    }
