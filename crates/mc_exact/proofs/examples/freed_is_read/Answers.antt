use Rattle.mc_exact.proofs.Example as proof
use Rattle.mc_exact.proofs.examples.freed_is_read.Goals as goal

pub returns : goal.returns
returns c =
    let law = c.derived_is_true.ensures.not_false in
    record {
      valid = proof.freed_is_valid c.examples_fit.ensures;
      short = proof.freed_is_short;
      asks = proof.freed_asks;
      null_track = proof.null_is_exact law;
      null_unmet = proof.null_is_unmet law;
      null_faults = proof.null_faults;
      freed_track = proof.freed_is_exact law;
      freed_unmet = proof.freed_is_unmet law;
      marked = proof.freed_is_marked law c.derived_is_true.ensures.derived;
      freed_faults = proof.freed_faults c.heaps_change_one_address.ensures.insert c.heaps_change_one_address.ensures.remove;
    }
