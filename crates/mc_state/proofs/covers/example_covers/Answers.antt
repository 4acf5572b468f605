use Rattle.mc_state.proofs.CoversExamples as proof
use Rattle.mc_state.proofs.CoversNone as none
use Rattle.mc_state.proofs.covers.example_covers.Goals as goal

pub returns : goal.returns
returns c =
    record {
      by_rule = proof.by_rule;
      by_segment = proof.by_segment;
      with_length = proof.with_length;
      two_calls = proof.two_calls;
      none = none.without_edges c.derived_is_true.ensures.derived;
      shared = none.of_shared c.derived_is_true.ensures.derived;
    }
