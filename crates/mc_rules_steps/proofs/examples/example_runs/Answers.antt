use Rattle.mc_rules_steps.proofs.ExampleRuns as proof
use Rattle.mc_rules_steps.proofs.examples.example_runs.Goals as goal

pub returns : goal.returns
returns c =
    record {
      skip = proof.skip;
      copy = proof.copy;
      undef = proof.undef;
      input = proof.input;
      sum = proof.sum;
      wrap = proof.wrap;
      difference = proof.difference;
      product = proof.product;
      load = proof.load;
      store = proof.store;
      malloc_null = proof.malloc_null;
      malloc_cell = proof.malloc_cell;
      free_null = proof.free_null;
      free = proof.free;
      equal = proof.equal;
      at_most = proof.at_most;
      assume = proof.assume;
      assert = proof.assert c.example_predicates.ensures.empty_list;
      empty = proof.empty;
      last = proof.end;
    }
