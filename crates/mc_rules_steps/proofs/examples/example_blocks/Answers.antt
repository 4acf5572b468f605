use Rattle.mc_rules_steps.proofs.ExampleSteps as proof
use Rattle.mc_rules_steps.proofs.examples.example_blocks.Goals as goal

pub returns : goal.returns
returns c =
    let sound = proof.one_cell_sound c.derived_is_true.ensures.not_false in
    record {
      load = proof.load sound;
      store = proof.store sound;
      malloc = proof.malloc sound;
      free_null = proof.free_null sound;
      free = proof.free sound;
      assume = proof.assume sound;
      assert = proof.assert sound;
      sides = proof.sides c.example_predicates.ensures.empty_list;
      empty = proof.empty (proof.no_cell_sound c.derived_is_true.ensures.not_false);
      last = proof.end sound;
    }
