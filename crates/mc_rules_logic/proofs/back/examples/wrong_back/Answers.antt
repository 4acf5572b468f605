use Rattle.std.proofs.Common.{[]}
use Rattle.mc_flow.specs.Defs.Examples.{blocks}
use Rattle.mc_rules_logic.proofs.BackLemmas.ExampleStates.{not_never_empty}
use Rattle.mc_rules_logic.proofs.back.examples.wrong_back.Goals as goal

pub returns : goal.returns
returns c =
    record {
      never_empty = not_never_empty c.parts_regroup.ensures.adds_empty c.derived_is_true.ensures.not_false (blocks []) c.heaps_change_one_address.ensures.empty c.example_premises.ensures.addresses;
    }
