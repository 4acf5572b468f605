use Rattle.std.proofs.Common.{[]}
use Rattle.mc_flow.specs.Defs.Examples.{blocks}
use Rattle.mc_rules_logic.specs.Back.Examples.{seven_and_nine, dlls, dll_segment}
use Rattle.mc_rules_logic.proofs.BackLemmas.ExampleFits.{dlls_fit, made_segment}
use Rattle.mc_rules_logic.proofs.BackLemmas.ExampleStates.{segment_stands, segment_unfolds}
use Rattle.mc_rules_logic.proofs.back.examples.example_of_back.Goals as goal

pub returns : goal.returns
returns c =
    let none = c.heaps_change_one_address.ensures.empty in
    let addresses = c.example_premises.ensures.addresses in
    let st = segment_stands c.parts_regroup.ensures.adds_empty (blocks []) none in
    record {
      fits = dlls_fit;
      made = made_segment;
      unfolds = segment_unfolds (λ wrong. c.derived_is_true.ensures.not_false dlls [] (blocks []) dll_segment addresses (seven_and_nine, st) wrong);
      addresses = addresses;
      stands = st;
    }
