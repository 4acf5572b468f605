use Rattle.std.proofs.Common.{[]}
use Rattle.mc_flow.specs.Defs.Examples.{blocks}
use Rattle.mc_rules_logic.proofs.BackLemmas.ExampleStates.{of_false, of_whole, of_none, of_other, of_same}
use Rattle.mc_rules_logic.proofs.back.examples.first_unmet.Goals as goal

pub returns : goal.returns
returns c =
    let adds = c.parts_regroup.ensures.adds_empty in
    let d = c.derived_is_true.ensures in
    let none = c.heaps_change_one_address.ensures.empty in
    let addresses = c.example_premises.ensures.addresses in
    record {
      of_false = of_false;
      of_whole = of_whole adds d.not_false d.equal (blocks []) none addresses;
      of_none = of_none adds d.not_false d.equal (blocks []) none addresses;
      of_other = of_other adds d.not_false d.equal (blocks []) none addresses;
      of_same = of_same adds d.not_false d.equal (blocks []) none addresses;
    }
