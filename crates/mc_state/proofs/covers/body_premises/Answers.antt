use Rattle.mc_flow.specs.Defs.Examples.{structs}
use Rattle.mc_state.proofs.CoversPremises as proof
use Rattle.mc_state.proofs.Parts.{SplitLaws}
use Rattle.mc_state.proofs.covers.body_premises.Goals as goal

pub returns : goal.returns
returns c =
    let laws : SplitLaws = record {
      commutes = c.parts_regroup.ensures.commutes;
      left = c.parts_regroup.ensures.left;
      right = c.parts_regroup.ensures.right;
      drops_empty = c.parts_regroup.ensures.drops_empty;
      adds_empty = c.parts_regroup.ensures.adds_empty;
    } in
    let heaps = c.heaps_change_one_address.ensures in
    let cells = c.example_premises.ensures in
    record {
      definitions = (structs, c.examples_fit.ensures);
      stands = proof.stands laws heaps.empty heaps.insert heaps.insert_keeps cells.split cells.at_end;
      edges = proof.edges laws heaps.empty heaps.insert heaps.insert_keeps cells.split cells.at_end;
      addresses = proof.addresses laws heaps.empty heaps.insert heaps.insert_keeps cells.addresses;
      body = proof.body laws heaps.empty heaps.insert heaps.insert_keeps cells.split cells.at_end;
      body_to = proof.body_to laws heaps.empty heaps.insert heaps.insert_keeps;
    }
