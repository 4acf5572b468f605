use Rattle.mc_flow.specs.Defs.Examples.{blocks, two_cells, first_cell}
use Rattle.mc_rules_logic.proofs.UnfoldLemmas.FirstUnmet.{ind_false, seg_false, ind_absent, seg_of_ind, ind_not_accessed, ind_of_seg, seg_elsewhere}
use Rattle.mc_rules_logic.proofs.unfold.examples.first_unmet.Goals as goal

pub returns : goal.returns
returns c =
    let d = c.derived_is_true.ensures in
    let two = c.body_premises.ensures.addresses in
    let list = c.example_of_ind.ensures.stands in
    let one = c.example_of_seg.ensures.addresses in
    let segment = c.example_of_seg.ensures.stands in
    record {
      ind_false = ind_false;
      ind_absent = ind_absent d.not_false d.equal (blocks two_cells) two list;
      ind_of_seg = ind_of_seg d.not_false d.equal (blocks first_cell) one segment;
      ind_not_accessed = ind_not_accessed d.not_false d.equal (blocks two_cells) two list;
      seg_false = seg_false;
      seg_of_ind = seg_of_ind d.not_false d.equal (blocks two_cells) two list;
      seg_elsewhere = seg_elsewhere d.not_false d.equal (blocks first_cell) one segment;
    }
