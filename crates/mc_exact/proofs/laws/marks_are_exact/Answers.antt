use Rattle.mc_exact.proofs.LowerLaws.{RunLaws, StateLaws}
use Rattle.mc_exact.proofs.Marks as proof
use Rattle.mc_exact.proofs.laws.marks_are_exact.Goals as goal

pub returns : goal.returns
returns c =
    let runs : RunLaws = record {
      insert = c.heaps_change_one_address.ensures.insert;
      remove = c.heaps_change_one_address.ensures.remove;
      derived = c.derived_is_true.ensures.derived;
    } in
    let states : StateLaws = record {
      made = c.steps_are_well_made.ensures;
      unknown = c.numbers_stay_bounded.ensures.unknown;
      ranged = c.least_ranges_are_known.ensures.number;
    } in
    proof.marks_are_exact runs states c.judges_are_there.ensures
