use Rattle.mc_exact.proofs.LowerLaws.{StateLaws}
use Rattle.mc_exact.proofs.Whole.{branch_good}
use Rattle.mc_exact.proofs.made.exact_states_are_well_made.Goals as goal

pub returns : goal.returns
returns c = λ flow defs t valid exact.
    let states : StateLaws = record {
      made = c.steps_are_well_made.ensures;
      unknown = c.numbers_stay_bounded.ensures.unknown;
      ranged = c.least_ranges_are_known.ensures.number;
    } in
    (branch_good flow defs valid states exact.1).made
