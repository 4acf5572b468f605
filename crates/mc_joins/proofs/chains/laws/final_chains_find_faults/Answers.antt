use Rattle.mc_joins.proofs.ChainsLemmas.Final.{has_last_pass, finds_faults}
use Rattle.mc_joins.proofs.chains.laws.final_chains_find_faults.Goals as goal

pub returns-clause-last : goal.returns-clause-last
returns-clause-last c =
    has_last_pass c.lines_make_well_made.ensures c.numbers_stay_bounded.ensures.unknown c.numbering_is_sound.ensures.bounded c.joins_make_well.ensures

pub returns-clause-faults : goal.returns-clause-faults
returns-clause-faults c =
    finds_faults c.lines_make_well_made.ensures c.numbers_stay_bounded.ensures.unknown c.numbering_is_sound.ensures.bounded c.joins_make_well.ensures
    c.last_pass_finds_faults.ensures
