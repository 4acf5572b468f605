use Rattle.mc_rules_steps.proofs.LeastRanges as proof
use Rattle.mc_rules_steps.proofs.judged_laws.least_ranges_are_known.Goals as goal

pub returns : goal.returns
returns c = record { once = proof.least_range_is_one; number = proof.least_range_has_number; ints = proof.least_range_is_of_ints }
