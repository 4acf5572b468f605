use Rattle.mc_state.proofs.Tests.{false_told, equal_told, all_equal_told, kind_told}
use Rattle.mc_state.proofs.told.tests_tell.Goals as goal

pub returns : goal.returns
returns c = record { is_false = false_told; equal = equal_told; all_equal = all_equal_told; kind = kind_told }
