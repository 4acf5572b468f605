use Rattle.std.proofs.Common.{◌≡◌, ℤ, pos, negsuc, Some, [], refl, ap, sym}
use Rattle.std.specs.Prelude.{◌+ℤ◌}
use Rattle.std.specs.Int.{int_wrap, w32}
use Rattle.mc_flow.specs.Runs.{next}
use Rattle.mc_flow.specs.Examples.{config}
use Rattle.mc_flow.proofs.examples.example_numbers.Goals as goal

past_the_end : int_wrap w32 (pos 2147483647 +ℤ pos 1) ≡ negsuc 2147483647
unfolding int_wrap
past_the_end = refl

pub returns-clause-wraps : goal.returns-clause-wraps
returns-clause-wraps c = ap (λ (sum : ℤ). next (config 1 (Some sum) []) []) (sym past_the_end)
