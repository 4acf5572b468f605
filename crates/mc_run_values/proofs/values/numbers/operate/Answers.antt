use Rattle.std.proofs.Common.{◌∙◌}
use lib.IntN.{ℤ, ◌+ℤ◌, ◌-ℤ◌, ◌*ℤ◌}
use mir.Syntax.{w32}
use Rattle.std.proofs.lemmas.Int.{wrapping_mul_is, wrapping_add_is, wrapping_sub_is}
use Rattle.mc_run_values.proofs.ValuesLemmas.LowBits.{operated_low, times_low, plus_low, difference_low}
use Rattle.mc_run_values.proofs.values.numbers.operate.Goals as goal

pub returns-in-Times : goal.returns-in-Times
returns-in-Times c =
    rw c.in-Times.is (operated_low (λ (x y : ℤ). x *ℤ y) c.args.a c.args.b c.low.result c.low-in-Times.result c.from.result c.ranges.a c.ranges.b (record { sfits = c.from.type_inv }) (times_low c.args.a c.args.b) c.low.ensures c.low-in-Times.ensures (c.from.ensures ∙ wrapping_mul_is w32 c.low.result c.low-in-Times.result (record { sfits = c.low.type_inv }) (record { sfits = c.low-in-Times.type_inv })))

pub returns-in-Plus : goal.returns-in-Plus
returns-in-Plus c =
    rw c.in-Plus.is (operated_low (λ (x y : ℤ). x +ℤ y) c.args.a c.args.b c.low-in-Plus.result c.low-in-Plus-2.result c.from-in-Plus.result c.ranges.a c.ranges.b (record { sfits = c.from-in-Plus.type_inv }) (plus_low c.args.a c.args.b) c.low-in-Plus.ensures c.low-in-Plus-2.ensures (c.from-in-Plus.ensures ∙ wrapping_add_is w32 c.low-in-Plus.result c.low-in-Plus-2.result (record { sfits = c.low-in-Plus.type_inv }) (record { sfits = c.low-in-Plus-2.type_inv })))

pub returns-in-Difference : goal.returns-in-Difference
returns-in-Difference c =
    rw c.in-Difference.is (operated_low (λ (x y : ℤ). x -ℤ y) c.args.a c.args.b c.low-in-Difference.result c.low-in-Difference-2.result c.from-in-Difference.result c.ranges.a c.ranges.b (record { sfits = c.from-in-Difference.type_inv }) (difference_low c.args.a c.args.b) c.low-in-Difference.ensures c.low-in-Difference-2.ensures (c.from-in-Difference.ensures ∙ wrapping_sub_is w32 c.low-in-Difference.result c.low-in-Difference-2.result (record { sfits = c.low-in-Difference.type_inv }) (record { sfits = c.low-in-Difference-2.type_inv })))
