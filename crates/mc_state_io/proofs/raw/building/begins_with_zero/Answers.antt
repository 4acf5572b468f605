use Rattle.std.proofs.Common.{◌≡◌, ◌<◌, length, true, false, refl, arith}
use Rattle.mc_state.specs.declared.raw_state.NodeKind.TheVariants.{Zero}
use Rattle.mc_state_io.proofs.RawLemmas.Built.{begins, first_zero, not_zero, same_item}
use Rattle.mc_state_io.proofs.RawLemmas.Whole.{some_kinds}
use Rattle.mc_state_io.proofs.raw.building.begins_with_zero.Goals as goal

pub returns-then-not-is_zero : goal.returns-then-not-is_zero
returns-then-not-is_zero c = (
  λ t. let w : false ≡ true = t in absurd (cc w),
  λ b. let w : false ≡ true = c.if-not-is_zero.ensures.1 (first_zero c.args.kinds.now _ b) in absurd (cc w),
)

pub returns-then-is_zero : goal.returns-then-is_zero
returns-then-is_zero c = (
  λ t. let w : false ≡ true = t in absurd (cc w),
  λ b. absurd (not_zero c.args.kinds.now c.loop-i.i _ b c.loop-i.auto.i (omega arith) (c.if-is_zero.ensures.0 refl)),
)

pub returns : goal.returns
returns c = (λ t. begins c.args.kinds.now c.loop-i.invariant.some c.loop-i.invariant.first (λ k l m. c.loop-i.invariant.others k l (omega arith)), λ b. refl)
