use Rattle.std.proofs.Common.{◌≡◌, ◌<◌, ℕ, Some, slice_get}
use Rattle.mc_flow.specs.declared.defs.rules.Rule.{Rule}
use Rattle.mc_state_io.specs.Raw.Raw.{RuleFits}
use Rattle.mc_state_io.proofs.raw.fitting.rules_fit.Given as goal

abbrev pub invariant-loop-rule : goal.invariant-loop-rule
invariant-loop-rule l = (r : ℕ) → r < l.rule-index → (rule : Rule) → slice_get l.def.rules r ≡ Some rule → RuleFits rule l.shape l.fields
