use Rattle.std.proofs.Common.{◌≡◌, ◌<◌, ℕ, Some, slice_get}
use Rattle.mc_flow.specs.declared.defs.rules.Def.{Def}
use Rattle.mc_state_io.specs.Raw.Raw.{RulesFit}
use Rattle.mc_state_io.proofs.raw.fitting.contents_fit.Given as goal

abbrev pub invariant-loop-def : goal.invariant-loop-def
invariant-loop-def l = (p : ℕ) → p < l.def-index → (def : Def) → slice_get l.defs p ≡ Some def → RulesFit def l.shape l.fields
