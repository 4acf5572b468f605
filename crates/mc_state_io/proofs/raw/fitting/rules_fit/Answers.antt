use Rattle.std.proofs.Common.{◌≡◌, true, false, refl, arith}
use Rattle.mc_flow.specs.declared.defs.rules.Rule.{Rule}
use Rattle.mc_state_io.specs.Raw.Raw.{RuleFits}
use Rattle.mc_state.proofs.Lists.{each_all}
use Rattle.mc_state_io.proofs.RawLemmas.Items.{named_here, named_more}
use Rattle.mc_state_io.proofs.raw.fitting.rules_fit.Goals as goal

pub returns-then-not-rule_fits : goal.returns-then-not-rule_fits
returns-then-not-rule_fits c = (
  λ t. let w : false ≡ true = t in absurd (cc w),
  λ all. let w = c.if-not-rule_fits.ensures.1 (named_here (λ (r : Rule). RuleFits r c.args.shape c.args.fields) c.as_slice-rule-items.result.now _ c.as_slice-rule-items.ensures c.loop-rule.rule-index c.rule-item.result (omega arith) c.rule-item.is all) in absurd (cc w),
)

pub loop-rule-preserved : goal.loop-rule-preserved
loop-rule-preserved c = named_more (λ (r : Rule). RuleFits r c.args.shape c.args.fields) c.as_slice-rule-items.result.now _ c.as_slice-rule-items.ensures c.loop-rule.rule-index c.rule-item.result (omega arith) c.rule-item.is c.loop-rule.invariant (c.if-not-rule_fits.ensures.0 refl)

pub returns : goal.returns
returns c = (λ t. each_all (λ (r : Rule). RuleFits r c.args.shape c.args.fields) c.as_slice-rule-items.result.now _ c.as_slice-rule-items.ensures c.loop-rule.rule-index (omega arith) c.loop-rule.invariant, λ all. refl)
