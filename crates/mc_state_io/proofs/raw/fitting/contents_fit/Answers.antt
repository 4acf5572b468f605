use Rattle.std.proofs.Common.{◌≡◌, true, false, refl, arith}
use Rattle.mc_flow.specs.declared.defs.rules.Def.{Def}
use Rattle.mc_state_io.specs.Raw.Raw.{RulesFit}
use Rattle.mc_state.proofs.Lists.{each_all}
use Rattle.mc_state_io.proofs.RawLemmas.Items.{named_here, named_more}
use Rattle.mc_state_io.proofs.raw.fitting.contents_fit.Goals as goal

pub returns-then-not-rules_fit : goal.returns-then-not-rules_fit
returns-then-not-rules_fit c = (
  λ t. let w : false ≡ true = t in absurd (cc w),
  λ all. let w = c.if-not-rules_fit.ensures.1 (named_here (λ (d : Def). RulesFit d c.args.shape c.args.fields) c.args.defs.now _ refl c.loop-def.def-index c.def-item.result (omega arith) c.def-item.is all) in absurd (cc w),
)

pub loop-def-preserved : goal.loop-def-preserved
loop-def-preserved c = named_more (λ (d : Def). RulesFit d c.args.shape c.args.fields) c.args.defs.now _ refl c.loop-def.def-index c.def-item.result (omega arith) c.def-item.is c.loop-def.invariant (c.if-not-rules_fit.ensures.0 refl)

pub returns : goal.returns
returns c = (λ t. each_all (λ (d : Def). RulesFit d c.args.shape c.args.fields) c.args.defs.now _ refl c.loop-def.def-index (omega arith) c.loop-def.invariant, λ all. refl)
