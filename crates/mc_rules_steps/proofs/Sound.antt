-- The rules of instructions are sound.
use Rattle.std.proofs.Common.{List}
use Rattle.mc_base.specs.declared.ids.PointId.{PointId}
use Rattle.mc_flow.specs.declared.defs.rules.Def.{Def}
use Rattle.mc_flow.specs.declared.graph.Flow.{Flow}
use Rattle.mc_state.specs.State.{State}
use Rattle.mc_rules_steps.specs.Next.{Next}
use Rattle.mc_state.specs.declared.line.InstrRule.TheVariants as rule
use Rattle.mc_rules_steps.specs.Laws.{IsStep, StepsAreSound}
use Rattle.mc_rules_steps.proofs.LowerLaws.{StepLaws}
use Rattle.mc_rules_steps.proofs.Blocks.{s8_sound, s9_sound, s10_sound, s11_sound, s12_sound}
use Rattle.mc_rules_steps.proofs.Moving.{IsSoundAt, s1_sound, s2_sound, s3_sound, s17_sound}
use Rattle.mc_rules_steps.proofs.Numbers.{s4_sound, s5_sound, s6_sound, s7_sound}
use Rattle.mc_rules_steps.proofs.Shapes.{s15_sound, s16_sound, s18_sound}
use Rattle.mc_rules_steps.proofs.Tests.{s13_sound, s14_sound}

module _ (laws : StepLaws) where
  step_sound : (flow : Flow) (defs : List Def) (p : PointId) (s : State) (next : List Next) → IsStep flow p s next → IsSoundAt flow defs p s next
  step_sound flow defs p s next (rule.S1, i) = s1_sound laws defs flow p s next i
  step_sound flow defs p s next (rule.S2, i) = s2_sound laws defs flow p s next i
  step_sound flow defs p s next (rule.S3, i) = s3_sound laws defs flow p s next i
  step_sound flow defs p s next (rule.S4, i) = s4_sound laws defs flow p s next i
  step_sound flow defs p s next (rule.S5, i) = s5_sound laws defs flow p s next i
  step_sound flow defs p s next (rule.S6, i) = s6_sound laws defs flow p s next i
  step_sound flow defs p s next (rule.S7, i) = s7_sound laws defs flow p s next i
  step_sound flow defs p s next (rule.S8, i) = s8_sound laws defs flow p s next i
  step_sound flow defs p s next (rule.S9, i) = s9_sound laws defs flow p s next i
  step_sound flow defs p s next (rule.S10, i) = s10_sound laws defs flow p s next i
  step_sound flow defs p s next (rule.S11, i) = s11_sound laws defs flow p s next i
  step_sound flow defs p s next (rule.S12, i) = s12_sound laws defs flow p s next i
  step_sound flow defs p s next (rule.S13, i) = s13_sound laws defs flow p s next i
  step_sound flow defs p s next (rule.S14, i) = s14_sound laws defs flow p s next i
  step_sound flow defs p s next (rule.S15, i) = s15_sound laws defs flow p s next i
  step_sound flow defs p s next (rule.S16, i) = s16_sound laws defs flow p s next i
  step_sound flow defs p s next (rule.S17, i) = s17_sound laws defs flow p s next i
  step_sound flow defs p s next (rule.S18, i) = s18_sound laws defs flow p s next i

  pub steps_are_sound : StepsAreSound
  steps_are_sound flow defs p s next v c choices r valid bounded step at sides goes = step_sound flow defs p s next step v c choices r valid bounded at sides goes
