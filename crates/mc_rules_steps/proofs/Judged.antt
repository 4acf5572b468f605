-- Each rule of instructions is judged by its instances.
use Rattle.std.proofs.Common.{◌≡◌, inl, inr, List}
use Rattle.std.specs.Prelude.{Ok}
use Rattle.mc_base.specs.declared.ids.PointId.{PointId}
use Rattle.mc_flow.specs.declared.defs.rules.Def.{Def}
use Rattle.mc_flow.specs.declared.graph.Flow.{Flow}
use Rattle.mc_state.specs.Known.{Test}
use Rattle.mc_state.proofs.Numbered.{judged_unmet, given_or_unmet}
use Rattle.mc_pure.specs.Laws.{BlocksAtOneNode}
use Rattle.mc_state.specs.declared.line.InstrRule.{InstrRule}
use Rattle.mc_state.specs.declared.line.InstrRule.TheVariants as rule
use Rattle.mc_state.specs.State.{State}
use Rattle.mc_rules_steps.specs.Next.{Next}
use Rattle.mc_rules_steps.specs.Judges.{stepping}
use Rattle.mc_rules_steps.specs.JudgedLaws.{AreGiven, StepsAreJudged, StepsAreDecided}
use Rattle.mc_rules_steps.specs.Steps.{StepIs}
use Rattle.mc_rules_steps.specs.Sums.{Ranges}
use Rattle.mc_rules_steps.proofs.JudgedMoves.{skip_from, skip_to, copy_from, copy_to, undef_from, undef_to, input_from, input_to, malloc_from, malloc_to, equal_from, equal_to, assume_from, assume_to, assert_from, assert_to, end_from, end_to, empty_from, empty_to}
use Rattle.mc_rules_steps.proofs.JudgedBlocks.{load_from, load_to, store_from, store_to, null_from, null_to, free_from, free_to}
use Rattle.mc_rules_steps.proofs.LowerLaws.{MadeLaws}
use Rattle.mc_rules_steps.proofs.JudgedSums.{add_from, add_to, sub_from, sub_to, mul_from, mul_to, at_most_from, at_most_to}

module _ (law : BlocksAtOneNode) (laws : MadeLaws) where
  from : (know : Test) (range : Ranges) (flow : Flow) (defs : List Def) (r : InstrRule) (p : PointId) (s : State) (next : List Next) → AreGiven know range flow defs p s → stepping know range flow r p s ≡ Ok next → StepIs r flow p s next
  from know range flow defs rule.S1 p s next g e = skip_from know flow p s g.tells next e
  from know range flow defs rule.S2 p s next g e = copy_from know flow p s g.tells next e
  from know range flow defs rule.S3 p s next g e = undef_from know flow p s g.tells next e
  from know range flow defs rule.S4 p s next g e = input_from know flow p s g.tells next e
  from know range flow defs rule.S5 p s next g e = add_from laws know range flow defs p s g.valid g.made g.tells g.ranges next e
  from know range flow defs rule.S6 p s next g e = sub_from laws know range flow defs p s g.valid g.made g.tells g.ranges next e
  from know range flow defs rule.S7 p s next g e = mul_from laws know range flow defs p s g.valid g.made g.tells g.ranges next e
  from know range flow defs rule.S8 p s next g e = load_from law know flow defs p s g.valid g.made g.tells next e
  from know range flow defs rule.S9 p s next g e = store_from law know flow defs p s g.valid g.made g.tells next e
  from know range flow defs rule.S10 p s next g e = malloc_from know flow p s g.tells next e
  from know range flow defs rule.S11 p s next g e = null_from law know flow defs p s g.valid g.made g.tells next e
  from know range flow defs rule.S12 p s next g e = free_from law know flow defs p s g.valid g.made g.tells next e
  from know range flow defs rule.S13 p s next g e = equal_from know flow p s g.tells next e
  from know range flow defs rule.S14 p s next g e = at_most_from laws know range flow defs p s g.valid g.made g.tells g.ranges next e
  from know range flow defs rule.S15 p s next g e = assume_from know flow p s g.tells next e
  from know range flow defs rule.S16 p s next g e = assert_from know flow p s g.tells next e
  from know range flow defs rule.S17 p s next g e = end_from know flow p s g.tells next e
  from know range flow defs rule.S18 p s next g e = empty_from know flow p s g.tells next e

  to : (know : Test) (range : Ranges) (flow : Flow) (defs : List Def) (r : InstrRule) (p : PointId) (s : State) (next : List Next) → AreGiven know range flow defs p s → StepIs r flow p s next → stepping know range flow r p s ≡ Ok next
  to know range flow defs rule.S1 p s next g i = skip_to know flow p s g.tells next i
  to know range flow defs rule.S2 p s next g i = copy_to know flow p s g.tells next i
  to know range flow defs rule.S3 p s next g i = undef_to know flow p s g.tells next i
  to know range flow defs rule.S4 p s next g i = input_to know flow p s g.tells next i
  to know range flow defs rule.S5 p s next g i = add_to laws know range flow defs p s g.valid g.made g.tells g.ranges next i
  to know range flow defs rule.S6 p s next g i = sub_to laws know range flow defs p s g.valid g.made g.tells g.ranges next i
  to know range flow defs rule.S7 p s next g i = mul_to laws know range flow defs p s g.valid g.made g.tells g.ranges next i
  to know range flow defs rule.S8 p s next g i = load_to law know flow defs p s g.valid g.made g.tells next i
  to know range flow defs rule.S9 p s next g i = store_to law know flow defs p s g.valid g.made g.tells next i
  to know range flow defs rule.S10 p s next g i = malloc_to know flow p s g.tells next i
  to know range flow defs rule.S11 p s next g i = null_to law know flow defs p s g.valid g.made g.tells next i
  to know range flow defs rule.S12 p s next g i = free_to law know flow defs p s g.valid g.made g.tells next i
  to know range flow defs rule.S13 p s next g i = equal_to know flow p s g.tells next i
  to know range flow defs rule.S14 p s next g i = at_most_to laws know range flow defs p s g.valid g.made g.tells g.ranges next i
  to know range flow defs rule.S15 p s next g i = assume_to know flow p s g.tells next i
  to know range flow defs rule.S16 p s next g i = assert_to know flow p s g.tells next i
  to know range flow defs rule.S17 p s next g i = end_to know flow p s g.tells next i
  to know range flow defs rule.S18 p s next g i = empty_to know flow p s g.tells next i

  pub steps_are_judged : StepsAreJudged
  steps_are_judged know range flow defs r p s g next = (from know range flow defs r p s next g, to know range flow defs r p s next g)

  pub steps_are_decided : StepsAreDecided
  steps_are_decided know range flow defs r p s g =
      let tie = steps_are_judged know range flow defs r p s g in
      elim (given_or_unmet (stepping know range flow r p s)) [
        | inl given ↦ inl (given.0, (tie given.0).0 given.1)
        | inr unmet ↦ inr (unmet.0, unmet.1, judged_unmet (stepping know range flow r p s) (StepIs r flow p s) tie unmet.0 unmet.1)
      ]
