-- A right judge.
use Rattle.std.proofs.Common.{◌≡◌, ◌↔◌, inl, inr, Bool, List, Option, Some, None}
use Rattle.mc_base.specs.declared.ids.PointId.{PointId}
use Rattle.mc_cover.specs.Laws.{NoFirstNoCover}
use Rattle.mc_flow.specs.declared.defs.rules.Def.{Def}
use Rattle.mc_flow.specs.declared.graph.Flow.{Flow}
use Rattle.mc_flow.specs.Valid.{IsValid}
use Rattle.mc_kernel.specs.Branches.{Path}
use Rattle.mc_kernel.specs.JudgedLaws.{IsAsked}
use Rattle.mc_kernel.specs.Judges.{Knowledge}
use Rattle.mc_rules_logic.specs.Listed.Lists.{ListsAreThere}
use Rattle.mc_pure.specs.Classes.{EachHasNormalForm, EachIsDecided, NormalSaysAll}
use Rattle.mc_kernel.specs.Reading.Documents.{IsJudge, IsMade as IsMadePath}
use Rattle.mc_state.specs.declared.raw_state.RawState.{RawState}
use Rattle.mc_state.specs.State.{State}
use Rattle.mc_rules_steps.specs.declared.gap.Gap.{Gap}
use Rattle.mc_rules_steps.specs.Fitting.{OperandFits, OperandsFit}
use Rattle.mc_rules_steps.specs.JudgedLaws.{CausesAreOne, OperandsKeepSound}
use Rattle.mc_rules_steps.specs.Unmet.{IsUnmet}
use Rattle.mc_gaps.specs.Unmet.Laws.{GapsAreTold}
use Rattle.mc_kernel.proofs.OracleLemmas.Decided.{Or, holds, holds_tells}
use Rattle.mc_kernel.proofs.OracleLemmas.MadeOr.{made_or, formed_or}
use Rattle.mc_kernel.proofs.OracleLemmas.Known.{Made, know, know_tells, left, left_is}
use Rattle.mc_kernel.proofs.OracleLemmas.Lacking.{Answer, answer}
use Rattle.mc_kernel.proofs.OracleLemmas.Ranged.{range, have_ranges}

module _ (decided : EachIsDecided) (normal : EachHasNormalForm) (law : NormalSaysAll) (lists : ListsAreThere) (told : GapsAreTold) (one : CausesAreOne)
    (covers : NoFirstNoCover) (fits : OperandFits) (all_fit : OperandsFit) (sound : OperandsKeepSound) (flow : Flow) (defs : List Def) (valid : IsValid flow defs) where
  abbrev MadeHere : State → Type 0
  MadeHere s = Made defs flow.vars flow.structs.list s

  abbrev made_here : (s : State) → Or (MadeHere s)
  made_here s = made_or defs flow.vars flow.structs.list s

  the_answer : (p : PointId) (s : State) → MadeHere s → Answer flow defs valid (know defs flow.vars flow.structs.list decided lists) (know_tells defs flow.vars flow.structs.list decided lists) told one covers fits all_fit p s
  the_answer p s m = answer flow defs valid (know defs flow.vars flow.structs.list decided lists) (know_tells defs flow.vars flow.structs.list decided lists) told one covers fits all_fit p s m

  gap_by : (p : PointId) (s : State) → Or (MadeHere s) → Option Gap
  gap_by p s (inl m) = (the_answer p s m).0
  gap_by p s (inr never) = None

  gap_tells : (p : PointId) (s : State) (o : Or (MadeHere s)) → MadeHere s → (gap : Gap) → (gap_by p s o ≡ Some gap) ↔ IsUnmet flow defs p s gap
  unfolding gap_by
  gap_tells p s (inl m) made gap = (the_answer p s m).1 gap
  gap_tells p s (inr never) made gap = absurd (never made)

  knowledge : Knowledge
  knowledge = record {
    know = know defs flow.vars flow.structs.list decided lists;
    range = range defs flow.vars flow.structs.list normal law;
    left = left defs flow.vars flow.structs.list decided lists;
    gap = λ p s. gap_by p s (made_here s);
  }

  well : RawState → Bool
  well raw = holds (formed_or defs flow.vars flow.structs.list raw)

  is_asked : (b : Path) → IsMadePath flow defs b → IsAsked knowledge flow defs b
  unfolding knowledge
  is_asked b m = record {
    given = record {
      valid = valid;
      made = m;
      tells = know_tells defs flow.vars flow.structs.list decided lists b.state m;
      ranges = have_ranges flow defs valid normal law fits sound b.point b.state m;
    };
    left = λ node. left_is defs flow.vars flow.structs.list decided lists b.state node m;
    gap = gap_tells b.point b.state (made_here b.state) m;
  }

  pub judge : (k : Knowledge) × (w : RawState → Bool) × IsJudge k w flow defs
  unfolding well
  judge = (knowledge, well, record { asked = is_asked; formed = λ raw. holds_tells (formed_or defs flow.vars flow.structs.list raw) })
