-- Shapes among gaps.
use Rattle.std.proofs.Common.{◌≡◌, ◌∙◌, List, ◌∷◌, Option, Some, None, refl, sym, subst, ap, ◌⊎◌, inl, inr}
use Rattle.std.specs.Prelude.{◌↔◌, option_map}
use Rattle.mc_base.specs.declared.ids.NodeId.{NodeId}
use Rattle.mc_base.specs.declared.ids.PointId.{PointId}
use Rattle.mc_base.specs.declared.ids.PredId.{PredId}
use Rattle.mc_flow.specs.declared.defs.rules.Def.{Def}
use Rattle.mc_flow.specs.declared.graph.Flow.{Flow}
use Rattle.mc_flow.specs.declared.instr.Instr.{Instr}
use Rattle.mc_flow.specs.declared.instr.Instr.TheVariants.{AssertShape}
use Rattle.mc_flow.specs.declared.instr.Operand.{Operand}
use Rattle.mc_state.specs.Facts.{IsFalse}
use Rattle.mc_state.specs.State.{State}
use Rattle.mc_rules_steps.specs.declared.gap.Gap.{Gap}
use Rattle.mc_rules_steps.specs.declared.gap.Gap.TheVariants.{Uninit, NoBlock, Reached, NoShape, UninitField, NotEmpty}
use Rattle.mc_rules_steps.specs.JudgedLaws.{CausesAreOne}
use Rattle.mc_rules_steps.specs.Operands.{code_at}
use Rattle.mc_rules_steps.specs.Unmet.{AreKnown, IsGap, IsUnmet, Lacks, LacksShape}
use Rattle.mc_gaps.specs.Unmet.Laws.{IsNoShape}
use Rattle.mc_gaps.specs.Lacking.Lacking.{IsShape, IsShapeGap}

kind_of : (gap : Gap) → IsShape gap ⊎ IsNoShape gap
kind_of (Uninit x) = inr tt
kind_of (NoBlock n) = inr tt
kind_of Reached = inr tt
kind_of (NoShape pred n) = inl tt
kind_of (UninitField n f) = inr tt
kind_of (NotEmpty flag) = inr tt

-- ---- of an instruction

module _ (defs : List Def) (s : State) where
  -- an assertion lacks its own shape alone
  pub shape_told : (pred : PredId) (o : Operand) (os : List Operand) (q : PointId) (node : Option NodeId)
      → ((n : NodeId) → (node ≡ Some n) ↔ (AreKnown s (o ∷ os) × LacksShape defs s pred o os pred n))
      → (gap : Gap) → (option_map (NoShape pred) node ≡ Some gap) ↔ IsShapeGap defs (AssertShape pred o os q) s gap
  shape_told pred o os q node told gap = (from node told gap, to gap)
    where
      from : (node : Option NodeId) → ((n : NodeId) → (node ≡ Some n) ↔ (AreKnown s (o ∷ os) × LacksShape defs s pred o os pred n))
          → (gap : Gap) → option_map (NoShape pred) node ≡ Some gap → IsShapeGap defs (AssertShape pred o os q) s gap
      from None told gap e = absurd (cc e)
      from (Some n) told gap e =
          let same : NoShape pred n ≡ gap = cc e in
          subst (IsShapeGap defs (AssertShape pred o os q) s) same ((told n).0 refl, tt)

      to : (gap : Gap) → IsShapeGap defs (AssertShape pred o os q) s gap → option_map (NoShape pred) node ≡ Some gap
      to (Uninit x) l = absurd l.1
      to (NoBlock n) l = absurd l.1
      to Reached l = absurd l.1
      to (NoShape own n) l =
          let same : own ≡ pred = l.0.1.0 in
          ap (option_map (NoShape pred)) ((told n).1 (l.0.0, subst (λ (p : PredId). LacksShape defs s pred o os p n) same l.0.1)) ∙ ap (λ (p : PredId). Some (NoShape p n)) (sym same)
      to (UninitField n f) l = absurd l.1
      to (NotEmpty flag) l = absurd l.1

  -- another instruction lacks none
  pub no_shape : (code : Instr) → ((pred : PredId) (o : Operand) (os : List Operand) (q : PointId) → code ≡ AssertShape pred o os q → ⊥)
      → (gap : Gap) → (None ≡ Some gap) ↔ IsShapeGap defs code s gap
  no_shape code differs gap = (λ e. absurd (cc e), λ l. absurd (none gap l))
    where
      other : (code : Instr) → ((pred : PredId) (o : Operand) (os : List Operand) (q : PointId) → code ≡ AssertShape pred o os q → ⊥) → (pred : PredId) (n : NodeId) → Lacks defs code s (NoShape pred n) → ⊥
      other (AssertShape pred o os q) differs own n l = differs pred o os q refl
      other code differs own n l = l

      none : (gap : Gap) → IsShapeGap defs code s gap → ⊥
      none (Uninit x) l = l.1
      none (NoBlock n) l = l.1
      none Reached l = l.1
      none (NoShape pred n) l = other code differs pred n l.0.1
      none (UninitField n f) l = l.1
      none (NotEmpty flag) l = l.1

-- ---- at a point

module _ (flow : Flow) (defs : List Def) (p : PointId) (s : State) where
  -- what is unmet by another cause than a shape is known
  pub told : CausesAreOne → (own : Option Gap) → ((gap : Gap) → (own ≡ Some gap) ↔ (IsUnmet flow defs p s gap × IsNoShape gap))
      → (g : Gap) → own ≡ Some g → (gap : Gap) → (Some g ≡ Some gap) ↔ IsUnmet flow defs p s gap
  told once own tells g is gap =
      let here = ((tells g).0 is).0 in
      (λ e. let same : g ≡ gap = cc e in subst (IsUnmet flow defs p s) same here, λ u. ap (λ (k : Gap). Some k) (once flow defs p s g gap here u))

  -- where none is known, what is unmet lacks a shape
  pub shape_left : (own : Option Gap) → ((gap : Gap) → (own ≡ Some gap) ↔ (IsUnmet flow defs p s gap × IsNoShape gap)) → own ≡ None → (gap : Gap) → IsUnmet flow defs p s gap → IsShape gap
  shape_left own tells is gap u = elim (kind_of gap) [ inl shape ↦ shape | inr plain ↦ absurd (let there = (tells gap).1 (u, plain) in cc) ]

  pub shapes_left : (own : Option Gap) → ((gap : Gap) → (own ≡ Some gap) ↔ (IsUnmet flow defs p s gap × IsNoShape gap)) → own ≡ None
      → (found : Option Gap) → ((gap : Gap) → (found ≡ Some gap) ↔ (IsUnmet flow defs p s gap × IsShape gap)) → (gap : Gap) → (found ≡ Some gap) ↔ IsUnmet flow defs p s gap
  shapes_left own tells is found shapes gap = (λ e. ((shapes gap).0 e).0, λ u. (shapes gap).1 (u, shape_left own tells is gap u))

  pub none_at_false : IsFalse s → (gap : Gap) → (None ≡ Some gap) ↔ (IsUnmet flow defs p s gap × IsShape gap)
  none_at_false contradicts gap = (λ e. absurd (cc e), λ u. absurd (u.0.consistent contradicts))

  pub none_at_no_point : code_at flow p ≡ None → (gap : Gap) → (None ≡ Some gap) ↔ (IsUnmet flow defs p s gap × IsShape gap)
  none_at_no_point is gap = (λ e. absurd (cc e), λ u. absurd (let at = u.0.at in cc))

  pub shape_at : (IsFalse s → ⊥) → (code : Instr) → code_at flow p ≡ Some code → (found : Option Gap) → ((gap : Gap) → (found ≡ Some gap) ↔ IsShapeGap defs code s gap)
      → (gap : Gap) → (found ≡ Some gap) ↔ (IsUnmet flow defs p s gap × IsShape gap)
  shape_at sound code at found shapes gap = (from, to)
    where
      from : found ≡ Some gap → IsUnmet flow defs p s gap × IsShape gap
      from e = let l = (shapes gap).0 e in (record { consistent = sound; code = code; at = at; lacks = l.0 }, l.1)

      to : IsUnmet flow defs p s gap × IsShape gap → found ≡ Some gap
      to u = let same : u.0.code ≡ code = let own = u.0.at in cc in (shapes gap).1 (subst (λ (i : Instr). IsGap defs i s gap) same u.0.lacks, u.1)
