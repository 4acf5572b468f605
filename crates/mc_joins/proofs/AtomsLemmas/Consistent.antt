-- Where two states are not false, nor are those of their join.
use Rattle.std.proofs.Common.{◌≡◌, List, [], ◌∷◌, Some, subst, inl, inr, arith}
use Rattle.mc_base.specs.declared.plain.Kind.{Kind}
use Rattle.mc_base.specs.declared.plain.VarInfo.{VarInfo}
use Rattle.mc_flow.specs.declared.defs.rules.Def.{Def}
use Rattle.mc_flow.specs.declared.defs.shapes.StructInfo.{StructInfo}
use Rattle.mc_pure.specs.Pure.{IsNode}
use Rattle.mc_pure.specs.Derived.{Follows}
use Rattle.mc_state.specs.Facts.{IsFalse}
use Rattle.mc_state.specs.Fits.{IsWellMade}
use Rattle.mc_state.specs.Known.{Test}
use Rattle.mc_state.specs.Laws.{NodesAreBelow}
use Rattle.mc_state.specs.State.{State, next_node, pure_of}
use Rattle.mc_state.specs.declared.line.JoinStep.{JoinStep}
use Rattle.mc_state.specs.declared.terms.Term.{Term}
use Rattle.mc_rules_logic.specs.Fold.Changed.{NamesSpare}
use Rattle.mc_rules_logic.specs.Fold.JudgedLaws.{SpareIsJudged}
use Rattle.mc_rules_logic.specs.Fold.MadeLaws.{SpareStaysMade}
use Rattle.mc_kernel.proofs.OracleLemmas.Known.{made_rises, made_fits}
use Rattle.mc_joins.specs.Joinings.{Joining, begun}
use Rattle.mc_joins.specs.Laws.{KnowsMade}
use Rattle.mc_joins.specs.Parts.{Basis, Named, spare_node}
use Rattle.mc_joins.specs.Steps.{after_steps}
use Rattle.mc_joins.proofs.AtomsLemmas.Joint.{ListLaws, form_of}
use Rattle.mc_joins.proofs.AtomsLemmas.Naming.{stays_true}
use Rattle.mc_joins.proofs.Keeping.{steps_kept}
use Rattle.mc_joins.proofs.Steady.{spare_names}

-- the laws on which it rests
pub record KnownLaws : Type 0 where
  pub lists : ListLaws
  pub judged : SpareIsJudged
  pub stays : SpareStaysMade
  pub below : NodesAreBelow

-- well made, and not false
abbrev pub IsGood : List Def → List VarInfo → List StructInfo → State → Type 0
IsGood defs vars structs s = IsWellMade defs vars structs s × (IsFalse s → ⊥)

module _ (laws : KnownLaws) (defs : List Def) (vars : List VarInfo) (structs : List StructInfo) (know : State → Test) (tells : KnowsMade defs vars structs know) where
  abbrev basis : Basis
  basis = record { know = know; defs = defs }

  abbrev Good : State → Type 0
  Good s = IsGood defs vars structs s

  fresh : (s : State) → IsWellMade defs vars structs s → IsNode s.kinds (next_node s) → ⊥
  fresh s made there = let less = laws.below s (next_node s) made.bounded there in omega arith

  name_true : (s : State) (kind : Kind) (t : Term) (after : State) → Good s → NamesSpare t.node t.add kind s (after ∷ []) → IsFalse after → ⊥
  name_true s kind t after g i wrong =
      let normal = form_of laws.lists (pure_of s) (made_rises defs vars structs s g.0) (made_fits defs vars structs s g.0) g.1 in
      let lies : Follows (pure_of s) _ = elim i.lies [ inl d ↦ d | inr false_is ↦ absurd (g.1 false_is) ] in
      stays_true laws.lists.says laws.lists.grows (pure_of s) normal.nf normal.normal (next_node s) (fresh s g.0) t.node i.there t.add kind lies (subst IsFalse (head i.gives) wrong)
    where
      head : {a b : State} → (a ∷ []) ≡ (b ∷ []) → a ≡ b
      head e = cc

  spare_good : (s : State) (kind : Kind) (t : Term) (n : Named) → Good s → spare_node basis s kind t ≡ Some n → Good n.state
  spare_good s kind t n g e =
      let i = spare_names laws.judged laws.stays defs vars structs know tells s kind t n g.0 e in
      ((laws.stays defs vars structs t.node t.add kind s (n.state ∷ []) i g.0).0, name_true s kind t n.state g i)

  pub both_good : (left right : State) (steps : List JoinStep) (last : Joining) → Good left → Good right → after_steps basis (begun left right) steps ≡ Some last → Good last.left.state × Good last.right.state
  both_good left right steps last l r e = steps_kept basis Good spare_good steps (begun left right) last l r e
