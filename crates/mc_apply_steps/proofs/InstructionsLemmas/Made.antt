-- Shapes that are made, and what rules of shapes give.
use Rattle.std.proofs.Common.{◌≡◌, List, [], ◌∷◌, Option, Some, None, false, refl, sym, subst}
use Rattle.std.specs.Prelude.{Ok, Err, is_some}
use Rattle.mc_base.specs.declared.ids.NodeId.{NodeId}
use Rattle.mc_base.specs.declared.ids.PointId.{PointId}
use Rattle.mc_base.specs.declared.ids.PredId.{PredId}
use Rattle.mc_base.specs.declared.ids.VarId.{VarId}
use Rattle.mc_base.specs.declared.plain.Kind.TheVariants.{Ptr}
use Rattle.mc_flow.specs.declared.instr.Instr.TheVariants.{AssumeShape, AssertShape}
use Rattle.mc_flow.specs.declared.instr.Operand.{Operand}
use Rattle.mc_state.specs.Known.{Test, is_false}
use Rattle.mc_pure.specs.Pure.{IsNode}
use Rattle.mc_state.specs.Fits.{AreNodes, IsBounded}
use Rattle.mc_state.specs.Laws.{NewNodesHaveKinds}
use Rattle.mc_state.specs.State.{State, next_node, with_nodes, with_var}
use Rattle.mc_rules_steps.specs.Judges.{asserting, assuming, operand_nodes, side_branch, with_shape}
use Rattle.mc_rules_steps.specs.Operands.{operand_node, with_operand, with_operands}
use Rattle.mc_rules_steps.specs.Steps.{moved_to}
use Rattle.mc_apply_steps.proofs.InstructionsLemmas.Knowing.{nodes_grow}

-- the new node is there, and those that were stay
pub shape_there : NewNodesHaveKinds → (s t : State) (at : NodeId) (args : List NodeId) → IsBounded s → t ≡ with_nodes s (Ptr ∷ []) → at ≡ next_node s
    → AreNodes s.kinds args → IsNode t.kinds at × AreNodes t.kinds args
shape_there law s t at args b is own there =
    let new = law s (Ptr ∷ []) b in
    let here : IsNode (with_nodes s (Ptr ∷ [])).kinds at = subst (λ (n : NodeId). IsNode (with_nodes s (Ptr ∷ [])).kinds n) (sym own) (Ptr, new.0.0) in
    let others = nodes_grow s.kinds (with_nodes s (Ptr ∷ [])).kinds args (λ n has. (has.0, new.1 has.0 n has.1)) there in
    subst (λ (u : State). IsNode u.kinds at × AreNodes u.kinds args) (sym is) (here, others)

pub none_of : {A : Type 0} (o : Option A) → is_some o ≡ false → o ≡ None
none_of None e = refl
none_of (Some x) e = absurd (cc e)

module _ (know : Test) (s : State) (no : is_false know ≡ false) (os : List Operand) (q : PointId) (pred : PredId) where
  pub assumed : (x : VarId) (args : List NodeId) → operand_nodes s os ≡ Some args
      → assuming know (Some (AssumeShape pred x os q)) s ≡ Ok (moved_to q (with_var (with_shape pred args (with_operands s os)) x (Some (next_node (with_operands s os)))) ∷ [])
  assumed x args known = rw (no, known)

  pub not_assumed : (x : VarId) → operand_nodes s os ≡ None → assuming know (Some (AssumeShape pred x os q)) s ≡ Err 3
  not_assumed x unknown = rw (no, unknown)

  pub asserted : (p : PointId) (o : Operand) (n : NodeId) (args : List NodeId) → operand_node s o ≡ Some n → operand_nodes (with_operand s o) os ≡ Some args
      → asserting know p (Some (AssertShape pred o os q)) s ≡ Ok (side_branch p pred n args (with_operands (with_operand s o) os) ∷ moved_to q s ∷ [])
  asserted p o n args known others = rw (no, known, others)

  pub not_asserted : (p : PointId) (o : Operand) (n : NodeId) → operand_node s o ≡ Some n → operand_nodes (with_operand s o) os ≡ None
      → asserting know p (Some (AssertShape pred o os q)) s ≡ Err 4
  not_asserted p o n known unknown = rw (no, known, unknown)
