-- Operands that are known have nodes.
use Rattle.std.proofs.Common.{◌≡◌, Bool, true, false, List, [], ◌∷◌, Option, Some, None, pos, refl, ap, ◌∙◌}
use Rattle.std.specs.Prelude.{is_some, if◌then◌else◌}
use Rattle.std.specs.Ordering.{int_eq}
use Rattle.mc_base.specs.declared.ids.NodeId.{NodeId}
use Rattle.mc_base.specs.declared.ids.VarId.{VarId}
use Rattle.mc_flow.specs.declared.instr.Operand.{Operand}
use Rattle.mc_flow.specs.declared.instr.Operand.TheVariants.{Var, Const}
use Rattle.mc_state.specs.State.{State, var_node, with_number}
use Rattle.mc_rules_steps.specs.Judges.{operand_nodes, with_first}
use Rattle.mc_rules_steps.specs.Operands.{operand_node, with_operand}
use Rattle.mc_gaps.specs.Unmet.Gaps.{first_unknown}

-- the operand has a node
abbrev pub HasNode : State → Operand → Type 0
HasNode s o = (n : NodeId) × (operand_node s o ≡ Some n)

-- the first operand is known, and so are the others
pub first_known : (s : State) (o : Operand) (os : List Operand) → first_unknown s (o ∷ os) ≡ None → HasNode s o × (first_unknown s os ≡ None)
first_known s (Const c) os e = ((_, refl), e)
first_known s (Var y) os e = at (var_node s y) refl e
  where
    at : (n : Option NodeId) → var_node s y ≡ n → (if is_some n then first_unknown s os else Some y) ≡ None → HasNode s (Var y) × (first_unknown s os ≡ None)
    at None is e = absurd (cc e)
    at (Some n) is e = ((n, is), e)

-- variables keep their nodes where an operand's is put in
same_vars : (s : State) (o : Operand) (y : VarId) → var_node (with_operand s o) y ≡ var_node s y
same_vars s (Var x) y = refl
same_vars s (Const c) y = at (int_eq c (pos 0))
  where
    at : (zero : Bool) → var_node (if zero then s else with_number s c) y ≡ var_node s y
    at true = refl
    at false = refl

-- so the same operands are known
same_unknown : (s t : State) → ((y : VarId) → var_node t y ≡ var_node s y) → (os : List Operand) → first_unknown t os ≡ first_unknown s os
same_unknown s t same [] = refl
same_unknown s t same (Const c ∷ os) = same_unknown s t same os
same_unknown s t same (Var y ∷ os) =
    ap (λ (n : Option NodeId). if is_some n then first_unknown t os else Some y) (same y)
    ∙ ap (λ (x : Option VarId). if is_some (var_node s y) then x else Some y) (same_unknown s t same os)

pub still_known : (s : State) (o : Operand) (os : List Operand) → first_unknown s os ≡ None → first_unknown (with_operand s o) os ≡ None
still_known s o os e = same_unknown s (with_operand s o) (same_vars s o) os ∙ e

-- two operands that are known, the second in the state with the first one's node
pub two_known : (s : State) (o o' : Operand) → first_unknown s (o ∷ o' ∷ []) ≡ None → HasNode s o × HasNode (with_operand s o) o'
two_known s o o' e =
    let one = first_known s o (o' ∷ []) e in
    (one.0, (first_known (with_operand s o) o' [] (still_known s o (o' ∷ []) one.1)).0)

-- all of a list
pub all_known : (s : State) (os : List Operand) → first_unknown s os ≡ None → (ns : List NodeId) × (operand_nodes s os ≡ Some ns)
all_known s [] e = ([], refl)
all_known s (o ∷ os) e =
    let one = first_known s o os e in
    let rest = all_known (with_operand s o) os (still_known s o os one.1) in (
      one.0.0 ∷ rest.0,
      ap (λ (n : Option NodeId). with_first n (operand_nodes (with_operand s o) os)) one.0.1
          ∙ ap (λ (ns : Option (List NodeId)). with_first (Some one.0.0) ns) rest.1,
    )
