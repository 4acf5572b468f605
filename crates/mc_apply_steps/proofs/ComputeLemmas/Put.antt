-- Least ranges are one, and values are put.
use Rattle.std.proofs.Common.{◌≡◌, ◌∙◌, List, [], ◌∷◌, false, Some, sym, subst, ap, ap₂}
use Rattle.std.specs.Prelude.{Ok}
use Rattle.mc_base.specs.declared.ids.NodeId.{NodeId}
use Rattle.mc_base.specs.declared.ids.PointId.{PointId}
use Rattle.mc_base.specs.declared.ids.VarId.{VarId}
use Rattle.mc_base.specs.declared.plain.Kind.TheVariants.{Int}
use Rattle.mc_base.specs.declared.plain.VarInfo.{VarInfo}
use Rattle.mc_flow.specs.declared.defs.rules.Def.{Def}
use Rattle.mc_flow.specs.declared.defs.shapes.StructInfo.{StructInfo}
use Rattle.mc_flow.specs.declared.instr.Instr.TheVariants.{TestLe}
use Rattle.mc_flow.specs.declared.instr.Operand.{Operand}
use Rattle.mc_flow.specs.Valid.{IsOperand}
use Rattle.mc_state.specs.Known.{Test, is_false}
use Rattle.mc_pure.specs.Derived.{HasRange}
use Rattle.mc_pure.specs.Pure.{HasKind}
use Rattle.mc_base.specs.declared.ranges.Range.{Range}
use Rattle.mc_state.specs.Facts.{IsFalse}
use Rattle.mc_state.specs.Fits.{IsWellMade}
use Rattle.mc_state.specs.State.{State, pure_of, with_atoms}
use Rattle.mc_rules_steps.specs.Fitting.{HasOperand, OperandFits, ends_of}
use Rattle.mc_rules_steps.specs.JudgedLaws.{LeastRangeIsOne, OperandsKeepSound}
use Rattle.mc_rules_steps.specs.Judges.{computing, testing_at_most}
use Rattle.mc_rules_steps.specs.Operands.{operand_node, with_operand}
use Rattle.mc_rules_steps.specs.Steps.{moved_to}
use Rattle.mc_rules_steps.specs.Sums.{AreLeast, Ends, IsLeast, Operation, Ranges, above_atoms, at_most_atoms, with_result}
use Rattle.mc_apply_steps.specs.Step.Values.{IsRead, StaysRead, value_node, with_value}
use Rattle.mc_apply_steps.specs.declared.step.operands.Value.{Value}

-- a least range is the one that is given
pub same_range : LeastRangeIsOne → (range : Ranges) (s : State) (n : NodeId) (own : Range) → HasRange (pure_of s) n own.lo own.hi → IsLeast range s n → ends_of own ≡ range s n
same_range law range s n own has is =
    let both = law (pure_of s) n own.lo own.hi (range s n).lo (range s n).hi has is in
    ap₂ (λ a b. record { lo = a; hi = b }) both.0 both.1

-- what holds of a state and two nodes holds of the same
pub carried : (P : State → NodeId → NodeId → Type 0) (s t : State) (a c b d : NodeId) → s ≡ t → a ≡ c → b ≡ d → P s a b → P t c d
carried P s t a c b d e f g p = subst (λ (u : State). P u c d) e (subst (λ (n : NodeId). P s n d) f (subst (λ (n : NodeId). P s a n) g p))

-- the ranges of two values that were read are the least
pub record AreLeastOf (range : Ranges) (s : State) (a b : NodeId) : Type 0 where
  pub left : IsLeast range s a
  pub right : IsLeast range s b

pub least_of : (range : Ranges) (s : State) (left right : Operand) (v w : Value) → IsRead s left (Some v) → IsRead (with_value s v) right (Some w) → AreLeast range left right s
    → AreLeastOf range (with_value (with_value s v) w) (value_node s v) (value_node (with_value s v) w)
least_of range s left right v w first second least =
    let known : operand_node (with_operand s left) right ≡ Some (value_node (with_value s v) w) = ap (λ (t : State). operand_node t right) first.1 ∙ second.0 in
    let both : with_operand (with_operand s left) right ≡ with_value (with_value s v) w = ap (λ (t : State). with_operand t right) first.1 ∙ second.1 in
    let are = least (value_node s v) (value_node (with_value s v) w) first.0 known in
    record {
      left = subst (λ (t : State). IsLeast range t (value_node s v)) both are.0;
      right = subst (λ (t : State). IsLeast range t (value_node (with_value s v) w)) both are.1;
    }

-- two values of kind Int that were read, put into a state
pub record TwoFit (s : State) (right : Operand) (v w : Value) : Type 0 where
  pub left : HasKind (with_value (with_value s v) w).kinds Int (value_node s v)
  pub right' : HasKind (with_value (with_value s v) w).kinds Int (value_node (with_value s v) w)
  pub sound : IsFalse (with_value (with_value s v) w) → IsFalse s
  pub read : IsRead (with_value s v) right (Some w)

pub two_fit : OperandFits → OperandsKeepSound → (defs : List Def) (vars : List VarInfo) (structs : List StructInfo) (s : State) (left right : Operand) (v w : Value)
    → IsWellMade defs vars structs s → IsOperand vars Int left → IsOperand vars Int right → IsRead s left (Some v) → StaysRead s right (Some w) → TwoFit s right v w
two_fit law sound defs vars structs s left right v w made fits fits' first stays =
    let one = subst (λ (u : State). HasOperand defs vars structs s Int (value_node s v) u) first.1 (law defs vars structs s Int left (value_node s v) made fits first.0) in
    let t = with_value s v in
    let second : IsRead t right (Some w) = stays t one.vars_stay in
    let two = subst (λ (u : State). HasOperand defs vars structs t Int (value_node t w) u) second.1 (law defs vars structs t Int right (value_node t w) one.made fits' second.0) in
    let both : with_operand (with_operand s left) right ≡ with_value t w = ap (λ (u : State). with_operand u right) first.1 ∙ second.1 in
    record {
      left = two.grows Int (value_node s v) one.has;
      right' = two.has;
      sound = λ f. sound vars (left ∷ right ∷ []) (Int ∷ Int ∷ []) s made.bounded (fits, (fits', tt)) (subst IsFalse (sym both) f);
      read = second;
    }

module _ (know : Test) (range : Ranges) (s : State) (no : is_false know ≡ false) (left right : Operand) (v w : Value) (first : IsRead s left (Some v)) (second : IsRead (with_value s v) right (Some w)) where
  pub computed : (op : Operation) (x : VarId) (q : PointId)
      → computing op know range (Some (record { x = x; o = left; o' = right; q = q })) s
      ≡ Ok (moved_to q (with_result op x (value_node s v) (value_node (with_value s v) w) (range (with_value (with_value s v) w) (value_node s v)) (range (with_value (with_value s v) w) (value_node (with_value s v) w)) (with_value (with_value s v) w)) ∷ [])
  computed op x q =
      let one = first.0 in
      let two = first.1 in
      let three = second.0 in
      let four = second.1 in
      rw (no, one, two, three, four)

  pub compared : (t f : PointId)
      → testing_at_most know range (Some (TestLe left right t f)) s
      ≡ Ok (moved_to t (with_atoms (with_value (with_value s v) w) (at_most_atoms (value_node s v) (value_node (with_value s v) w) (range (with_value (with_value s v) w) (value_node s v)) (range (with_value (with_value s v) w) (value_node (with_value s v) w))))
      ∷ moved_to f (with_atoms (with_value (with_value s v) w) (above_atoms (value_node s v) (value_node (with_value s v) w) (range (with_value (with_value s v) w) (value_node s v)) (range (with_value (with_value s v) w) (value_node (with_value s v) w)))) ∷ [])
  compared t f =
      let one = first.0 in
      let two = first.1 in
      let three = second.0 in
      let four = second.1 in
      rw (no, one, two, three, four)
