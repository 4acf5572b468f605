-- What is known of sums, differences, products and comparisons of nodes from their ranges.
use Rattle.std.specs.Prelude.{◌≡◌, ◌&&◌, ◌++◌, Bool, List, [], ◌∷◌, ℤ, pos, negsuc, ◌+ℤ◌, ◌-ℤ◌, ◌*ℤ◌, neg_ℤ, ◌≤ℤ◌, int_le, Option, Some, None, if◌then◌else◌}
use Rattle.std.specs.Int.{int_max, int_min}
use Rattle.std.specs.Ordering.{int_eq}
use Rattle.mc_base.specs.declared.ids.NodeId.{NodeId}
use Rattle.mc_base.specs.declared.ids.PointId.{PointId}
use Rattle.mc_base.specs.declared.ids.VarId.{VarId}
use Rattle.mc_base.specs.declared.plain.Kind.TheVariants.{Int}
use Rattle.mc_base.specs.declared.plain.Atom.{Atom}
use Rattle.mc_base.specs.declared.plain.Atom.TheVariants.{Eq, Ne, In}
use Rattle.mc_flow.specs.declared.graph.Flow.{Flow}
use Rattle.mc_flow.specs.declared.instr.Operand.{Operand}
use Rattle.mc_flow.specs.declared.instr.Instr.{Instr}
use Rattle.mc_flow.specs.declared.instr.Instr.TheVariants.{Add, Sub, Mul, TestLe}
use Rattle.mc_flow.specs.Values.{wrapped}
use Rattle.mc_pure.specs.Derived.{HasRange}
use Rattle.mc_pure.specs.Pure.{IsNode}
use Rattle.mc_state.specs.Facts.{IsFalse}
use Rattle.mc_state.specs.Fits.{IsBounded}
use Rattle.mc_state.specs.State.{State, pure_of, with_var, with_nodes, with_atoms, next_node}
use Rattle.mc_rules_steps.specs.Operands.{code_at, operand_node, with_operand}

-- the ends of a range
pub record Ends : Type 0 where
  pub lo : ℤ
  pub hi : ℤ

-- the ranges of nodes at states
abbrev pub Ranges : Type 0
Ranges = State → NodeId → Ends

-- the range is one number
abbrev pub is_one : Ends → Bool
is_one r = int_eq r.lo r.hi

-- the range lies in `int`
abbrev pub are_ints : Ends → Bool
are_ints r = int_le (negsuc 2147483647) r.lo && int_le r.hi (pos 2147483647)

-- the range, a number more
abbrev pub shifted : Ends → ℤ → Ends
shifted r add = record { lo = r.lo +ℤ add; hi = r.hi +ℤ add }

-- the node lies in the range, where that lies in `int`
abbrev pub int_atoms : NodeId → Ends → List Atom
int_atoms n r = if are_ints r then In n r.lo r.hi ∷ [] else []

-- the node is another and a number more, where the right range is one number and the other's stays in `int`
abbrev pub shift_atoms : NodeId → NodeId → Ends → Ends → ℤ → List Atom
shift_atoms n a left right add = if is_one right && are_ints (shifted left add) then Eq n a add ∷ [] else []

-- an operation: its result, the ends of its results, and what is known of the result and its operands
pub record Operation : Type 0 where
  pub apply : ℤ → ℤ → ℤ
  pub ends : Ends → Ends → Ends
  pub offsets : NodeId → NodeId → NodeId → Ends → Ends → List Atom

-- sums: each operand and the other's single number more
abbrev pub sum : Operation
sum =
    record {
      apply = λ a b. a +ℤ b;
      ends = λ left right. record { lo = left.lo +ℤ right.lo; hi = left.hi +ℤ right.hi };
      offsets = λ n a b left right. shift_atoms n a left right right.lo ++ shift_atoms n b right left left.lo;
    }

-- differences: the left operand and the right one's single number less
abbrev pub difference : Operation
difference =
    record {
      apply = λ a b. a -ℤ b;
      ends = λ left right. record { lo = left.lo -ℤ right.hi; hi = left.hi -ℤ right.lo };
      offsets = λ n a b left right. shift_atoms n a left right (neg_ℤ right.lo);
    }

-- the least of four numbers
abbrev pub least_of : ℤ → ℤ → ℤ → ℤ → ℤ
least_of a b c d = int_min (int_min a b) (int_min c d)

-- the greatest of four numbers
abbrev pub greatest_of : ℤ → ℤ → ℤ → ℤ → ℤ
greatest_of a b c d = int_max (int_max a b) (int_max c d)

-- products: an operand and a number more is none of them
abbrev pub product : Operation
product =
    record {
      apply = λ a b. a *ℤ b;
      ends = λ left right. record {
        lo = least_of (left.lo *ℤ right.lo) (left.lo *ℤ right.hi) (left.hi *ℤ right.lo) (left.hi *ℤ right.hi);
        hi = greatest_of (left.lo *ℤ right.lo) (left.lo *ℤ right.hi) (left.hi *ℤ right.lo) (left.hi *ℤ right.hi);
      };
      offsets = λ n a b left right. [];
    }

-- the result of two single numbers is their wrapped result; another lies in the range of results, where that lies in `int`
abbrev pub result_atoms : Operation → NodeId → Ends → Ends → List Atom
result_atoms op n left right =
    if is_one left && is_one right
    then In n (wrapped (op.apply left.lo right.lo)) (wrapped (op.apply left.lo right.lo)) ∷ []
    else int_atoms n (op.ends left right)

-- the variable at a new node, which is the result
abbrev pub with_result : Operation → VarId → NodeId → NodeId → Ends → Ends → State → State
with_result op x a b left right s =
    with_atoms (with_var (with_nodes s (Int ∷ [])) x (Some (next_node s)))
    (result_atoms op (next_node s) left right ++ op.offsets (next_node s) a b left right)

-- the left number is at most the right one, where they lie in these ranges
abbrev pub at_most_atoms : NodeId → NodeId → Ends → Ends → List Atom
at_most_atoms a b left right = In a left.lo (int_min left.hi right.hi) ∷ In b (int_max left.lo right.lo) right.hi ∷ []

-- the left number is greater
abbrev pub above_atoms : NodeId → NodeId → Ends → Ends → List Atom
above_atoms a b left right =
    In a (int_max left.lo (right.lo +ℤ pos 1)) left.hi ∷ In b right.lo (int_min right.hi (left.hi -ℤ pos 1)) ∷ Ne a b (pos 0) ∷ []

-- ---- ranges that are right

-- both ends are ints, the low one at most the high one
abbrev pub AreInts : Ends → Type 0
AreInts r = (negsuc 2147483647 ≤ℤ r.lo) × (r.lo ≤ℤ r.hi) × (r.hi ≤ℤ pos 2147483647)

-- the range that is given for a node is its least
abbrev pub IsLeast : Ranges → State → NodeId → Type 0
IsLeast range s n = HasRange (pure_of s) n (range s n).lo (range s n).hi

-- the ranges that are given for two operands are, in the state with their nodes
abbrev pub AreLeast : Ranges → Operand → Operand → State → Type 0
AreLeast range o o' s =
    (a b : NodeId) → operand_node s o ≡ Some a → operand_node (with_operand s o) o' ≡ Some b
    → IsLeast range (with_operand (with_operand s o) o') a × IsLeast range (with_operand (with_operand s o) o') b

-- the operands whose ranges an instruction asks for
abbrev pub ranged : Instr → Option (Operand × Operand)
ranged (Add x o o' q) = Some (o, o')
ranged (Sub x o o' q) = Some (o, o')
ranged (Mul x o o' q) = Some (o, o')
ranged (TestLe o o' t f) = Some (o, o')
ranged other = None

-- where the state is not false, the ranges that the instruction at the point asks for are the least
abbrev pub HaveRanges : Ranges → Flow → PointId → State → Type 0
HaveRanges range flow p s =
    (code : Instr) (o o' : Operand) → code_at flow p ≡ Some code → ranged code ≡ Some (o, o') → (IsFalse s → ⊥) → AreLeast range o o' s

-- the ranges that are given are the least wherever a state is not false and its numbers are in their bounds
abbrev pub TellLeast : Ranges → Type 0
TellLeast range = (s : State) (n : NodeId) → IsBounded s → (IsFalse s → ⊥) → IsNode s.kinds n → IsLeast range s n
