-- The rules of instructions.
use Rattle.std.specs.Prelude.{◌≡◌, ◌<◌, ◌&&◌, ℕ, List, [], ◌∷◌, ◌++◌, ℤ, pos, negsuc, ◌+ℤ◌, ◌-ℤ◌, ◌*ℤ◌, neg_ℤ, int_le, Bool, Option, Some, None, true, length, map, slice_get, slice_set, if◌then◌else◌}
use Rattle.std.specs.Int.{int_max, int_min}
use Rattle.std.specs.Ordering.{int_eq}
use Rattle.mc_base.specs.declared.ids.NodeId.{NodeId}
use Rattle.mc_base.specs.declared.ids.PointId.{PointId}
use Rattle.mc_base.specs.declared.ids.PredId.{PredId}
use Rattle.mc_base.specs.declared.ids.StructId.{StructId}
use Rattle.mc_base.specs.declared.ids.VarId.{VarId}
use Rattle.mc_base.specs.declared.plain.Kind.TheVariants.{Int, Ptr}
use Rattle.mc_base.specs.declared.plain.Atom.{Atom}
use Rattle.mc_base.specs.declared.plain.Atom.TheVariants.{Eq, Ne, In}
use Rattle.mc_base.specs.Nodes.{null}
use Rattle.mc_base.specs.declared.ranges.Range.{Range}
use Rattle.mc_base.specs.Ranges.Range.{IsOutcome, IsLeastIntRange}
use Rattle.mc_flow.specs.declared.graph.Flow.{Flow}
use Rattle.mc_flow.specs.declared.instr.Operand.{Operand}
use Rattle.mc_flow.specs.declared.instr.Instr.TheVariants as instr
use Rattle.mc_flow.specs.Steps.{field_count}
use Rattle.mc_flow.specs.Values.{wrapped}
use Rattle.mc_state.specs.declared.graph.edge.Edge.TheVariants.{Block, Ind}
use Rattle.mc_state.specs.Graph.Graph.{replaced, without, block_starts}
use Rattle.mc_pure.specs.Pure.{address_atom}
use Rattle.mc_pure.specs.Derived.{HasRange}
use Rattle.mc_state.specs.declared.goal.Goal.{Goal}
use Rattle.mc_state.specs.declared.line.InstrRule.{InstrRule}
use Rattle.mc_state.specs.declared.line.InstrRule.TheVariants.{S1, S2, S3, S4, S5, S6, S7, S8, S9, S10, S11, S12, S13, S14, S15, S16, S17, S18}
use Rattle.mc_state.specs.State.{State, pure_of, var_node, with_var, without_vars, next_node, with_nodes, with_atoms, with_atom, with_edges, with_only_edges, with_block}
use Rattle.mc_state.specs.Facts.{IsFalse, AreEqual}
use Rattle.mc_rules_steps.specs.Next.{Next}
use Rattle.mc_rules_steps.specs.Operands.{code_at, operand_node, with_operand, with_operands, AreNodesOf, HasBlock}

-- the branch goes on at a point with a state
abbrev pub moved_to : PointId → State → Next
moved_to q s = record { point = q; goal = None; state = s }

-- S1: at a Skip the state stays
pub record S1Is (flow : Flow) (p : PointId) (s : State) (next : List Next) : Type 0 where
  pub q : PointId
  pub at : code_at flow p ≡ Some (instr.Skip q)
  pub consistent : IsFalse s → ⊥
  pub gives : next ≡ moved_to q s ∷ []

-- S2: at a Copy the operand is known, and the variable gets its node
pub record S2Is (flow : Flow) (p : PointId) (s : State) (next : List Next) : Type 0 where
  pub x : VarId
  pub from : Operand
  pub q : PointId
  pub at : code_at flow p ≡ Some (instr.Copy x from q)
  pub consistent : IsFalse s → ⊥
  pub n : NodeId
  pub known : operand_node s from ≡ Some n
  pub gives : next ≡ moved_to q (with_var (with_operand s from) x (Some n)) ∷ []

-- S3: at an Undef the variables are known no more
pub record S3Is (flow : Flow) (p : PointId) (s : State) (next : List Next) : Type 0 where
  pub xs : List VarId
  pub q : PointId
  pub at : code_at flow p ≡ Some (instr.Undef xs q)
  pub consistent : IsFalse s → ⊥
  pub gives : next ≡ moved_to q (without_vars s xs) ∷ []

-- S4: at an Input the variable gets a new node of kind Int
pub record S4Is (flow : Flow) (p : PointId) (s : State) (next : List Next) : Type 0 where
  pub x : VarId
  pub q : PointId
  pub at : code_at flow p ≡ Some (instr.Input x q)
  pub consistent : IsFalse s → ⊥
  pub gives : next ≡ moved_to q (with_var (with_nodes s (Int ∷ [])) x (Some (next_node s))) ∷ []

-- ---- sums, differences and products

-- the range is one number
abbrev pub is_single : Range → Bool
is_single r = int_eq r.lo r.hi

-- the range, a number more, lies in `int`
abbrev pub stays_int : Range → ℤ → Bool
stays_int r c = int_le (negsuc 2147483647) (r.lo +ℤ c) && int_le (r.hi +ℤ c) (pos 2147483647)

-- the node lies in a range, if there is one
abbrev pub in_range : NodeId → Option Range → List Atom
in_range n None = []
in_range n (Some r) = In n r.lo r.hi ∷ []

-- the result of two single numbers is their wrapped result; another lies in the range of results, where that lies in `int`
abbrev pub range_atoms : (ℤ → ℤ → ℤ) → NodeId → Range → Range → Option Range → List Atom
range_atoms op n left right results =
    if is_single left && is_single right then In n (wrapped (op left.lo right.lo)) (wrapped (op left.lo right.lo))
    ∷ [] else in_range n results

-- the node is another and a single number more, where that one's range stays in `int`
abbrev pub offset_atom : NodeId → NodeId → Range → Range → ℤ → List Atom
offset_atom n a left right add = if is_single right && stays_int left add then Eq n a add ∷ [] else []

-- a sum is its left operand and the right one's single number more, and the other way round
abbrev pub sum_offsets : NodeId → NodeId → NodeId → Range → Range → List Atom
sum_offsets n a b left right = offset_atom n a left right right.lo ++ offset_atom n b right left left.lo

-- a difference is its left operand and the right one's single number less
abbrev pub difference_offsets : NodeId → NodeId → NodeId → Range → Range → List Atom
difference_offsets n a b left right = offset_atom n a left right (neg_ℤ right.lo)

-- a product is neither
abbrev pub no_offsets : NodeId → NodeId → NodeId → Range → Range → List Atom
no_offsets n a b left right = []

-- the premises and the successor that the three operations share: both operands are known, and the variable gets a new node
pub record Computes (op : ℤ → ℤ → ℤ) (offsets : NodeId → NodeId → NodeId → Range → Range → List Atom) (x : VarId)
    (o p : Operand) (q : PointId) (s : State) (next : List Next) : Type 0 where
  pub a : NodeId
  pub left_known : operand_node s o ≡ Some a
  pub b : NodeId
  pub right_known : operand_node (with_operand s o) p ≡ Some b
  pub left : Range
  pub left_range : HasRange (pure_of (with_operand (with_operand s o) p)) a left.lo left.hi
  pub right : Range
  pub right_range : HasRange (pure_of (with_operand (with_operand s o) p)) b right.lo right.hi
  pub results : Option Range
  pub results_range : IsLeastIntRange (IsOutcome op left right) results
  pub before : State
  pub operands : before ≡ with_operand (with_operand s o) p
  pub gives : next ≡ moved_to q
      (with_atoms (with_var (with_nodes before (Int ∷ [])) x (Some (next_node before)))
      (range_atoms op (next_node before) left right results ++ offsets (next_node before) a b left right)) ∷ []

-- S5: at an Add
pub record S5Is (flow : Flow) (p : PointId) (s : State) (next : List Next) : Type 0 where
  pub x : VarId
  pub o : Operand
  pub o' : Operand
  pub q : PointId
  pub at : code_at flow p ≡ Some (instr.Add x o o' q)
  pub consistent : IsFalse s → ⊥
  pub computes : Computes (λ a b. a +ℤ b) sum_offsets x o o' q s next

-- S6: at a Sub
pub record S6Is (flow : Flow) (p : PointId) (s : State) (next : List Next) : Type 0 where
  pub x : VarId
  pub o : Operand
  pub o' : Operand
  pub q : PointId
  pub at : code_at flow p ≡ Some (instr.Sub x o o' q)
  pub consistent : IsFalse s → ⊥
  pub computes : Computes (λ a b. a -ℤ b) difference_offsets x o o' q s next

-- S7: at a Mul
pub record S7Is (flow : Flow) (p : PointId) (s : State) (next : List Next) : Type 0 where
  pub x : VarId
  pub o : Operand
  pub o' : Operand
  pub q : PointId
  pub at : code_at flow p ≡ Some (instr.Mul x o o' q)
  pub consistent : IsFalse s → ⊥
  pub computes : Computes (λ a b. a *ℤ b) no_offsets x o o' q s next

-- ---- blocks

-- S8: at a Load the base is known, a block of the struct lies there, and its field is known
pub record S8Is (flow : Flow) (p : PointId) (s : State) (next : List Next) : Type 0 where
  pub x : VarId
  pub y : VarId
  pub shape : StructId
  pub f : ℕ
  pub q : PointId
  pub at : code_at flow p ≡ Some (instr.Load x y shape f q)
  pub consistent : IsFalse s → ⊥
  pub n : NodeId
  pub known : var_node s y ≡ Some n
  pub block : HasBlock s n shape
  pub m : NodeId
  pub field : slice_get block.fields f ≡ Some (Some m)
  pub gives : next ≡ moved_to q (with_var s x (Some m)) ∷ []

-- S9: at a Store the operand and the base are known, and a block of the struct with the field lies there; the field gets the operand's node
pub record S9Is (flow : Flow) (p : PointId) (s : State) (next : List Next) : Type 0 where
  pub y : VarId
  pub shape : StructId
  pub f : ℕ
  pub from : Operand
  pub q : PointId
  pub at : code_at flow p ≡ Some (instr.Store y shape f from q)
  pub consistent : IsFalse s → ⊥
  pub m : NodeId
  pub value : operand_node s from ≡ Some m
  pub n : NodeId
  pub known : var_node s y ≡ Some n
  pub block : HasBlock s n shape
  pub field : f < length block.fields
  pub before : State
  pub operand : before ≡ with_operand s from
  pub gives : next ≡ moved_to q (record before {
    graph = record before.graph {
      edges = replaced before.graph.edges block.id
          (Block block.at shape (slice_set block.fields f (Some m)));
    };
  }) ∷ []

-- S10: at a Malloc the variable is null, or points to a new block, of whose fields nothing is known
pub record S10Is (flow : Flow) (p : PointId) (s : State) (next : List Next) : Type 0 where
  pub x : VarId
  pub shape : StructId
  pub q : PointId
  pub at : code_at flow p ≡ Some (instr.Malloc x shape q)
  pub consistent : IsFalse s → ⊥
  pub gives : next ≡ moved_to q (with_var s x (Some null))
      ∷ moved_to q (with_var (with_block s shape (field_count flow.structs shape)) x (Some (next_node s))) ∷ []

-- S11: at a Free the operand is known to be null
pub record S11Is (flow : Flow) (p : PointId) (s : State) (next : List Next) : Type 0 where
  pub from : Operand
  pub q : PointId
  pub at : code_at flow p ≡ Some (instr.Free from q)
  pub consistent : IsFalse s → ⊥
  pub n : NodeId
  pub known : operand_node s from ≡ Some n
  pub zero : AreEqual (with_operand s from) n null
  pub gives : next ≡ moved_to q (with_operand s from) ∷ []

-- what is known of the start of a freed block: it is an address, and no other block's
abbrev pub freed_atoms : NodeId → List NodeId → List Atom
freed_atoms a others = address_atom a ∷ map (λ b. Ne a b (pos 0)) others

-- S12: at a Free a block lies where the operand points, and it goes
pub record S12Is (flow : Flow) (p : PointId) (s : State) (next : List Next) : Type 0 where
  pub from : Operand
  pub q : PointId
  pub at : code_at flow p ≡ Some (instr.Free from q)
  pub consistent : IsFalse s → ⊥
  pub n : NodeId
  pub known : operand_node s from ≡ Some n
  pub before : State
  pub operand : before ≡ with_operand s from
  pub shape : StructId
  pub block : HasBlock before n shape
  pub gives : next ≡ moved_to q
      (with_atoms (with_only_edges before (without before.graph.edges block.id))
      (freed_atoms block.at (block_starts (without before.graph.edges block.id)))) ∷ []

-- ---- tests

-- S13: at a TestEq both operands are known; they are equal, or they differ
pub record S13Is (flow : Flow) (p : PointId) (s : State) (next : List Next) : Type 0 where
  pub o : Operand
  pub o' : Operand
  pub t : PointId
  pub f : PointId
  pub at : code_at flow p ≡ Some (instr.TestEq o o' t f)
  pub consistent : IsFalse s → ⊥
  pub a : NodeId
  pub left_known : operand_node s o ≡ Some a
  pub b : NodeId
  pub right_known : operand_node (with_operand s o) o' ≡ Some b
  pub before : State
  pub operands : before ≡ with_operand (with_operand s o) o'
  pub gives : next ≡ moved_to t (with_atom before (Eq a b (pos 0))) ∷ moved_to f (with_atom before (Ne a b (pos 0))) ∷ []

-- the left number is at most the right one, where they lie in these ranges
abbrev pub le_atoms : NodeId → NodeId → Range → Range → List Atom
le_atoms a b left right = In a left.lo (int_min left.hi right.hi) ∷ In b (int_max left.lo right.lo) right.hi ∷ []

-- the left number is greater
abbrev pub gt_atoms : NodeId → NodeId → Range → Range → List Atom
gt_atoms a b left right =
    In a (int_max left.lo (right.lo +ℤ pos 1)) left.hi ∷ In b right.lo (int_min right.hi (left.hi -ℤ pos 1)) ∷ Ne a b (pos 0) ∷ []

-- S14: at a TestLe both operands are known; the left is at most the right, or it is greater
pub record S14Is (flow : Flow) (p : PointId) (s : State) (next : List Next) : Type 0 where
  pub o : Operand
  pub o' : Operand
  pub t : PointId
  pub f : PointId
  pub at : code_at flow p ≡ Some (instr.TestLe o o' t f)
  pub consistent : IsFalse s → ⊥
  pub a : NodeId
  pub left_known : operand_node s o ≡ Some a
  pub b : NodeId
  pub right_known : operand_node (with_operand s o) o' ≡ Some b
  pub before : State
  pub operands : before ≡ with_operand (with_operand s o) o'
  pub left : Range
  pub left_range : HasRange (pure_of before) a left.lo left.hi
  pub right : Range
  pub right_range : HasRange (pure_of before) b right.lo right.hi
  pub gives : next ≡ moved_to t (with_atoms before (le_atoms a b left right))
      ∷ moved_to f (with_atoms before (gt_atoms a b left right)) ∷ []

-- ---- shapes

-- S15: at an AssumeShape the arguments are known; the variable points to a new node, at which the predicate holds on memory of its own
pub record S15Is (flow : Flow) (p : PointId) (s : State) (next : List Next) : Type 0 where
  pub pred : PredId
  pub x : VarId
  pub os : List Operand
  pub q : PointId
  pub at : code_at flow p ≡ Some (instr.AssumeShape pred x os q)
  pub consistent : IsFalse s → ⊥
  pub args : List NodeId
  pub known : AreNodesOf s os args
  pub before : State
  pub operands : before ≡ with_operands s os
  pub gives : next ≡ moved_to q (with_var
      (with_edges (with_nodes before (Ptr ∷ [])) (Ind (next_node before) pred args ∷ [])) x
      (Some (next_node before))) ∷ []

-- S16: at an AssertShape the operand and the arguments are known; a side branch has to show the predicate, and the state stays
pub record S16Is (flow : Flow) (p : PointId) (s : State) (next : List Next) : Type 0 where
  pub pred : PredId
  pub o : Operand
  pub os : List Operand
  pub q : PointId
  pub at : code_at flow p ≡ Some (instr.AssertShape pred o os q)
  pub consistent : IsFalse s → ⊥
  pub n : NodeId
  pub known : operand_node s o ≡ Some n
  pub args : List NodeId
  pub args_known : AreNodesOf (with_operand s o) os args
  pub goal : Goal
  pub goal_is : goal ≡ record { pred = pred; at = n; args = args }
  pub side : Next
  pub side_is : side ≡ record { point = p; goal = Some goal; state = with_operands (with_operand s o) os }
  pub gives : next ≡ side ∷ moved_to q s ∷ []

-- S17: at an End the branch ends
pub record S17Is (flow : Flow) (p : PointId) (s : State) (next : List Next) : Type 0 where
  pub at : code_at flow p ≡ Some instr.End
  pub consistent : IsFalse s → ⊥
  pub gives : next ≡ []

-- S18: at an AssertEmpty the edges are all that is allocated, and there is none
pub record S18Is (flow : Flow) (p : PointId) (s : State) (next : List Next) : Type 0 where
  pub q : PointId
  pub at : code_at flow p ≡ Some (instr.AssertEmpty q)
  pub consistent : IsFalse s → ⊥
  pub whole : s.whole ≡ true
  pub none : s.graph.edges ≡ []
  pub gives : next ≡ moved_to q s ∷ []

-- ---- all rules

-- the instances of a rule
abbrev pub StepIs : InstrRule → Flow → PointId → State → List Next → Type 0
StepIs S1 = S1Is
StepIs S2 = S2Is
StepIs S3 = S3Is
StepIs S4 = S4Is
StepIs S5 = S5Is
StepIs S6 = S6Is
StepIs S7 = S7Is
StepIs S8 = S8Is
StepIs S9 = S9Is
StepIs S10 = S10Is
StepIs S11 = S11Is
StepIs S12 = S12Is
StepIs S13 = S13Is
StepIs S14 = S14Is
StepIs S15 = S15Is
StepIs S16 = S16Is
StepIs S17 = S17Is
StepIs S18 = S18Is
