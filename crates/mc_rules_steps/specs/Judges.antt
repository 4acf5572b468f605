-- What rules of instructions give at a state, or the first premise that is unmet.
use Rattle.std.specs.Prelude.{◌&&◌, not, ℕ, Bool, true, false, List, [], ◌∷◌, pos, Option, Some, None, Ok, slice_get}
use Rattle.std.specs.List.{find}
use Rattle.mc_base.specs.declared.ids.EdgeId.{EdgeId}
use Rattle.mc_base.specs.declared.ids.NodeId.{NodeId}
use Rattle.mc_base.specs.declared.ids.PointId.{PointId}
use Rattle.mc_base.specs.declared.ids.PredId.{PredId}
use Rattle.mc_base.specs.declared.ids.StructId.{StructId}
use Rattle.mc_base.specs.declared.plain.Kind.TheVariants.{Int, Ptr}
use Rattle.mc_base.specs.declared.plain.Atom.TheVariants.{Eq, Ne}
use Rattle.mc_base.specs.Nodes.{null}
use Rattle.mc_flow.specs.declared.graph.Flow.{Flow}
use Rattle.mc_flow.specs.declared.instr.Operand.{Operand}
use Rattle.mc_flow.specs.declared.instr.Instr.{Instr}
use Rattle.mc_flow.specs.Steps.{field_count}
use Rattle.mc_state.specs.declared.graph.edge.Edge.{Edge}
use Rattle.mc_state.specs.declared.graph.edge.Edge.TheVariants.{Block, Ind, Seg}
use Rattle.mc_state.specs.Graph.Edges.{start_of, fields_of, has_shape, with_field_node}
use Rattle.mc_state.specs.Graph.Graph.{Edges, replaced, without, block_starts}
use Rattle.mc_state.specs.Known.{Test, is_false, equal}
use Rattle.mc_state.specs.Premises.{Judged, need, have}
use Rattle.mc_state.specs.declared.line.InstrRule.{InstrRule}
use Rattle.mc_state.specs.declared.line.InstrRule.TheVariants.{S1, S2, S3, S4, S5, S6, S7, S8, S9, S10, S11, S12, S13, S14, S15, S16, S17, S18}
use Rattle.mc_state.specs.State.{State, var_node, with_var, without_vars, next_node, with_nodes, with_atoms, with_atom, with_edges, with_only_edges, with_block}
use Rattle.mc_rules_steps.specs.Next.{Next}
use Rattle.mc_rules_steps.specs.Instructions.{ResultParts, skip_of, copy_of, undef_of, input_of, add_of, sub_of, mul_of, load_of, store_of, malloc_of, free_of, test_eq_of, test_le_of, assume_of, assert_of, empty_of, is_end}
use Rattle.mc_rules_steps.specs.Operands.{code_at, operand_node, with_operand, with_operands}
use Rattle.mc_rules_steps.specs.Steps.{moved_to, freed_atoms}
use Rattle.mc_rules_steps.specs.Sums.{Ranges, Operation, sum, difference, product, with_result, at_most_atoms, above_atoms}

-- ---- moves

-- S1: a Skip
abbrev pub skipping : Test → Option Instr → State → Judged (List Next)
skipping know code s = have 1 (skip_of code) (λ q. need 2 (not (is_false know)) (Ok (moved_to q s ∷ [])))

-- S2: a Copy
abbrev pub copying : Test → Option Instr → State → Judged (List Next)
copying know code s =
    have 1 (copy_of code) (λ i.
    need 2 (not (is_false know))
    (have 3 (operand_node s i.from) (λ n.
    Ok (moved_to i.q (with_var (with_operand s i.from) i.x (Some n)) ∷ []))))

-- S3: an Undef
abbrev pub forgetting : Test → Option Instr → State → Judged (List Next)
forgetting know code s = have 1 (undef_of code) (λ i. need 2 (not (is_false know)) (Ok (moved_to i.1 (without_vars s i.0) ∷ [])))

-- S4: an Input
abbrev pub taking : Test → Option Instr → State → Judged (List Next)
taking know code s =
    have 1 (input_of code) (λ i.
    need 2 (not (is_false know))
    (Ok (moved_to i.1 (with_var (with_nodes s (Int ∷ [])) i.0 (Some (next_node s))) ∷ [])))

-- ---- sums, differences and products

-- what the three have in common; the ranges are those of the state with the operands' nodes
abbrev pub computing : Operation → Test → Ranges → Option ResultParts → State → Judged (List Next)
computing op know range parts s =
    have 1 parts (λ i.
    need 2 (not (is_false know))
    (have 3 (operand_node s i.o) (λ a.
    have 4 (operand_node (with_operand s i.o) i.o') (λ b.
    let before = with_operand (with_operand s i.o) i.o' in
    Ok (moved_to i.q (with_result op i.x a b (range before a) (range before b) before) ∷ [])))))

-- S5: an Add
abbrev pub adding : Test → Ranges → Option Instr → State → Judged (List Next)
adding know range code s = computing sum know range (add_of code) s

-- S6: a Sub
abbrev pub subtracting : Test → Ranges → Option Instr → State → Judged (List Next)
subtracting know range code s = computing difference know range (sub_of code) s

-- S7: a Mul
abbrev pub multiplying : Test → Ranges → Option Instr → State → Judged (List Next)
multiplying know range code s = computing product know range (mul_of code) s

-- ---- blocks

-- the edge is a block of the struct at a node that is equal
abbrev pub is_shaped_at : Test → NodeId → StructId → EdgeId × Edge → Bool
is_shaped_at know n shape e = has_shape shape e.1 && equal know n (start_of e.1)

-- the edge is a block
abbrev pub is_block : Edge → Bool
is_block (Block at shape fields) = true
is_block (Ind at pred args) = false
is_block (Seg at args pred «end» ends) = false

-- the edge is a block at a node that is equal
abbrev pub is_block_at : Test → NodeId → EdgeId × Edge → Bool
is_block_at know n e = is_block e.1 && equal know n (start_of e.1)

-- a field's node, where there is the field and it is known
abbrev pub flat_node : Option (Option NodeId) → Option NodeId
flat_node None = None
flat_node (Some n) = n

-- the node of a field that is known
abbrev pub known_field : Edge → ℕ → Option NodeId
known_field e f = flat_node (slice_get (fields_of e) f)

-- S8: a Load
abbrev pub loading : Test → Option Instr → State → Judged (List Next)
loading know code s =
    have 1 (load_of code) (λ i.
    need 2 (not (is_false know))
    (have 3 (var_node s i.y) (λ n.
    have 4 (find (is_shaped_at know n i.shape) s.graph.edges) (λ e.
    have 5 (known_field e.1 i.f) (λ m.
    Ok (moved_to i.q (with_var s i.x (Some m)) ∷ []))))))

-- another edge in place of one
abbrev pub with_replaced : State → EdgeId → Edge → State
with_replaced s id new = record s { graph = record s.graph { edges = replaced s.graph.edges id new } }

-- S9: a Store
abbrev pub storing : Test → Option Instr → State → Judged (List Next)
storing know code s =
    have 1 (store_of code) (λ i.
    need 2 (not (is_false know))
    (have 3 (operand_node s i.from) (λ m.
    have 4 (var_node s i.y) (λ n.
    have 5 (find (is_shaped_at know n i.shape) s.graph.edges) (λ e.
    Ok (moved_to i.q (with_replaced (with_operand s i.from) e.0 (with_field_node i.f m e.1)) ∷ []))))))

-- S10: a Malloc
abbrev pub allocating : Test → Flow → Option Instr → State → Judged (List Next)
allocating know flow code s =
    have 1 (malloc_of code) (λ i.
    need 2 (not (is_false know))
    (Ok (moved_to i.q (with_var s i.x (Some null))
    ∷ moved_to i.q (with_var (with_block s i.shape (field_count flow.structs i.shape)) i.x (Some (next_node s))) ∷ [])))

-- S11: a Free of null
abbrev pub freeing_null : Test → Option Instr → State → Judged (List Next)
freeing_null know code s =
    have 1 (free_of code) (λ i.
    need 2 (not (is_false know))
    (have 3 (operand_node s i.0) (λ n.
    need 4 (equal know n null)
    (Ok (moved_to i.1 (with_operand s i.0) ∷ [])))))

-- the state without a block that is freed
abbrev pub with_freed : State → EdgeId → Edge → State
with_freed s id e =
    with_atoms (with_only_edges s (without s.graph.edges id)) (freed_atoms (start_of e) (block_starts (without s.graph.edges id)))

-- S12: a Free of a block
abbrev pub freeing : Test → Option Instr → State → Judged (List Next)
freeing know code s =
    have 1 (free_of code) (λ i.
    need 2 (not (is_false know))
    (have 3 (operand_node s i.0) (λ n.
    have 4 (find (is_block_at know n) s.graph.edges) (λ e.
    Ok (moved_to i.1 (with_freed (with_operand s i.0) e.0 e.1) ∷ [])))))

-- ---- tests

-- S13: a TestEq
abbrev pub testing_equal : Test → Option Instr → State → Judged (List Next)
testing_equal know code s =
    have 1 (test_eq_of code) (λ i.
    need 2 (not (is_false know))
    (have 3 (operand_node s i.o) (λ a.
    have 4 (operand_node (with_operand s i.o) i.o') (λ b.
    let before = with_operand (with_operand s i.o) i.o' in
    Ok (moved_to i.t (with_atom before (Eq a b (pos 0))) ∷ moved_to i.f (with_atom before (Ne a b (pos 0))) ∷ [])))))

-- S14: a TestLe; the ranges are those of the state with the operands' nodes
abbrev pub testing_at_most : Test → Ranges → Option Instr → State → Judged (List Next)
testing_at_most know range code s =
    have 1 (test_le_of code) (λ i.
    need 2 (not (is_false know))
    (have 3 (operand_node s i.o) (λ a.
    have 4 (operand_node (with_operand s i.o) i.o') (λ b.
    let before = with_operand (with_operand s i.o) i.o' in
    Ok (moved_to i.t (with_atoms before (at_most_atoms a b (range before a) (range before b)))
    ∷ moved_to i.f (with_atoms before (above_atoms a b (range before a) (range before b))) ∷ [])))))

-- ---- shapes

-- a node in front of others, if all are there
abbrev pub with_first : Option NodeId → Option (List NodeId) → Option (List NodeId)
with_first None ns = None
with_first (Some n) None = None
with_first (Some n) (Some ns) = Some (n ∷ ns)

-- the operands' nodes, if all are known
abbrev pub operand_nodes : State → List Operand → Option (List NodeId)
operand_nodes s [] = Some []
operand_nodes s (o ∷ os) = with_first (operand_node s o) (operand_nodes (with_operand s o) os)

-- the variable points to a new node, at which a predicate holds
abbrev pub with_shape : PredId → List NodeId → State → State
with_shape pred args s = with_edges (with_nodes s (Ptr ∷ [])) (Ind (next_node s) pred args ∷ [])

-- S15: an AssumeShape
abbrev pub assuming : Test → Option Instr → State → Judged (List Next)
assuming know code s =
    have 1 (assume_of code) (λ i.
    need 2 (not (is_false know))
    (have 3 (operand_nodes s i.os) (λ args.
    let before = with_operands s i.os in
    Ok (moved_to i.q (with_var (with_shape i.pred args before) i.x (Some (next_node before))) ∷ []))))

-- the side branch that has to show a predicate
abbrev pub side_branch : PointId → PredId → NodeId → List NodeId → State → Next
side_branch p pred n args s = record { point = p; goal = Some (record { pred = pred; at = n; args = args }); state = s }

-- S16: an AssertShape
abbrev pub asserting : Test → PointId → Option Instr → State → Judged (List Next)
asserting know p code s =
    have 1 (assert_of code) (λ i.
    need 2 (not (is_false know))
    (have 3 (operand_node s i.o) (λ n.
    have 4 (operand_nodes (with_operand s i.o) i.os) (λ args.
    Ok (side_branch p i.pred n args (with_operands (with_operand s i.o) i.os) ∷ moved_to i.q s ∷ [])))))

-- ---- ends

-- S17: an End
abbrev pub ending : Test → Option Instr → State → Judged (List Next)
ending know code s = need 1 (is_end code) (need 2 (not (is_false know)) (Ok []))

-- there is no edge
abbrev pub has_none : Edges → Bool
has_none [] = true
has_none (e ∷ es) = false

-- S18: an AssertEmpty
abbrev pub emptying : Test → Option Instr → State → Judged (List Next)
emptying know code s =
    have 1 (empty_of code) (λ q.
    need 2 (not (is_false know))
    (need 3 s.whole
    (need 4 (has_none s.graph.edges)
    (Ok (moved_to q s ∷ [])))))

-- ---- all rules

-- what a rule gives for the instruction at a point
abbrev pub stepping_code : Test → Ranges → Flow → InstrRule → PointId → Option Instr → State → Judged (List Next)
stepping_code know range flow S1 p code s = skipping know code s
stepping_code know range flow S2 p code s = copying know code s
stepping_code know range flow S3 p code s = forgetting know code s
stepping_code know range flow S4 p code s = taking know code s
stepping_code know range flow S5 p code s = adding know range code s
stepping_code know range flow S6 p code s = subtracting know range code s
stepping_code know range flow S7 p code s = multiplying know range code s
stepping_code know range flow S8 p code s = loading know code s
stepping_code know range flow S9 p code s = storing know code s
stepping_code know range flow S10 p code s = allocating know flow code s
stepping_code know range flow S11 p code s = freeing_null know code s
stepping_code know range flow S12 p code s = freeing know code s
stepping_code know range flow S13 p code s = testing_equal know code s
stepping_code know range flow S14 p code s = testing_at_most know range code s
stepping_code know range flow S15 p code s = assuming know code s
stepping_code know range flow S16 p code s = asserting know p code s
stepping_code know range flow S17 p code s = ending know code s
stepping_code know range flow S18 p code s = emptying know code s

-- what a rule gives at a point, or its first premise that is unmet
abbrev pub stepping : Test → Ranges → Flow → InstrRule → PointId → State → Judged (List Next)
stepping know range flow rule p s = stepping_code know range flow rule p (code_at flow p) s
