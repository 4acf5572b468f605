-- What each rule gives where its premises are met.
use Rattle.std.proofs.Common.{◌≡◌, ℕ, List, [], ◌∷◌, true, false, Option, Some, None, refl, pos}
use Rattle.std.specs.Prelude.{Ok}
use Rattle.std.specs.List.{find}
use Rattle.mc_base.specs.declared.ids.EdgeId.{EdgeId}
use Rattle.mc_base.specs.declared.ids.NodeId.{NodeId}
use Rattle.mc_base.specs.declared.ids.PointId.{PointId}
use Rattle.mc_base.specs.declared.ids.StructId.{StructId}
use Rattle.mc_base.specs.declared.ids.VarId.{VarId}
use Rattle.mc_base.specs.declared.plain.Atom.TheVariants.{Eq, Ne}
use Rattle.mc_base.specs.Nodes.{null}
use Rattle.mc_flow.specs.declared.instr.Instr.TheVariants.{Load, Store, Free, TestEq}
use Rattle.mc_flow.specs.declared.instr.Operand.{Operand}
use Rattle.mc_state.specs.declared.graph.edge.Edge.{Edge}
use Rattle.mc_state.specs.Graph.Edges.{with_field_node}
use Rattle.mc_state.specs.Known.{Test, is_false, equal}
use Rattle.mc_state.specs.State.{State, var_node, with_atom, with_var}
use Rattle.mc_rules_steps.specs.Judges.{freeing, freeing_null, is_block_at, is_shaped_at, known_field, loading, storing, testing_equal, with_freed, with_replaced}
use Rattle.mc_rules_steps.specs.Steps.{moved_to}
use Rattle.mc_apply_steps.specs.Step.Values.{IsRead, value_node, with_value}

module _ (know : Test) (s : State) (no : is_false know ≡ false) where
  pub loaded : (x y : VarId) (shape : StructId) (f : ℕ) (q : PointId) (n m : NodeId) (e : EdgeId × Edge) → var_node s y ≡ Some n
      → find (is_shaped_at know n shape) s.graph.edges ≡ Some e → known_field e.1 f ≡ Some m
      → loading know (Some (Load x y shape f q)) s ≡ Ok (moved_to q (with_var s x (Some m)) ∷ [])
  loaded x y shape f q n m e base found field = rw (no, base, found, field)

  pub stored : (y : VarId) (shape : StructId) (f : ℕ) (from : Operand) (q : PointId) (v : _) (n : NodeId) (e : EdgeId × Edge) → IsRead s from (Some v) → var_node s y ≡ Some n
      → find (is_shaped_at know n shape) s.graph.edges ≡ Some e
      → storing know (Some (Store y shape f from q)) s ≡ Ok (moved_to q (with_replaced (with_value s v) e.0 (with_field_node f (value_node s v) e.1)) ∷ [])
  stored y shape f from q v n e read base found = let one = read.0 in let two = read.1 in rw (no, one, base, found, two)

  pub freed_null : (from : Operand) (q : PointId) (v : _) → IsRead s from (Some v) → equal know (value_node s v) null ≡ true
      → freeing_null know (Some (Free from q)) s ≡ Ok (moved_to q (with_value s v) ∷ [])
  freed_null from q v read zero = let one = read.0 in let two = read.1 in rw (no, one, zero, two)

  pub freed : (from : Operand) (q : PointId) (v : _) (e : EdgeId × Edge) → IsRead s from (Some v) → find (is_block_at know (value_node s v)) s.graph.edges ≡ Some e
      → freeing know (Some (Free from q)) s ≡ Ok (moved_to q (with_freed (with_value s v) e.0 e.1) ∷ [])
  freed from q v e read found = let one = read.0 in let two = read.1 in rw (no, one, found, two)

  pub tested_equal : (left right : Operand) (t f : PointId) (v w : _) → IsRead s left (Some v) → IsRead (with_value s v) right (Some w)
      → testing_equal know (Some (TestEq left right t f)) s
      ≡ Ok (moved_to t (with_atom (with_value (with_value s v) w) (Eq (value_node s v) (value_node (with_value s v) w) (pos 0)))
      ∷ moved_to f (with_atom (with_value (with_value s v) w) (Ne (value_node s v) (value_node (with_value s v) w) (pos 0))) ∷ [])
  tested_equal left right t f v w first second =
      let one = first.0 in
      let two = first.1 in
      let three = second.0 in
      let four = second.1 in
      rw (no, one, two, three, four)
