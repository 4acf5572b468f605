-- In a state that is not false one block lies at a node.
use Rattle.std.proofs.Common.{◌≡◌, ◌≢◌, ℕ, suc, List, [], ◌∷◌, Bool, true, false, Option, Some, slice_get, refl, sym, ap, ◌∙◌, subst, arith, eqb-true, eq-eqb, inl, inr}
use Rattle.std.specs.Prelude.{◌==◌, if◌then◌else◌}
use Rattle.mc_base.specs.declared.ids.EdgeId.{EdgeId}
use Rattle.mc_base.specs.declared.ids.NodeId.{NodeId}
use Rattle.mc_base.specs.declared.ids.StructId.{StructId}
use Rattle.mc_state.specs.declared.graph.edge.Edge.{Edge}
use Rattle.mc_state.specs.declared.graph.edge.Edge.TheVariants.{Block, Ind, Seg}
use Rattle.mc_state.specs.Graph.Edges.{fields_of}
use Rattle.mc_state.specs.Graph.Graph.{Edges, edge_with, block_starts}
use Rattle.mc_pure.specs.Derived.{turned, chained}
use Rattle.mc_pure.specs.Laws.{BlocksAtOneNode}
use Rattle.mc_state.specs.State.{State, pure_of}
use Rattle.mc_state.specs.Facts.{IsFalse, AreEqual}
use Rattle.mc_rules_steps.specs.Operands.{HasBlock}

-- the node stands among others
abbrev Stands : List NodeId → NodeId → Type 0
Stands starts a = (i : ℕ) × (slice_get starts i ≡ Some a)

-- two nodes stand at different places
abbrev StandApart : List NodeId → NodeId → NodeId → Type 0
StandApart starts a b = (i : ℕ) × (j : ℕ) × (i ≢ j) × (slice_get starts i ≡ Some a) × (slice_get starts j ≡ Some b)

-- an edge more in front
stands_behind : (k : EdgeId) (x : Edge) (es : Edges) (a : NodeId) → Stands (block_starts es) a → Stands (block_starts ((k, x) ∷ es)) a
stands_behind k (Block at shape fields) es a p = (suc p.0, p.1)
stands_behind k (Ind at pred args) es a p = p
stands_behind k (Seg at args pred «end» ends) es a p = p

apart_behind : (k : EdgeId) (x : Edge) (es : Edges) (a b : NodeId) → StandApart (block_starts es) a b → StandApart (block_starts ((k, x) ∷ es)) a b
apart_behind k (Block at shape fields) es a b p = (suc p.0, suc p.1, λ e. p.2 (let same : suc p.0 ≡ suc p.1 = e in omega arith), p.3, p.4)
apart_behind k (Ind at pred args) es a b p = p
apart_behind k (Seg at args pred «end» ends) es a b p = p

-- the block with an id starts at one of the starts
block_stands : (es : Edges) (id : EdgeId) (a : NodeId) (shape : StructId) (fields : List (Option NodeId)) → edge_with es id ≡ Some (Block a shape fields) → Stands (block_starts es) a
block_stands [] id a shape fields e = cc
block_stands ((k, x) ∷ es) id a shape fields e = at (λ h. block_stands es id a shape fields h) (k.0 == id.0) e
  where
    at : (edge_with es id ≡ Some (Block a shape fields) → Stands (block_starts es) a) → (here : Bool) → (if here then Some x else edge_with es id) ≡ Some (Block a shape fields) → Stands (block_starts ((k, x) ∷ es)) a
    at others true h = let same : x ≡ Block a shape fields = cc in subst (λ (y : Edge). Stands (block_starts ((k, y) ∷ es)) a) (sym same) (0, refl)
    at others false h = stands_behind k x es a (others h)

-- the blocks with two ids start at two of them
first_apart : (k : EdgeId) (x : Edge) (es : Edges) (a b : NodeId) (shape : StructId) (fields : List (Option NodeId)) → x ≡ Block a shape fields → Stands (block_starts es) b → StandApart (block_starts ((k, x) ∷ es)) a b
first_apart k x es a b shape fields same p =
    subst (λ (y : Edge). StandApart (block_starts ((k, y) ∷ es)) a b) (sym same) (0, suc p.0, λ e. let clash : 0 ≡ suc p.0 = e in omega arith, refl, p.1)

turn : (starts : List NodeId) (a b : NodeId) → StandApart starts a b → StandApart starts b a
turn starts a b p = (p.1, p.0, λ e. p.2 (sym e), p.4, p.3)

blocks_apart : (es : Edges) (id other : EdgeId) (a b : NodeId) (shape own : StructId) (fields contents : List (Option NodeId)) → id.0 ≢ other.0
    → edge_with es id ≡ Some (Block a shape fields) → edge_with es other ≡ Some (Block b own contents) → StandApart (block_starts es) a b
blocks_apart [] id other a b shape own fields contents ne e h = cc
blocks_apart ((k, x) ∷ es) id other a b shape own fields contents ne e h =
    at (λ l r. blocks_apart es id other a b shape own fields contents ne l r) (k.0 == id.0) (k.0 == other.0) refl refl e h
  where
    at : (edge_with es id ≡ Some (Block a shape fields) → edge_with es other ≡ Some (Block b own contents) → StandApart (block_starts es) a b)
        → (here there : Bool) → (k.0 == id.0) ≡ here → (k.0 == other.0) ≡ there
        → (if here then Some x else edge_with es id) ≡ Some (Block a shape fields) → (if there then Some x else edge_with es other) ≡ Some (Block b own contents)
        → StandApart (block_starts ((k, x) ∷ es)) a b
    at others true true is are l r = absurd (ne (sym (eqb-true k.0 id.0 is) ∙ eqb-true k.0 other.0 are))
    at others true false is are l r =
        let same : x ≡ Block a shape fields = cc in
        first_apart k x es a b shape fields same (block_stands es other b own contents r)
    at others false true is are l r =
        let same : x ≡ Block b own contents = cc in
        turn (block_starts ((k, x) ∷ es)) b a (first_apart k x es b a own contents same (block_stands es id a shape fields l))
    at others false false is are l r = apart_behind k x es a b (others l r)

-- what equals one node is equal
both_equal : (s : State) (n a b : NodeId) → (IsFalse s → ⊥) → AreEqual s n a → AreEqual s n b → AreEqual s a b
both_equal s n a b sound left right = elim left [
  | inr wrong ↦ absurd (sound wrong)
  | inl l ↦ elim right [
    | inr wrong ↦ absurd (sound wrong)
    | inl r ↦ inl (chained (turned l) r)
  ]
]

-- two blocks at a node are one edge
pub same_id : BlocksAtOneNode → (s : State) (n : NodeId) (shape own : StructId) (x : HasBlock s n shape) (y : HasBlock s n own) → (IsFalse s → ⊥) → x.id ≡ y.id
same_id law s n shape own x y sound = at (x.id.0 == y.id.0) refl
  where
    at : (same : Bool) → (x.id.0 == y.id.0) ≡ same → x.id ≡ y.id
    at true e = ap (λ (m : ℕ). record { 0 = m }) (eqb-true x.id.0 y.id.0 e)
    at false e =
        let ne : x.id.0 ≢ y.id.0 = λ same. let clash : true ≡ false = sym (eq-eqb x.id.0 y.id.0 same) ∙ e in cc in
        let p = blocks_apart s.graph.edges x.id y.id x.at y.at shape own x.fields y.fields ne x.there y.there in
        absurd (sound (law (pure_of s) p.0 p.1 x.at y.at p.2 p.3 p.4 (both_equal s n x.at y.at sound x.equal y.equal)))

pub same_edge : BlocksAtOneNode → (s : State) (n : NodeId) (shape own : StructId) (x : HasBlock s n shape) (y : HasBlock s n own) → (IsFalse s → ⊥) → Block x.at shape x.fields ≡ Block y.at own y.fields
same_edge law s n shape own x y sound =
    let edges : Some (Block x.at shape x.fields) ≡ Some (Block y.at own y.fields) = sym x.there ∙ ap (edge_with s.graph.edges) (same_id law s n shape own x y sound) ∙ y.there in
    cc

-- two blocks of a struct at a node have the same fields
pub one_block : BlocksAtOneNode → (s : State) (n : NodeId) (shape : StructId) (x y : HasBlock s n shape) → (IsFalse s → ⊥) → x.fields ≡ y.fields
one_block law s n shape x y sound = ap fields_of (same_edge law s n shape shape x y sound)
