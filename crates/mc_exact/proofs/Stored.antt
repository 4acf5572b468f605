-- What addresses hold by edges.
use Rattle.std.proofs.Common.{◌≡◌, ◌≢◌, ℕ, suc, Bool, true, false, ℤ, pos, Option, Some, None, List, [], ◌∷◌, ◌++◌, ◌≤◌, eq-eqb, if◌then◌else◌, refl, sym, ap, ◌∙◌, subst, arith}
use Rattle.std.specs.List.{AllByRecursion}
use Rattle.std.specs.Ordering.{int_eq}
use Rattle.std.specs.Prelude.{◌==◌}
use Rattle.std.proofs.lemmas.Int.{ints}
use Rattle.mc_base.specs.declared.ids.EdgeId.{EdgeId}
use Rattle.mc_base.specs.declared.ids.NodeId.{NodeId}
use Rattle.mc_base.specs.declared.ids.StructId.{StructId}
use Rattle.mc_base.specs.Nodes.{Valuation}
use Rattle.mc_flow.specs.Heap.Heap as heap
use Rattle.mc_state.specs.declared.graph.edge.Edge.{Edge}
use Rattle.mc_state.specs.declared.graph.edge.Edge.TheVariants.{Block, Ind, Seg}
use Rattle.mc_state.specs.Graph.Graph.{Edges, IdsAscend, edge_with, without, replaced, block_starts}
use Rattle.mc_state.proofs.Lists.{all_map}
use Rattle.mc_exact.proofs.Exactly.{values_by, stored, AreApart}

-- a block of the heap
abbrev pub held : Valuation → StructId → List (Option NodeId) → heap.Block
held v shape fields = record { shape = shape.0; fields = values_by v fields }

pub eq_yes : (x y : ℤ) → x ≡ y → int_eq x y ≡ true
eq_yes x y e = grind (arith, ints)

pub eq_no : (x y : ℤ) → x ≢ y → int_eq x y ≡ false
eq_no x y ne = grind (arith, ints)

pub int_same : (x y : ℤ) → int_eq x y ≡ true → x ≡ y
int_same x y e = grind (arith, ints)

neq_no : (m n : ℕ) → m ≢ n → (m == n) ≡ false
neq_no m n ne = grind arith

pub one_item : {A : Type 0} (x y : A) → Some x ≡ Some y → x ≡ y
one_item x y e = cc

-- nothing is at an address of no block
pub none_stored : (v : Valuation) (es : Edges) (at : ℕ) → AllByRecursion (λ (n : NodeId). v n.0 ≢ pos at) (block_starts es) → stored v es at ≡ None
none_stored v [] at out = refl
none_stored v ((id, Block n shape fields) ∷ es) at out = ap (λ (b : Bool). if b then Some (held v shape fields) else stored v es at) (eq_no (v n.0) (pos at) out.0) ∙ none_stored v es at out.1
none_stored v ((id, Ind n pred args) ∷ es) at out = none_stored v es at out
none_stored v ((id, Seg n args pred «end» ends) ∷ es) at out = none_stored v es at out

-- what holds of each start holds of the block's with an id
pub start_all : (P : NodeId → Type 0) (es : Edges) (id : EdgeId) (n : NodeId) (shape : StructId) (fields : List (Option NodeId)) → edge_with es id ≡ Some (Block n shape fields) → AllByRecursion P (block_starts es) → P n
start_all P [] id n shape fields e all = cc
start_all P ((k, Block m own contents) ∷ es) id n shape fields e all = at (λ h. start_all P es id n shape fields h all.1) (k.0 == id.0) e
  where
    at : (edge_with es id ≡ Some (Block n shape fields) → P n) → (here : Bool) → (if here then Some (Block m own contents) else edge_with es id) ≡ Some (Block n shape fields) → P n
    at later true h = let same : m ≡ n = cc in subst P same all.0
    at later false h = later h
start_all P ((k, Ind m pred args) ∷ es) id n shape fields e all = at (λ h. start_all P es id n shape fields h all) (k.0 == id.0) e
  where
    at : (edge_with es id ≡ Some (Block n shape fields) → P n) → (here : Bool) → (if here then Some (Ind m pred args) else edge_with es id) ≡ Some (Block n shape fields) → P n
    at later true h = cc
    at later false h = later h
start_all P ((k, Seg m args pred «end» ends) ∷ es) id n shape fields e all = at (λ h. start_all P es id n shape fields h all) (k.0 == id.0) e
  where
    at : (edge_with es id ≡ Some (Block n shape fields) → P n) → (here : Bool) → (if here then Some (Seg m args pred «end» ends) else edge_with es id) ≡ Some (Block n shape fields) → P n
    at later true h = cc
    at later false h = later h

-- the block with an id is at its address
pub block_stored : (v : Valuation) (es : Edges) (id : EdgeId) (n : NodeId) (shape : StructId) (fields : List (Option NodeId)) (at : ℕ) → AreApart v (block_starts es)
    → edge_with es id ≡ Some (Block n shape fields) → v n.0 ≡ pos at → stored v es at ≡ Some (held v shape fields)
block_stored v [] id n shape fields at apart e is = cc
block_stored v ((k, Block m own contents) ∷ es) id n shape fields at apart e is = here (λ h. block_stored v es id n shape fields at apart.1 h is) (k.0 == id.0) e
  where
    here : (edge_with es id ≡ Some (Block n shape fields) → stored v es at ≡ Some (held v shape fields)) → (b : Bool) → (if b then Some (Block m own contents) else edge_with es id) ≡ Some (Block n shape fields) → (if int_eq (v m.0) (pos at) then Some (held v own contents) else stored v es at) ≡ Some (held v shape fields)
    here later true h =
        let node : m ≡ n = cc in
        let same : held v own contents ≡ held v shape fields = cc in
        ap (λ (b : Bool). if b then Some (held v own contents) else stored v es at) (eq_yes (v m.0) (pos at) (ap (λ (x : NodeId). v x.0) node ∙ is)) ∙ ap Some same
    here later false h =
        let differ : v m.0 ≢ v n.0 = start_all (λ (b : NodeId). v m.0 ≢ v b.0) es id n shape fields h apart.0 in
        ap (λ (b : Bool). if b then Some (held v own contents) else stored v es at) (eq_no (v m.0) (pos at) (λ same. differ (same ∙ sym is))) ∙ later h
block_stored v ((k, Ind m pred args) ∷ es) id n shape fields at apart e is = here (λ h. block_stored v es id n shape fields at apart h is) (k.0 == id.0) e
  where
    here : (edge_with es id ≡ Some (Block n shape fields) → stored v es at ≡ Some (held v shape fields)) → (b : Bool) → (if b then Some (Ind m pred args) else edge_with es id) ≡ Some (Block n shape fields) → stored v es at ≡ Some (held v shape fields)
    here later true h = cc
    here later false h = later h
block_stored v ((k, Seg m args pred «end» ends) ∷ es) id n shape fields at apart e is = here (λ h. block_stored v es id n shape fields at apart h is) (k.0 == id.0) e
  where
    here : (edge_with es id ≡ Some (Block n shape fields) → stored v es at ≡ Some (held v shape fields)) → (b : Bool) → (if b then Some (Seg m args pred «end» ends) else edge_with es id) ≡ Some (Block n shape fields) → stored v es at ≡ Some (held v shape fields)
    here later true h = cc
    here later false h = later h

-- a new block after the others
pub stored_more : (v : Valuation) (es : Edges) (id : EdgeId) (n : NodeId) (shape : StructId) (fields : List (Option NodeId)) (at : ℕ) → v n.0 ≢ pos at → stored v (es ++ (id, Block n shape fields) ∷ []) at ≡ stored v es at
stored_more v [] id n shape fields at ne = ap (λ (b : Bool). if b then Some (held v shape fields) else None) (eq_no (v n.0) (pos at) ne)
stored_more v ((k, Block m own contents) ∷ es) id n shape fields at ne = ap (λ (o : Option heap.Block). if int_eq (v m.0) (pos at) then Some (held v own contents) else o) (stored_more v es id n shape fields at ne)
stored_more v ((k, Ind m pred args) ∷ es) id n shape fields at ne = stored_more v es id n shape fields at ne
stored_more v ((k, Seg m args pred «end» ends) ∷ es) id n shape fields at ne = stored_more v es id n shape fields at ne

pub stored_new : (v : Valuation) (es : Edges) (id : EdgeId) (n : NodeId) (shape : StructId) (fields : List (Option NodeId)) (at : ℕ) → v n.0 ≡ pos at → stored v es at ≡ None → stored v (es ++ (id, Block n shape fields) ∷ []) at ≡ Some (held v shape fields)
stored_new v [] id n shape fields at is none = ap (λ (b : Bool). if b then Some (held v shape fields) else None) (eq_yes (v n.0) (pos at) is)
stored_new v ((k, Block m own contents) ∷ es) id n shape fields at is none = here (int_eq (v m.0) (pos at)) none (λ h. stored_new v es id n shape fields at is h)
  where
    here : (b : Bool) → (if b then Some (held v own contents) else stored v es at) ≡ None → (stored v es at ≡ None → stored v (es ++ (id, Block n shape fields) ∷ []) at ≡ Some (held v shape fields)) → (if b then Some (held v own contents) else stored v (es ++ (id, Block n shape fields) ∷ []) at) ≡ Some (held v shape fields)
    here true h later = cc
    here false h later = later h
stored_new v ((k, Ind m pred args) ∷ es) id n shape fields at is none = stored_new v es id n shape fields at is none
stored_new v ((k, Seg m args pred «end» ends) ∷ es) id n shape fields at is none = stored_new v es id n shape fields at is none

-- another block at the same node in place of the one with an id
pub stored_others : (v : Valuation) (es : Edges) (id : EdgeId) (n : NodeId) (shape : StructId) (fields others : List (Option NodeId)) (at : ℕ)
    → edge_with es id ≡ Some (Block n shape fields) → v n.0 ≢ pos at → stored v (replaced es id (Block n shape others)) at ≡ stored v es at
stored_others v [] id n shape fields others at e ne = refl
stored_others v ((k, Block m own contents) ∷ es) id n shape fields others at e ne = here (λ h. stored_others v es id n shape fields others at h ne) (k.0 == id.0) e
  where
    here : (edge_with es id ≡ Some (Block n shape fields) → stored v (replaced es id (Block n shape others)) at ≡ stored v es at) → (b : Bool) → (if b then Some (Block m own contents) else edge_with es id) ≡ Some (Block n shape fields)
        → stored v (if b then (k, Block n shape others) ∷ es else (k, Block m own contents) ∷ replaced es id (Block n shape others)) at ≡ (if int_eq (v m.0) (pos at) then Some (held v own contents) else stored v es at)
    here later true h =
        let node : m ≡ n = cc in
        ap (λ (b : Bool). if b then Some (held v shape others) else stored v es at) (eq_no (v n.0) (pos at) ne)
        ∙ sym (ap (λ (b : Bool). if b then Some (held v own contents) else stored v es at) (eq_no (v m.0) (pos at) (λ same. ne (ap (λ (x : NodeId). v x.0) (sym node) ∙ same))))
    here later false h = ap (λ (o : Option heap.Block). if int_eq (v m.0) (pos at) then Some (held v own contents) else o) (later h)
stored_others v ((k, Ind m pred args) ∷ es) id n shape fields others at e ne = here (λ h. stored_others v es id n shape fields others at h ne) (k.0 == id.0) e
  where
    here : (edge_with es id ≡ Some (Block n shape fields) → stored v (replaced es id (Block n shape others)) at ≡ stored v es at) → (b : Bool) → (if b then Some (Ind m pred args) else edge_with es id) ≡ Some (Block n shape fields)
        → stored v (if b then (k, Block n shape others) ∷ es else (k, Ind m pred args) ∷ replaced es id (Block n shape others)) at ≡ stored v es at
    here later true h = cc
    here later false h = later h
stored_others v ((k, Seg m args pred «end» ends) ∷ es) id n shape fields others at e ne = here (λ h. stored_others v es id n shape fields others at h ne) (k.0 == id.0) e
  where
    here : (edge_with es id ≡ Some (Block n shape fields) → stored v (replaced es id (Block n shape others)) at ≡ stored v es at) → (b : Bool) → (if b then Some (Seg m args pred «end» ends) else edge_with es id) ≡ Some (Block n shape fields)
        → stored v (if b then (k, Block n shape others) ∷ es else (k, Seg m args pred «end» ends) ∷ replaced es id (Block n shape others)) at ≡ stored v es at
    here later true h = cc
    here later false h = later h

-- ---- the block with an id goes

pub stored_gone : (v : Valuation) (es : Edges) (id : EdgeId) (n : NodeId) (shape : StructId) (fields : List (Option NodeId)) (at : ℕ) → AreApart v (block_starts es)
    → edge_with es id ≡ Some (Block n shape fields) → v n.0 ≡ pos at → stored v (without es id) at ≡ None
stored_gone v [] id n shape fields at apart e is = refl
stored_gone v ((k, Block m own contents) ∷ es) id n shape fields at apart e is = here (λ h. stored_gone v es id n shape fields at apart.1 h is) (k.0 == id.0) e
  where
    here : (edge_with es id ≡ Some (Block n shape fields) → stored v (without es id) at ≡ None) → (b : Bool) → (if b then Some (Block m own contents) else edge_with es id) ≡ Some (Block n shape fields) → stored v (if b then es else (k, Block m own contents) ∷ without es id) at ≡ None
    here later true h =
        let node : m ≡ n = cc in
        none_stored v es at (all_map (λ (b : NodeId). v m.0 ≢ v b.0) (λ (b : NodeId). v b.0 ≢ pos at) (λ b ne same. ne (ap (λ (x : NodeId). v x.0) node ∙ is ∙ sym same)) (block_starts es) apart.0)
    here later false h =
        let differ : v m.0 ≢ v n.0 = start_all (λ (b : NodeId). v m.0 ≢ v b.0) es id n shape fields h apart.0 in
        ap (λ (b : Bool). if b then Some (held v own contents) else stored v (without es id) at) (eq_no (v m.0) (pos at) (λ same. differ (same ∙ sym is))) ∙ later h
stored_gone v ((k, Ind m pred args) ∷ es) id n shape fields at apart e is = here (λ h. stored_gone v es id n shape fields at apart h is) (k.0 == id.0) e
  where
    here : (edge_with es id ≡ Some (Block n shape fields) → stored v (without es id) at ≡ None) → (b : Bool) → (if b then Some (Ind m pred args) else edge_with es id) ≡ Some (Block n shape fields) → stored v (if b then es else (k, Ind m pred args) ∷ without es id) at ≡ None
    here later true h = cc
    here later false h = later h
stored_gone v ((k, Seg m args pred «end» ends) ∷ es) id n shape fields at apart e is = here (λ h. stored_gone v es id n shape fields at apart h is) (k.0 == id.0) e
  where
    here : (edge_with es id ≡ Some (Block n shape fields) → stored v (without es id) at ≡ None) → (b : Bool) → (if b then Some (Seg m args pred «end» ends) else edge_with es id) ≡ Some (Block n shape fields) → stored v (if b then es else (k, Seg m args pred «end» ends) ∷ without es id) at ≡ None
    here later true h = cc
    here later false h = later h

pub stored_left : (v : Valuation) (es : Edges) (id : EdgeId) (n : NodeId) (shape : StructId) (fields : List (Option NodeId)) (at : ℕ)
    → edge_with es id ≡ Some (Block n shape fields) → v n.0 ≢ pos at → stored v (without es id) at ≡ stored v es at
stored_left v [] id n shape fields at e ne = refl
stored_left v ((k, Block m own contents) ∷ es) id n shape fields at e ne = here (λ h. stored_left v es id n shape fields at h ne) (k.0 == id.0) e
  where
    here : (edge_with es id ≡ Some (Block n shape fields) → stored v (without es id) at ≡ stored v es at) → (b : Bool) → (if b then Some (Block m own contents) else edge_with es id) ≡ Some (Block n shape fields)
        → stored v (if b then es else (k, Block m own contents) ∷ without es id) at ≡ (if int_eq (v m.0) (pos at) then Some (held v own contents) else stored v es at)
    here later true h =
        let node : m ≡ n = cc in
        sym (ap (λ (b : Bool). if b then Some (held v own contents) else stored v es at) (eq_no (v m.0) (pos at) (λ same. ne (ap (λ (x : NodeId). v x.0) (sym node) ∙ same))))
    here later false h = ap (λ (o : Option heap.Block). if int_eq (v m.0) (pos at) then Some (held v own contents) else o) (later h)
stored_left v ((k, Ind m pred args) ∷ es) id n shape fields at e ne = here (λ h. stored_left v es id n shape fields at h ne) (k.0 == id.0) e
  where
    here : (edge_with es id ≡ Some (Block n shape fields) → stored v (without es id) at ≡ stored v es at) → (b : Bool) → (if b then Some (Ind m pred args) else edge_with es id) ≡ Some (Block n shape fields)
        → stored v (if b then es else (k, Ind m pred args) ∷ without es id) at ≡ stored v es at
    here later true h = cc
    here later false h = later h
stored_left v ((k, Seg m args pred «end» ends) ∷ es) id n shape fields at e ne = here (λ h. stored_left v es id n shape fields at h ne) (k.0 == id.0) e
  where
    here : (edge_with es id ≡ Some (Block n shape fields) → stored v (without es id) at ≡ stored v es at) → (b : Bool) → (if b then Some (Seg m args pred «end» ends) else edge_with es id) ≡ Some (Block n shape fields)
        → stored v (if b then es else (k, Seg m args pred «end» ends) ∷ without es id) at ≡ stored v es at
    here later true h = cc
    here later false h = later h

-- ---- what is known of starts, back over the rule

-- of each start, where it is so of those that are left and of the one that goes
pub all_back : (P : NodeId → Type 0) (es : Edges) (id : EdgeId) (n : NodeId) (shape : StructId) (fields : List (Option NodeId))
    → edge_with es id ≡ Some (Block n shape fields) → P n → AllByRecursion P (block_starts (without es id)) → AllByRecursion P (block_starts es)
all_back P [] id n shape fields e its all = tt
all_back P ((k, Block m own contents) ∷ es) id n shape fields e its all = here (λ h a. all_back P es id n shape fields h its a) (k.0 == id.0) e all
  where
    here : (edge_with es id ≡ Some (Block n shape fields) → AllByRecursion P (block_starts (without es id)) → AllByRecursion P (block_starts es)) → (b : Bool) → (if b then Some (Block m own contents) else edge_with es id) ≡ Some (Block n shape fields)
        → AllByRecursion P (block_starts (if b then es else (k, Block m own contents) ∷ without es id)) → P m × AllByRecursion P (block_starts es)
    here later true h a = let node : n ≡ m = cc in (subst P node its, a)
    here later false h a = (a.0, later h a.1)
all_back P ((k, Ind m pred args) ∷ es) id n shape fields e its all = here (λ h a. all_back P es id n shape fields h its a) (k.0 == id.0) e all
  where
    here : (edge_with es id ≡ Some (Block n shape fields) → AllByRecursion P (block_starts (without es id)) → AllByRecursion P (block_starts es)) → (b : Bool) → (if b then Some (Ind m pred args) else edge_with es id) ≡ Some (Block n shape fields)
        → AllByRecursion P (block_starts (if b then es else (k, Ind m pred args) ∷ without es id)) → AllByRecursion P (block_starts es)
    here later true h a = cc
    here later false h a = later h a
all_back P ((k, Seg m args pred «end» ends) ∷ es) id n shape fields e its all = here (λ h a. all_back P es id n shape fields h its a) (k.0 == id.0) e all
  where
    here : (edge_with es id ≡ Some (Block n shape fields) → AllByRecursion P (block_starts (without es id)) → AllByRecursion P (block_starts es)) → (b : Bool) → (if b then Some (Seg m args pred «end» ends) else edge_with es id) ≡ Some (Block n shape fields)
        → AllByRecursion P (block_starts (if b then es else (k, Seg m args pred «end» ends) ∷ without es id)) → AllByRecursion P (block_starts es)
    here later true h a = cc
    here later false h a = later h a

-- starts are apart, where those that are left are, and the one that goes from each of them
pub apart_back : (v : Valuation) (es : Edges) (id : EdgeId) (n : NodeId) (shape : StructId) (fields : List (Option NodeId))
    → edge_with es id ≡ Some (Block n shape fields) → AllByRecursion (λ (b : NodeId). v n.0 ≢ v b.0) (block_starts (without es id)) → AreApart v (block_starts (without es id)) → AreApart v (block_starts es)
apart_back v [] id n shape fields e its apart = tt
apart_back v ((k, Block m own contents) ∷ es) id n shape fields e its apart = here (λ h i a. apart_back v es id n shape fields h i a) (k.0 == id.0) e its apart
  where
    here : (edge_with es id ≡ Some (Block n shape fields) → AllByRecursion (λ (b : NodeId). v n.0 ≢ v b.0) (block_starts (without es id)) → AreApart v (block_starts (without es id)) → AreApart v (block_starts es))
        → (b : Bool) → (if b then Some (Block m own contents) else edge_with es id) ≡ Some (Block n shape fields)
        → AllByRecursion (λ (b : NodeId). v n.0 ≢ v b.0) (block_starts (if b then es else (k, Block m own contents) ∷ without es id)) → AreApart v (block_starts (if b then es else (k, Block m own contents) ∷ without es id))
        → AllByRecursion (λ (b : NodeId). v m.0 ≢ v b.0) (block_starts es) × AreApart v (block_starts es)
    here later true h i a = let node : n ≡ m = cc in (subst (λ (x : NodeId). AllByRecursion (λ (b : NodeId). v x.0 ≢ v b.0) (block_starts es)) node i, a)
    here later false h i a = (all_back (λ (b : NodeId). v m.0 ≢ v b.0) es id n shape fields h (λ same. i.0 (sym same)) a.0, later h i.1 a.1)
apart_back v ((k, Ind m pred args) ∷ es) id n shape fields e its apart = here (λ h i a. apart_back v es id n shape fields h i a) (k.0 == id.0) e its apart
  where
    here : (edge_with es id ≡ Some (Block n shape fields) → AllByRecursion (λ (b : NodeId). v n.0 ≢ v b.0) (block_starts (without es id)) → AreApart v (block_starts (without es id)) → AreApart v (block_starts es))
        → (b : Bool) → (if b then Some (Ind m pred args) else edge_with es id) ≡ Some (Block n shape fields)
        → AllByRecursion (λ (b : NodeId). v n.0 ≢ v b.0) (block_starts (if b then es else (k, Ind m pred args) ∷ without es id)) → AreApart v (block_starts (if b then es else (k, Ind m pred args) ∷ without es id))
        → AreApart v (block_starts es)
    here later true h i a = cc
    here later false h i a = later h i a
apart_back v ((k, Seg m args pred «end» ends) ∷ es) id n shape fields e its apart = here (λ h i a. apart_back v es id n shape fields h i a) (k.0 == id.0) e its apart
  where
    here : (edge_with es id ≡ Some (Block n shape fields) → AllByRecursion (λ (b : NodeId). v n.0 ≢ v b.0) (block_starts (without es id)) → AreApart v (block_starts (without es id)) → AreApart v (block_starts es))
        → (b : Bool) → (if b then Some (Seg m args pred «end» ends) else edge_with es id) ≡ Some (Block n shape fields)
        → AllByRecursion (λ (b : NodeId). v n.0 ≢ v b.0) (block_starts (if b then es else (k, Seg m args pred «end» ends) ∷ without es id)) → AreApart v (block_starts (if b then es else (k, Seg m args pred «end» ends) ∷ without es id))
        → AreApart v (block_starts es)
    here later true h i a = cc
    here later false h i a = later h i a

-- ---- what is at an address is a block with an id
pub record IsFound (v : Valuation) (es : Edges) (at : ℕ) (b : heap.Block) (low : ℕ) : Type 0 where
  pub id : EdgeId
  pub node : NodeId
  pub shape : StructId
  pub fields : List (Option NodeId)
  pub there : edge_with es id ≡ Some (Block node shape fields)
  pub leads : v node.0 ≡ pos at
  pub is : b ≡ held v shape fields
  pub above : low ≤ id.0

found_later : (v : Valuation) (k : EdgeId) (x : Edge) (es : Edges) (at : ℕ) (b : heap.Block) (low : ℕ) → low ≤ k.0 → IsFound v es at b (suc k.0) → IsFound v ((k, x) ∷ es) at b low
found_later v k x es at b low le f =
    let ne : k.0 ≢ f.id.0 = λ same. (let ab = f.above in omega arith) in
    record {
      id = f.id;
      node = f.node;
      shape = f.shape;
      fields = f.fields;
      there = ap (λ (c : Bool). if c then Some x else edge_with es f.id) (neq_no k.0 f.id.0 ne) ∙ f.there;
      leads = f.leads;
      is = f.is;
      above = (let ab = f.above in omega arith);
    }

pub stored_found : (v : Valuation) (es : Edges) (at : ℕ) (b : heap.Block) (low high : ℕ) → IdsAscend low es high → stored v es at ≡ Some b → IsFound v es at b low
stored_found v [] at b low high up e = cc
stored_found v ((k, Block m own contents) ∷ es) at b low high up e = here (int_eq (v m.0) (pos at)) refl e (λ h. stored_found v es at b (suc k.0) high up.2 h)
  where
    here : (c : Bool) → int_eq (v m.0) (pos at) ≡ c → (if c then Some (held v own contents) else stored v es at) ≡ Some b → (stored v es at ≡ Some b → IsFound v es at b (suc k.0)) → IsFound v ((k, Block m own contents) ∷ es) at b low
    here true is h later = record {
      id = k;
      node = m;
      shape = own;
      fields = contents;
      there = ap (λ (c : Bool). if c then Some (Block m own contents) else edge_with es k) (eq-eqb k.0 k.0 refl);
      leads = int_same (v m.0) (pos at) is;
      is = sym (one_item (held v own contents) b h);
      above = (let u = up.0 in omega arith);
    }
    here false is h later = found_later v k (Block m own contents) es at b low (let u = up.0 in omega arith) (later h)
stored_found v ((k, Ind m pred args) ∷ es) at b low high up e = found_later v k (Ind m pred args) es at b low (let u = up.0 in omega arith) (stored_found v es at b (suc k.0) high up.2 e)
stored_found v ((k, Seg m args pred «end» ends) ∷ es) at b low high up e = found_later v k (Seg m args pred «end» ends) es at b low (let u = up.0 in omega arith) (stored_found v es at b (suc k.0) high up.2 e)
