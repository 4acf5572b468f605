-- The rules of blocks are judged by their instances.
use Rattle.std.proofs.Common.{◌≡◌, ◌<◌, ◌≤◌, ℕ, zero, suc, List, [], ◌∷◌, Bool, true, false, Option, Some, None, length, map, slice_get, refl, ap, ap₂, sym, ◌∙◌, subst, eqb-true, eq-eqb, arith, pos}
use Rattle.std.specs.Prelude.{◌==◌, not, Ok, if◌then◌else◌, option_map, option_and_then}
use Rattle.std.specs.List.{find}
use Rattle.std.specs.Ordering.{int_eq}
use Rattle.std.proofs.lemmas.Bool.Decides.{Decides-int_eq}
use Rattle.mc_base.specs.declared.ids.EdgeId.{EdgeId}
use Rattle.mc_base.specs.declared.ids.NodeId.{NodeId}
use Rattle.mc_base.specs.declared.ids.PointId.{PointId}
use Rattle.mc_base.specs.declared.ids.StructId.{StructId}
use Rattle.mc_base.specs.declared.plain.Kind.{Kind}
use Rattle.mc_base.specs.declared.plain.Kind.TheVariants.{Ptr}
use Rattle.mc_base.specs.declared.plain.VarInfo.{VarInfo}
use Rattle.mc_base.specs.Nodes.{null}
use Rattle.mc_flow.specs.declared.defs.rules.Def.{Def}
use Rattle.mc_flow.specs.declared.defs.shapes.StructInfo.{StructInfo}
use Rattle.mc_flow.specs.declared.graph.Flow.{Flow}
use Rattle.mc_flow.specs.declared.instr.Instr.TheVariants as instr
use Rattle.mc_flow.specs.declared.instr.Operand.{Operand}
use Rattle.mc_flow.specs.declared.instr.Operand.TheVariants.{Var, Const}
use Rattle.mc_flow.specs.Valid.{IsValid, IsOperand}
use Rattle.mc_state.specs.declared.graph.edge.Edge.{Edge}
use Rattle.mc_state.specs.declared.graph.edge.Edge.TheVariants.{Block, Ind, Seg}
use Rattle.mc_state.specs.Graph.Edges.{fields_of, with_field_node}
use Rattle.mc_state.specs.Graph.Graph.{Edges, edge_with, IdsAscend}
use Rattle.mc_state.specs.Known.{Test, Tells, is_false, equal}
use Rattle.mc_state.proofs.Numbered.{need_ok, have_ok}
use Rattle.mc_state.proofs.Tests.{not_false, is_sound, equal_from, equal_to, and_both, and_yes}
use Rattle.mc_pure.specs.Laws.{BlocksAtOneNode}
use Rattle.mc_pure.specs.Pure.{Kinds}
use Rattle.mc_state.specs.State.{State, var_node, with_number}
use Rattle.mc_state.specs.Facts.{AreEqual}
use Rattle.mc_state.specs.Fits.{MayHaveKinds, EdgeFitsStructs, IsWellMade}
use Rattle.mc_rules_steps.specs.Next.{Next}
use Rattle.mc_rules_steps.specs.Instructions.{load_of, store_of, free_of}
use Rattle.mc_rules_steps.specs.JudgedLaws.{FieldsAreThere}
use Rattle.mc_rules_steps.specs.Judges.{is_shaped_at, is_block_at, flat_node, known_field, loading, with_replaced, storing, freeing_null, with_freed, freeing}
use Rattle.mc_rules_steps.specs.Operands.{code_at, operand_node, with_operand, HasBlock}
use Rattle.mc_rules_steps.specs.Steps.{moved_to, S8Is, S9Is, S11Is, S12Is}
use Rattle.mc_rules_steps.proofs.Forms.{ok_is, ok_to, load_is, store_is, free_is}
use Rattle.mc_rules_steps.proofs.Lists.{edge_at}
use Rattle.mc_rules_steps.proofs.Moving.{fits_at}
use Rattle.mc_rules_steps.proofs.OneBlock.{one_block, same_id, same_edge}

-- ---- what is found

-- what is found is there by its id, and its id is no less than the least
pub found_there : (low : ℕ) (es : Edges) (high : ℕ) (test : EdgeId × Edge → Bool) (e : EdgeId × Edge) → IdsAscend low es high → find test es ≡ Some e → (edge_with es e.0 ≡ Some e.1) × (low ≤ e.0.0) × (test e ≡ true)
found_there low [] high test e a is = absurd (cc is)
found_there low (x ∷ es) high test e a is = at (λ h. found_there (suc x.0.0) es high test e a.2 h) (test x) refl is
  where
    first : low < suc x.0.0
    first = a.0

    at : (find test es ≡ Some e → (edge_with es e.0 ≡ Some e.1) × (suc x.0.0 ≤ e.0.0) × (test e ≡ true)) → (b : Bool) → test x ≡ b → (if b then Some x else find test es) ≡ Some e → ((if x.0.0 == e.0.0 then Some x.1 else edge_with es e.0) ≡ Some e.1) × (low ≤ e.0.0) × (test e ≡ true)
    at rest true holds is =
        let same : x ≡ e = cc is in
        let id : (x.0.0 == e.0.0) ≡ true = eq-eqb x.0.0 e.0.0 (ap (λ (e : EdgeId × Edge). e.0.0) same) in
        let below : low ≤ x.0.0 = let less = first in omega arith in
        let ids : x.0.0 ≡ e.0.0 = ap (λ (e : EdgeId × Edge). e.0.0) same in
        (ap (λ b. if b then Some x.1 else edge_with es e.0) id ∙ ap (λ (e : EdgeId × Edge). Some e.1) same, omega arith, sym (ap test same) ∙ holds)
    at rest false holds is =
        let more = rest is in
        let above = more.1 in
        let less = first in
        let differ : (x.0.0 == e.0.0) ≡ false = lower x.0.0 e.0.0 above in
        (ap (λ b. if b then Some x.1 else edge_with es e.0) differ ∙ more.0, omega arith, more.2) where
          lower : (a b : ℕ) → suc a ≤ b → (a == b) ≡ false
          lower a b less = grind arith

-- something is found where an edge passes
finds : (es : Edges) (test : EdgeId × Edge → Bool) (id : EdgeId) (e : Edge) → edge_with es id ≡ Some e → ((k : EdgeId) → test (k, e) ≡ true) → (x : EdgeId × Edge) × (find test es ≡ Some x)
finds [] test id e is holds = absurd (cc is)
finds (x ∷ es) test id e is holds = at (λ h. finds es test id e h holds) (test x) refl (x.0.0 == id.0) is
  where
    at : (edge_with es id ≡ Some e → (y : EdgeId × Edge) × (find test es ≡ Some y)) → (b : Bool) → test x ≡ b → (here : Bool) → (if here then Some x.1 else edge_with es id) ≡ Some e → (y : EdgeId × Edge) × ((if b then Some x else find test es) ≡ Some y)
    at rest true t here is = (x, refl)
    at rest false t true is =
        let same : x.1 ≡ e = cc is in
        let yes' : test x ≡ true = ap (λ y. test (x.0, y)) same ∙ holds x.0 in
        absurd (cc (t, yes'))
    at rest false t false is = rest is

-- a block at an equal node that is this edge
pub record IsBlockOf (s : State) (n : NodeId) (shape : StructId) (id : EdgeId) (e : Edge) : Type 0 where
  pub block : HasBlock s n shape
  pub id_is : id ≡ block.id
  pub edge_is : e ≡ Block block.at shape block.fields

module _ (know : Test) (s : State) (tells : Tells know s) (n : NodeId) where
  shaped_block : (shape : StructId) (id : EdgeId) (e : Edge) → edge_with s.graph.edges id ≡ Some e → is_shaped_at know n shape (id, e) ≡ true → IsBlockOf s n shape id e
  shaped_block shape id (Ind at pred args) there e = absurd (cc e)
  shaped_block shape id (Seg at args pred stop ends) there e = absurd (cc e)
  shaped_block shape id (Block at own fields) there e =
      let both = and_both (shape.0 == own.0) (equal know n at) e in
      let same : own ≡ shape = ap (λ k. record { 0 = k }) (sym (eqb-true shape.0 own.0 both.0)) in
      record {
        block = record { id = id; at = at; fields = fields; there = there ∙ ap (λ o. Some (Block at o fields)) same; equal = equal_from know s tells n at both.1 };
        id_is = refl;
        edge_is = ap (λ o. Block at o fields) same;
      }

  shaped_passes : (shape : StructId) (h : HasBlock s n shape) (k : EdgeId) → is_shaped_at know n shape (k, Block h.at shape h.fields) ≡ true
  shaped_passes shape h k = and_yes (shape.0 == shape.0) (equal know n h.at) (eq-eqb shape.0 shape.0 refl) (equal_to know s tells n h.at h.equal)

  any_block : (id : EdgeId) (e : Edge) → edge_with s.graph.edges id ≡ Some e → is_block_at know n (id, e) ≡ true → (shape : StructId) × IsBlockOf s n shape id e
  any_block id (Ind at pred args) there e = absurd (cc e)
  any_block id (Seg at args pred stop ends) there e = absurd (cc e)
  any_block id (Block at own fields) there e =
      (own, record { block = record { id = id; at = at; fields = fields; there = there; equal = equal_from know s tells n at e }; id_is = refl; edge_is = refl })

  any_passes : (shape : StructId) (h : HasBlock s n shape) (k : EdgeId) → is_block_at know n (k, Block h.at shape h.fields) ≡ true
  any_passes shape h k = equal_to know s tells n h.at h.equal

some_field : (fields : List (Option NodeId)) (m : NodeId) (f : ℕ) (e : Edge) → fields ≡ fields_of e → known_field e f ≡ Some m → slice_get fields f ≡ Some (Some m)
some_field fields m f e same is = ap (λ l. slice_get l f) same ∙ inner (slice_get (fields_of e) f) is
  where
    inner : (o : Option (Option NodeId)) → flat_node o ≡ Some m → o ≡ Some (Some m)
    inner None is = absurd (cc is)
    inner (Some None) is = absurd (cc is)
    inner (Some (Some n)) is = ap (λ (o : Option NodeId). Some o) is

-- ---- fields that are there

same_length : (kinds : Kinds) (ks : List Kind) (fields : List (Option NodeId)) → MayHaveKinds kinds ks fields → length fields ≡ length ks
same_length kinds [] [] h = refl
same_length kinds [] (n ∷ ns) h = absurd h
same_length kinds (k ∷ ks) [] h = absurd h
same_length kinds (k ∷ ks) (n ∷ ns) h = ap suc (same_length kinds ks ns h.1)

map_there : {X : Type 0} (g : X → Kind) (xs : List X) (f : ℕ) (kind : Kind) → option_map g (slice_get xs f) ≡ Some kind → f < length (map g xs)
map_there g [] f kind e = absurd (cc e)
map_there g (x ∷ xs) zero kind e = omega arith
map_there g (x ∷ xs) (suc f) kind e = let more = map_there g xs f kind e in omega arith

pub fields_there : FieldsAreThere
fields_there flow s n shape f kind block fits field =
    let e = edge_at (EdgeFitsStructs flow.structs.list s.kinds) s.graph.edges block.id (Block block.at shape block.fields) block.there fits.blocks_fit in
    let info = e.0 in
    let known : slice_get flow.structs.list shape.0 ≡ Some info = e.1 in
    let inside : option_map (λ f. f.kind) (slice_get info.fields f) ≡ Some kind =
    sym (ap (option_and_then (λ (info : StructInfo). option_map (λ f. f.kind) (slice_get info.fields f))) known) ∙ field in
    let there = map_there (λ f. f.kind) info.fields f kind inside in
    let long = same_length s.kinds (map (λ f. f.kind) info.fields) block.fields e.2 in
    omega arith

-- a pointer's node is there from the beginning
pub pointer_stays : (vars : List VarInfo) (o : Operand) (s : State) → IsOperand vars Ptr o → with_operand s o ≡ s
pointer_stays vars (Var x) s fits = refl
pointer_stays vars (Const c) s fits =
    let zero : int_eq c (pos 0) ≡ true = (Decides-int_eq c (pos 0)).1 fits in
    ap (λ b. if◌then◌else◌ {A = State} b s (with_number s c)) zero

module _ (law : BlocksAtOneNode) (know : Test) (flow : Flow) (defs : List Def) (p : PointId) (s : State) (valid : IsValid flow defs) (made : IsWellMade defs flow.vars flow.structs.list s) (tells : Tells know s) (next : List Next) where
  pub load_from : loading know (code_at flow p) s ≡ Ok next → S8Is flow p s next
  load_from e =
      let es = s.graph.edges in
      let one = have_ok 1 (load_of (code_at flow p)) _ next e in
      let i = one.0 in
      let two = need_ok 2 _ _ next one.2 in
      let three = have_ok 3 (var_node s i.y) _ next two.1 in
      let n = three.0 in
      let four = have_ok 4 (find (is_shaped_at know n i.shape) es) _ next three.2 in
      let x = four.0 in
      let five = have_ok 5 (known_field x.1 i.f) _ next four.2 in
      let found = found_there 0 es s.graph.next (is_shaped_at know n i.shape) x made.bounded.ids four.1 in
      let block = shaped_block know s tells n i.shape x.0 x.1 found.0 found.2 in
      record {
        x = i.x;
        y = i.y;
        shape = i.shape;
        f = i.f;
        q = i.q;
        at = load_is (code_at flow p) i one.1;
        consistent = not_false know s tells two.0;
        n = n;
        known = three.1;
        block = block.block;
        m = five.0;
        field = some_field block.block.fields five.0 i.f x.1 (sym (ap fields_of block.edge_is)) five.1;
        gives = ok_is _ next five.2;
      }

  pub load_to : S8Is flow p s next → loading know (code_at flow p) s ≡ Ok next
  load_to i =
      let es = s.graph.edges in
      let b = i.block in
      let here : load_of (code_at flow p) ≡ Some (record { x = i.x; y = i.y; shape = i.shape; f = i.f; q = i.q }) = ap load_of i.at in
      let sound : not (is_false know) ≡ true = is_sound know s tells i.consistent in
      let known : var_node s i.y ≡ Some i.n = i.known in
      let x = finds es (is_shaped_at know i.n i.shape) b.id (Block b.at i.shape b.fields) b.there (shaped_passes know s tells i.n i.shape b) in
      let find_is : find (is_shaped_at know i.n i.shape) es ≡ Some x.0 = x.1 in
      let found = found_there 0 es s.graph.next (is_shaped_at know i.n i.shape) x.0 made.bounded.ids x.1 in
      let other = shaped_block know s tells i.n i.shape x.0.0 x.0.1 found.0 found.2 in
      let fields : fields_of x.0.1 ≡ b.fields = ap fields_of other.edge_is ∙ one_block law s i.n i.shape other.block b i.consistent in
      let field : known_field x.0.1 i.f ≡ Some i.m = ap (λ l. flat_node (slice_get l i.f)) fields ∙ ap flat_node i.field in
      rw here (rw sound (rw known (rw find_is (rw field (ok_to _ next i.gives)))))

  pub store_from : storing know (code_at flow p) s ≡ Ok next → S9Is flow p s next
  store_from e =
      let es = s.graph.edges in
      let one = have_ok 1 (store_of (code_at flow p)) _ next e in
      let i = one.0 in
      let two = need_ok 2 _ _ next one.2 in
      let three = have_ok 3 (operand_node s i.from) _ next two.1 in
      let m = three.0 in
      let four = have_ok 4 (var_node s i.y) _ next three.2 in
      let n = four.0 in
      let five = have_ok 5 (find (is_shaped_at know n i.shape) es) _ next four.2 in
      let x = five.0 in
      let found = found_there 0 es s.graph.next (is_shaped_at know n i.shape) x made.bounded.ids five.1 in
      let block = shaped_block know s tells n i.shape x.0 x.1 found.0 found.2 in
      let b = block.block in
      let at = store_is (code_at flow p) i one.1 in
      let fits = fits_at flow defs p (instr.Store i.y i.shape i.f i.from i.q) valid at in
      let before = with_operand s i.from in
      record {
        y = i.y;
        shape = i.shape;
        f = i.f;
        from = i.from;
        q = i.q;
        at = at;
        consistent = not_false know s tells two.0;
        m = m;
        value = three.1;
        n = n;
        known = four.1;
        block = b;
        field = fields_there flow s n i.shape i.f fits.0 b made.fits_program fits.2;
        before = before;
        operand = refl;
        gives = ok_is _ next five.2 ∙ ap₂ (λ id e. moved_to i.q (with_replaced before id (with_field_node i.f m e)) ∷ []) block.id_is block.edge_is;
      }

  pub store_to : S9Is flow p s next → storing know (code_at flow p) s ≡ Ok next
  store_to i =
      let es = s.graph.edges in
      let b = i.block in
      let here : store_of (code_at flow p) ≡ Some (record { y = i.y; shape = i.shape; f = i.f; from = i.from; q = i.q }) = ap store_of i.at in
      let sound : not (is_false know) ≡ true = is_sound know s tells i.consistent in
      let value : operand_node s i.from ≡ Some i.m = i.value in
      let known : var_node s i.y ≡ Some i.n = i.known in
      let x = finds es (is_shaped_at know i.n i.shape) b.id (Block b.at i.shape b.fields) b.there (shaped_passes know s tells i.n i.shape b) in
      let find_is : find (is_shaped_at know i.n i.shape) es ≡ Some x.0 = x.1 in
      let found = found_there 0 es s.graph.next (is_shaped_at know i.n i.shape) x.0 made.bounded.ids x.1 in
      let other = shaped_block know s tells i.n i.shape x.0.0 x.0.1 found.0 found.2 in
      let ids : b.id ≡ x.0.0 = same_id law s i.n i.shape i.shape b other.block i.consistent ∙ sym other.id_is in
      let edges : Block b.at i.shape b.fields ≡ x.0.1 = same_edge law s i.n i.shape i.shape b other.block i.consistent ∙ sym other.edge_is in
      let put = λ (t : State) (id : EdgeId) (e : Edge). moved_to i.q (with_replaced t id (with_field_node i.f i.m e)) ∷ [] in
      rw here (rw sound (rw value (rw known (rw find_is (ok_to _ next
      (i.gives ∙ ap (λ t. put t b.id (Block b.at i.shape b.fields)) i.operand ∙ ap₂ (put (with_operand s i.from)) ids edges))))))

  pub null_from : freeing_null know (code_at flow p) s ≡ Ok next → S11Is flow p s next
  null_from e =
      let one = have_ok 1 (free_of (code_at flow p)) _ next e in
      let i = one.0 in
      let two = need_ok 2 _ _ next one.2 in
      let three = have_ok 3 (operand_node s i.0) _ next two.1 in
      let n = three.0 in
      let four = need_ok 4 (equal know n null) _ next three.2 in
      let at = free_is (code_at flow p) i one.1 in
      let stays = pointer_stays flow.vars i.0 s (fits_at flow defs p (instr.Free i.0 i.1) valid at) in
      record {
        from = i.0;
        q = i.1;
        at = at;
        consistent = not_false know s tells two.0;
        n = n;
        known = three.1;
        zero = subst (λ (t : State). AreEqual t n null) (sym stays) (equal_from know s tells n null four.0);
        gives = ok_is _ next four.1;
      }

  pub null_to : S11Is flow p s next → freeing_null know (code_at flow p) s ≡ Ok next
  null_to i =
      let here : free_of (code_at flow p) ≡ Some (i.from, i.q) = ap free_of i.at in
      let sound : not (is_false know) ≡ true = is_sound know s tells i.consistent in
      let known : operand_node s i.from ≡ Some i.n = i.known in
      let stays = pointer_stays flow.vars i.from s (fits_at flow defs p (instr.Free i.from i.q) valid i.at) in
      let zero : equal know i.n null ≡ true = equal_to know s tells i.n null (subst (λ (t : State). AreEqual t i.n null) stays i.zero) in
      rw here (rw sound (rw known (rw zero (ok_to _ next i.gives))))

  pub free_from : freeing know (code_at flow p) s ≡ Ok next → S12Is flow p s next
  free_from e =
      let es = s.graph.edges in
      let one = have_ok 1 (free_of (code_at flow p)) _ next e in
      let i = one.0 in
      let two = need_ok 2 _ _ next one.2 in
      let three = have_ok 3 (operand_node s i.0) _ next two.1 in
      let n = three.0 in
      let four = have_ok 4 (find (is_block_at know n) es) _ next three.2 in
      let x = four.0 in
      let found = found_there 0 es s.graph.next (is_block_at know n) x made.bounded.ids four.1 in
      let any = any_block know s tells n x.0 x.1 found.0 found.2 in
      let block = any.1 in
      let at = free_is (code_at flow p) i one.1 in
      let stays = pointer_stays flow.vars i.0 s (fits_at flow defs p (instr.Free i.0 i.1) valid at) in
      record {
        from = i.0;
        q = i.1;
        at = at;
        consistent = not_false know s tells two.0;
        n = n;
        known = three.1;
        before = s;
        operand = sym stays;
        shape = any.0;
        block = block.block;
        gives = ok_is _ next four.2 ∙ ap (λ t. moved_to i.1 (with_freed t x.0 x.1) ∷ []) stays ∙ ap₂ (λ id e. moved_to i.1 (with_freed s id e) ∷ []) block.id_is block.edge_is;
      }

  -- a block lies in this state, and it is freed
  abbrev Frees : PointId → NodeId → StructId → State → Type 0
  Frees q n shape t = (block : HasBlock t n shape) × (next ≡ moved_to q (with_freed t block.id (Block block.at shape block.fields)) ∷ [])

  pub free_to : S12Is flow p s next → freeing know (code_at flow p) s ≡ Ok next
  free_to i =
      let es = s.graph.edges in
      let here : free_of (code_at flow p) ≡ Some (i.from, i.q) = ap free_of i.at in
      let sound : not (is_false know) ≡ true = is_sound know s tells i.consistent in
      let known : operand_node s i.from ≡ Some i.n = i.known in
      let stays : with_operand s i.from ≡ s = pointer_stays flow.vars i.from s (fits_at flow defs p (instr.Free i.from i.q) valid i.at) in
      let frees = subst (Frees i.q i.n i.shape) (i.operand ∙ stays) (i.block, i.gives) in
      let b = frees.0 in
      let x = finds es (is_block_at know i.n) b.id (Block b.at i.shape b.fields) b.there (any_passes know s tells i.n i.shape b) in
      let find_is : find (is_block_at know i.n) es ≡ Some x.0 = x.1 in
      let found = found_there 0 es s.graph.next (is_block_at know i.n) x.0 made.bounded.ids x.1 in
      let any = any_block know s tells i.n x.0.0 x.0.1 found.0 found.2 in
      let other = any.1 in
      let ids : b.id ≡ x.0.0 = same_id law s i.n i.shape any.0 b other.block i.consistent ∙ sym other.id_is in
      let edges : Block b.at i.shape b.fields ≡ x.0.1 = same_edge law s i.n i.shape any.0 b other.block i.consistent ∙ sym other.edge_is in
      rw here (rw sound (rw known (rw find_is (ok_to _ next
      (frees.1 ∙ ap₂ (λ id e. moved_to i.q (with_freed s id e) ∷ []) ids edges ∙ ap (λ t. moved_to i.q (with_freed t x.0.0 x.0.1) ∷ []) (sym stays))))))
