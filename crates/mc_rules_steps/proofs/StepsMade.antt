-- What rules of instructions make of a well-made state is well made.
use Rattle.std.proofs.Common.{◌≡◌, ◌&&◌, ◌≤◌, ◌<◌, ◌+◌, ℕ, zero, suc, List, [], ◌∷◌, ◌++◌, length, map, take, drop, replicate, Bool, true, false, Option, Some, None, slice_get, slice_set, refl, ap, sym, ◌∙◌, subst, inl, arith, ℤ, pos, negsuc, neg_ℤ, ◌≤ℤ◌}
use Rattle.std.specs.Prelude.{if◌then◌else◌, option_map, option_and_then}
use Rattle.std.specs.Option.{option_map_or}
use Rattle.std.specs.List.{AllByRecursion}
use Rattle.std.proofs.lemmas.Int.{ints, clamps}
use Rattle.mc_base.specs.declared.ids.EdgeId.{EdgeId}
use Rattle.mc_base.specs.declared.ids.NodeId.{NodeId}
use Rattle.mc_base.specs.declared.ids.PointId.{PointId}
use Rattle.mc_base.specs.declared.ids.StructId.{StructId}
use Rattle.mc_base.specs.declared.ids.VarId.{VarId}
use Rattle.mc_base.specs.declared.plain.Atom.{Atom}
use Rattle.mc_base.specs.declared.plain.Atom.TheVariants.{Eq, Ne, In}
use Rattle.mc_base.specs.declared.plain.Kind.{Kind}
use Rattle.mc_base.specs.declared.plain.Kind.TheVariants.{Int, Ptr}
use Rattle.mc_base.specs.Nodes.{null}
use Rattle.mc_flow.specs.declared.defs.rules.Def.{Def}
use Rattle.mc_flow.specs.declared.defs.rules.DefAtom.{DefAtom}
use Rattle.mc_flow.specs.declared.defs.rules.DefAtom.TheVariants as def
use Rattle.mc_flow.specs.declared.defs.rules.Rule.{Rule}
use Rattle.mc_flow.specs.declared.defs.shapes.StructInfo.{StructInfo}
use Rattle.mc_flow.specs.Defs.Conditions.{kinds_of, content_kinds, AtomsFit, RuleFitsStructs, DefFits}
use Rattle.mc_flow.specs.declared.graph.Flow.{Flow}
use Rattle.mc_flow.specs.declared.instr.Instr.TheVariants as instr
use Rattle.mc_flow.specs.declared.instr.Operand.{Operand}
use Rattle.mc_flow.specs.Steps.{field_count}
use Rattle.mc_flow.specs.Valid.{IsValid, IsVar, IsOperand, IsField, IsStruct}
use Rattle.mc_flow.specs.Values.{wrapped}
use Rattle.mc_state.specs.declared.graph.edge.Edge.{Edge}
use Rattle.mc_state.specs.declared.graph.edge.Edge.TheVariants as edge
use Rattle.mc_state.specs.Graph.Edges.{known_nodes, nodes_of}
use Rattle.mc_state.specs.Graph.Graph.{Edges, without, block_starts}
use Rattle.mc_pure.specs.Pure.{Kinds, HasKind, IsNode, IsWellFormed, IsOffset}
use Rattle.mc_base.specs.declared.ranges.Range.{Range}
use Rattle.mc_state.specs.State.{State, pure_of, next_node, with_var, without_vars, with_nodes, with_atoms, with_only_edges, with_block}
use Rattle.mc_state.specs.Fits.{AreNodes, HaveKinds, MayHaveKinds, EdgeFitsDefs, EdgeFitsStructs, IsWellMade}
use Rattle.mc_rules_steps.specs.Next.{Next}
use Rattle.mc_rules_steps.specs.JudgedLaws.{IsMadeFor, StepsAreWellMade}
use Rattle.mc_rules_steps.specs.Judges.{with_replaced, with_shape, side_branch}
use Rattle.mc_state.specs.declared.line.InstrRule.TheVariants as rule
use Rattle.mc_rules_steps.specs.Laws.{IsStep}
use Rattle.mc_rules_steps.specs.Operands.{with_operand, with_operands, HasBlock}
use Rattle.mc_rules_steps.specs.Steps.{moved_to, is_single, stays_int, in_range, range_atoms, offset_atom, sum_offsets, difference_offsets, no_offsets, freed_atoms, le_atoms, gt_atoms, Computes}
use Rattle.mc_rules_steps.specs.Steps.{S8Is, S9Is, S10Is, S12Is, S13Is, S14Is, S15Is, S16Is}
use Rattle.mc_rules_steps.proofs.Grown.{have_grows, all_may_grow, known_kind, kind_set, all_unknown, map_slice, length_map, length_unknown, length_set}
use Rattle.mc_rules_steps.proofs.LeastRanges.{least_range_is_of_ints}
use Rattle.mc_rules_steps.proofs.Lists.{all_append, all_map, all_at, edge_at, known_set}
use Rattle.mc_rules_steps.proofs.LowerLaws.{MadeLaws}
use Rattle.mc_rules_steps.proofs.Moving.{fits_at}
use Rattle.mc_rules_steps.proofs.WellMade.{nodes_made, new_kind, new_grows, atoms_made, set_made, forgotten_made, edge_made, fewer_made, replaced_made, operand_made, two_made, many_made}
use Rattle.mc_rules_steps.proofs.Wrapping.{wrapped_int}

-- ---- atoms of results

abbrev AreWell : Kinds → List Atom → Type 0
AreWell kinds atoms = AllByRecursion (IsWellFormed kinds) atoms

-- an end of a range is an offset
end_offset : (c : ℤ) → (negsuc 4611686018427387903 ≤ℤ c) × (c ≤ℤ pos 4611686018427387904) → IsOffset c
end_offset c h = let low = h.0 in let high = h.1 in (omega (arith, ints), omega (arith, ints))

less_offset : (c : ℤ) → (negsuc 4611686018427387903 ≤ℤ c) × (c ≤ℤ pos 4611686018427387904) → IsOffset (neg_ℤ c)
less_offset c h = let low = h.0 in let high = h.1 in (omega (arith, ints), omega (arith, ints))

-- what is written of a result's offsets is well formed
abbrev OffsetsAreWell : (NodeId → NodeId → NodeId → Range → Range → List Atom) → Type 0
OffsetsAreWell offsets =
    (kinds : Kinds) (n a b : NodeId) (left right : Range) → HasKind kinds Int n → HasKind kinds Int a → HasKind kinds Int b → AreWell kinds (offsets n a b left right)

offset_well : (kinds : Kinds) (n a : NodeId) (left right : Range) (add : ℤ) → HasKind kinds Int n → HasKind kinds Int a → IsOffset add → AreWell kinds (offset_atom n a left right add)
offset_well kinds n a left right add is other fits = at (is_single right && stays_int left add)
  where
    at : (test : Bool) → AreWell kinds (if test then Eq n a add ∷ [] else [])
    at true = (((Int, is, other), fits), tt)
    at false = tt

sum_well : OffsetsAreWell sum_offsets
sum_well kinds n a b left right is l r =
    all_append (IsWellFormed kinds) (offset_atom n a left right right.lo) (offset_atom n b right left left.lo)
    (offset_well kinds n a left right right.lo is l (end_offset right.lo right.low_end)) (offset_well kinds n b right left left.lo is r (end_offset left.lo left.low_end))

difference_well : OffsetsAreWell difference_offsets
difference_well kinds n a b left right is l r = offset_well kinds n a left right (neg_ℤ right.lo) is l (less_offset right.lo right.low_end)

no_well : OffsetsAreWell no_offsets
no_well kinds n a b left right is l r = tt

range_well : (op : ℤ → ℤ → ℤ) (kinds : Kinds) (n : NodeId) (left right : Range) (results : Option Range) → HasKind kinds Int n → AreWell kinds (range_atoms op n left right results)
range_well op kinds n left right results is = at (is_single left && is_single right)
  where
    within : (o : Option Range) → AreWell kinds (in_range n o)
    within None = tt
    within (Some r) = (((Int, is), r.low_end, r.high_end), tt)

    at : (test : Bool) → AreWell kinds (if test then In n (wrapped (op left.lo right.lo)) (wrapped (op left.lo right.lo)) ∷ [] else in_range n results)
    at true =
        let int = wrapped_int (op left.lo right.lo) in
        let low = int.0 in
        let high = int.1 in
        (((Int, is), (omega (arith, ints), omega (arith, ints)), (omega (arith, ints), omega (arith, ints))), tt)
    at false = within results

-- ---- blocks of definitions

atoms_reach : (names : List Kind) (known : ℕ) (atoms : List DefAtom) → AtomsFit names known atoms → known ≤ length names
atoms_reach names known [] h = omega arith
atoms_reach names known (def.Eq left base add true ∷ atoms) h = let more = atoms_reach names (suc known) atoms h.1 in omega arith
atoms_reach names known (def.Eq left base add false ∷ atoms) h = atoms_reach names known atoms h.1
atoms_reach names known (def.Ne left base add ∷ atoms) h = atoms_reach names known atoms h.1
atoms_reach names known (def.In left lo hi ∷ atoms) h = atoms_reach names known atoms h.1

length_taken : {X : Type 0} (n : ℕ) (xs : List X) → n ≤ length xs → length (take n xs) ≡ n
length_taken zero xs h = refl
length_taken (suc n) [] h = absurd (omega arith)
length_taken (suc n) (x ∷ xs) h = ap suc (length_taken n xs (omega arith))

dropped : {X : Type 0} (m n : ℕ) (xs : List X) → m + n ≤ length xs → n ≤ length (drop m xs)
dropped zero n xs h = omega arith
dropped (suc m) n [] h = absurd (omega arith)
dropped (suc m) n (x ∷ xs) h = dropped m n xs (omega arith)

taken : {X : Type 0} (m n : ℕ) (xs : List X) → m + n ≤ length xs → length (take n (drop m xs)) ≡ n
taken m n xs h = length_taken n (drop m xs) (dropped m n xs h)

count_is : (o : Option StructInfo) (ks : List Kind) → option_map (λ info. map (λ field. field.kind) info.fields) o ≡ Some ks → option_map_or (λ info. length info.fields) o 0 ≡ length ks
count_is None ks e = absurd (cc e)
count_is (Some info) ks e =
    let same : map (λ field. field.kind) info.fields ≡ ks = cc e in
    sym (length_map (λ field. field.kind) info.fields) ∙ ap length same

-- a rule's block has as many contents as its struct has fields
contents_are : (flow : Flow) (defs : List Def) (valid : IsValid flow defs) (shape : StructId) (p r : ℕ) (d : Def) (rule : Rule) → slice_get defs p ≡ Some d → slice_get d.rules r ≡ Some rule → rule.block ≡ Some shape
    → field_count flow.structs shape ≡ length rule.contents
contents_are flow defs valid shape p r d rule there is block =
    let fits : DefFits flow.structs.list defs d = all_at (DefFits flow.structs.list defs) defs p d there valid.definitions in
    let own : RuleFitsStructs flow.structs.list defs d.params rule = all_at (RuleFitsStructs flow.structs.list defs d.params) d.rules r rule is fits.rules in
    let kinds : kinds_of flow.structs.list (Some shape) ≡ Some (content_kinds d.params rule) = ap (kinds_of flow.structs.list) (sym block) ∙ own.block in
    let reach = atoms_reach rule.names (suc (length d.params) + length rule.contents) rule.atoms own.fits.names.atoms in
    count_is (slice_get flow.structs.list shape.0) (content_kinds d.params rule) kinds
    ∙ taken (suc (length d.params)) (length rule.contents) rule.names reach

slice_there : (xs : List StructInfo) (i : ℕ) → i < length xs → slice_get xs i ≡ None → ⊥
slice_there [] i h e = absurd (omega arith)
slice_there (x ∷ xs) zero h e = cc e
slice_there (x ∷ xs) (suc i) h e = slice_there xs i (omega arith) e

unknown_nodes : (kinds : Kinds) (count : ℕ) → AreNodes kinds (known_nodes (replicate count None))
unknown_nodes kinds zero = tt
unknown_nodes kinds (suc count) = unknown_nodes kinds count

have_nodes : (kinds : Kinds) (ks : List Kind) (ns : List NodeId) → HaveKinds kinds ks ns → AreNodes kinds ns
have_nodes kinds [] [] h = tt
have_nodes kinds [] (n ∷ ns) h = absurd h
have_nodes kinds (k ∷ ks) [] h = absurd h
have_nodes kinds (k ∷ ks) (n ∷ ns) h = ((k, h.0), have_nodes kinds ks ns h.1)

-- blocks start at pointers
pub starts_pointers : (defs : List Def) (kinds : Kinds) (es : Edges) → AllByRecursion (λ (e : EdgeId × Edge). EdgeFitsDefs defs kinds e.1) es → AllByRecursion (HasKind kinds Ptr) (block_starts es)
starts_pointers defs kinds [] a = tt
starts_pointers defs kinds ((id, edge.Block at shape fields) ∷ es) a = (a.0.0, starts_pointers defs kinds es a.1)
starts_pointers defs kinds ((id, edge.Ind at pred args) ∷ es) a = starts_pointers defs kinds es a.1
starts_pointers defs kinds ((id, edge.Seg at args pred stop ends) ∷ es) a = starts_pointers defs kinds es a.1

pub others_well : (kinds : Kinds) (a : NodeId) (bs : List NodeId) → HasKind kinds Ptr a → AllByRecursion (HasKind kinds Ptr) bs → AreWell kinds (map (λ b. Ne a b (pos 0)) bs)
others_well kinds a [] is h = tt
others_well kinds a (b ∷ bs) is h = (((Ptr, is, h.0), (omega (arith, ints), omega (arith, ints))), others_well kinds a bs is h.1)

module _ (laws : MadeLaws) (flow : Flow) (defs : List Def) (valid : IsValid flow defs) where
  -- the state is well made
  abbrev Made : State → Type 0
  Made s = IsWellMade defs flow.vars flow.structs.list s

  abbrev structs : List StructInfo
  structs = flow.structs.list

  one_made : (next : List Next) (q : PointId) (t : State) → next ≡ moved_to q t ∷ [] → Made t → AllByRecursion (IsMadeFor flow defs) next
  one_made next q t gives m = subst (AllByRecursion (IsMadeFor flow defs)) (sym gives) ((m, tt), tt)

  both_made : (next : List Next) (q q' : PointId) (t u : State) → next ≡ moved_to q t ∷ moved_to q' u ∷ [] → Made t → Made u → AllByRecursion (IsMadeFor flow defs) next
  both_made next q q' t u gives m n = subst (AllByRecursion (IsMadeFor flow defs)) (sym gives) ((m, tt), ((n, tt), tt))

  computes_made : (op : ℤ → ℤ → ℤ) (offsets : NodeId → NodeId → NodeId → Range → Range → List Atom) → OffsetsAreWell offsets
      → (s : State) (next : List Next) (x : VarId) (o o' : Operand) (q : PointId) → Computes op offsets x o o' q s next → IsVar flow.vars Int x → IsOperand flow.vars Int o → IsOperand flow.vars Int o' → Made s → AllByRecursion (IsMadeFor flow defs) next
  computes_made op offsets are_well s next x o o' q i is fits fits' m =
      let two = two_made laws defs flow.vars structs s Int o o' i.a i.b m fits fits' i.left_known i.right_known in
      let made : Made i.before = subst Made (sym i.operands) two.made in
      let left = subst (λ (t : State). HasKind t.kinds Int i.a) (sym i.operands) two.left in
      let right = subst (λ (t : State). HasKind t.kinds Int i.b) (sym i.operands) two.right in
      let n = next_node i.before in
      let t = with_nodes i.before (Int ∷ []) in
      let new = new_kind laws defs flow.vars structs i.before Int made in
      let grows = new_grows laws defs flow.vars structs i.before Int made in
      let set = set_made laws defs flow.vars structs t x Int n (nodes_made laws defs flow.vars structs i.before (Int ∷ []) made) is new in
      let ranges = range_atoms op n i.left i.right i.results in
      let others = offsets n i.a i.b i.left i.right in
      let written = all_append (IsWellFormed t.kinds) ranges others (range_well op t.kinds n i.left i.right i.results new) (are_well t.kinds n i.a i.b i.left i.right new (grows Int i.a left) (grows Int i.b right)) in
      one_made next q (with_atoms (with_var t x (Some n)) (ranges ++ others)) i.gives
      (atoms_made laws defs flow.vars structs (with_var t x (Some n)) (ranges ++ others) set written)

  -- what is asked of a rule
  abbrev IsMadeBy : (Flow → PointId → State → List Next → Type 0) → Type 0
  IsMadeBy Is = (p : PointId) (s : State) (next : List Next) → Is flow p s next → Made s → AllByRecursion (IsMadeFor flow defs) next

  -- the fields of a block that is known
  field_kinds : (s : State) (n : NodeId) (shape : StructId) (b : HasBlock s n shape) → Made s → EdgeFitsStructs structs s.kinds (edge.Block b.at shape b.fields)
  field_kinds s n shape b m = edge_at (EdgeFitsStructs structs s.kinds) s.graph.edges b.id (edge.Block b.at shape b.fields) b.there m.fits_program.blocks_fit

  kind_of_field : (shape : StructId) (f : ℕ) (kind : Kind) (info : StructInfo) → slice_get structs shape.0 ≡ Some info → IsField flow.structs shape f kind → slice_get (map (λ f. f.kind) info.fields) f ≡ Some kind
  kind_of_field shape f kind info known field =
      map_slice (λ f. f.kind) info.fields f kind (sym (ap (option_and_then (λ (info : StructInfo). option_map (λ f. f.kind) (slice_get info.fields f))) known) ∙ field)

  load_made : IsMadeBy S8Is
  load_made p s next i m =
      let fits = fits_at flow defs p (instr.Load i.x i.y i.shape i.f i.q) valid i.at in
      let own = field_kinds s i.n i.shape i.block m in
      let has = known_kind s.kinds (map (λ f. f.kind) own.0.fields) i.block.fields i.f fits.0 i.m own.2 (kind_of_field i.shape i.f fits.0 own.0 own.1 fits.3) i.field in
      one_made next i.q (with_var s i.x (Some i.m)) i.gives (set_made laws defs flow.vars structs s i.x fits.0 i.m m fits.1 has)

  store_made : IsMadeBy S9Is
  store_made p s next i m =
      let fits = fits_at flow defs p (instr.Store i.y i.shape i.f i.from i.q) valid i.at in
      let kind = fits.0 in
      let b = i.block in
      let t = with_operand s i.from in
      let operand = operand_made laws defs flow.vars structs s kind i.from i.m m fits.3 i.value in
      let own = field_kinds s i.n i.shape b m in
      let ks = map (λ f. f.kind) own.0.fields in
      let fields = slice_set b.fields i.f (Some i.m) in
      let new = edge.Block b.at i.shape fields in
      let old = edge_at (EdgeFitsDefs defs s.kinds) s.graph.edges b.id (edge.Block b.at i.shape b.fields) b.there m.fits_defs in
      let nodes = edge_at (λ (e : Edge). AreNodes s.kinds (nodes_of e)) s.graph.edges b.id (edge.Block b.at i.shape b.fields) b.there m.bounded.edges in
      let more = all_map (IsNode s.kinds) (IsNode t.kinds) (λ n h. (h.0, operand.grows h.0 n h.1)) (nodes_of (edge.Block b.at i.shape b.fields)) nodes in
      let there : AreNodes t.kinds (nodes_of new) = (more.0, known_set (IsNode t.kinds) b.fields i.f i.m (kind, operand.has) more.1) in
      let fits_defs : EdgeFitsDefs defs t.kinds new = (operand.grows Ptr b.at old.0, λ p r d rule there is block. length_set b.fields i.f (Some i.m) ∙ old.1 p r d rule there is block) in
      let fits_structs : EdgeFitsStructs structs t.kinds new =
      (own.0, own.1, kind_set t.kinds ks b.fields i.f kind (Some i.m) (all_may_grow s.kinds t.kinds operand.grows ks b.fields own.2) (kind_of_field i.shape i.f kind own.0 own.1 fits.2) operand.has) in
      one_made next i.q (with_replaced i.before b.id new) i.gives
      (subst (λ (u : State). Made (with_replaced u b.id new)) (sym i.operand) (replaced_made laws defs flow.vars structs t b.id new operand.made there fits_defs fits_structs))

  -- a new block fits its struct
  unknown_fits : (kinds : Kinds) (n : NodeId) (shape : StructId) → IsStruct flow.structs shape → EdgeFitsStructs structs kinds (edge.Block n shape (replicate (field_count flow.structs shape) None))
  unknown_fits kinds n shape is = at (slice_get structs shape.0) refl
    where
      at : (o : Option StructInfo) → slice_get structs shape.0 ≡ o → EdgeFitsStructs structs kinds (edge.Block n shape (replicate (option_map_or (λ info. length info.fields) o 0) None))
      at None e = absurd (slice_there structs shape.0 is e)
      at (Some info) e =
          (info, e, subst (λ (count : ℕ). MayHaveKinds kinds (map (λ f. f.kind) info.fields) (replicate count None)) (length_map (λ f. f.kind) info.fields) (all_unknown kinds (map (λ f. f.kind) info.fields)))

  malloc_made : IsMadeBy S10Is
  malloc_made p s next i m =
      let fits = fits_at flow defs p (instr.Malloc i.x i.shape i.q) valid i.at in
      let count = field_count flow.structs i.shape in
      let n = next_node s in
      let t = with_nodes s (Ptr ∷ []) in
      let new = new_kind laws defs flow.vars structs s Ptr m in
      let block = edge.Block n i.shape (replicate count None) in
      let there : AreNodes t.kinds (nodes_of block) = ((Ptr, new), unknown_nodes t.kinds count) in
      let fits_defs : EdgeFitsDefs defs t.kinds block = (new, λ p r d rule there is block. length_unknown count ∙ contents_are flow defs valid i.shape p r d rule there is block) in
      let fits_structs = unknown_fits t.kinds n i.shape fits.1 in
      let made = edge_made laws defs flow.vars structs t block (nodes_made laws defs flow.vars structs s (Ptr ∷ []) m) there fits_defs fits_structs in
      both_made next i.q i.q (with_var s i.x (Some null)) (with_var (with_block s i.shape count) i.x (Some n)) i.gives
      (set_made laws defs flow.vars structs s i.x Ptr null m fits.0 (inl refl)) (set_made laws defs flow.vars structs (with_block s i.shape count) i.x Ptr n made fits.0 new)

  free_made : IsMadeBy S12Is
  free_made p s next i m =
      let fits = fits_at flow defs p (instr.Free i.from i.q) valid i.at in
      let operand = operand_made laws defs flow.vars structs s Ptr i.from i.n m fits i.known in
      let t = i.before in
      let made : Made t = subst Made (sym i.operand) operand.made in
      let b = i.block in
      let e = edge.Block b.at i.shape b.fields in
      let left = without t.graph.edges b.id in
      let fewer = fewer_made laws defs flow.vars structs t b.id e made b.there in
      let pointer : HasKind t.kinds Ptr b.at = (edge_at (EdgeFitsDefs defs t.kinds) t.graph.edges b.id e b.there made.fits_defs).0 in
      let starts = block_starts left in
      let written = others_well t.kinds b.at starts pointer (starts_pointers defs t.kinds left fewer.fits_defs) in
      one_made next i.q (with_atoms (with_only_edges t left) (freed_atoms b.at starts)) i.gives
      (atoms_made laws defs flow.vars structs (with_only_edges t left) (freed_atoms b.at starts) fewer
      (((Ptr, pointer), (omega (arith, ints), omega (arith, ints)), (omega (arith, ints), omega (arith, ints))), written))

  equal_made : IsMadeBy S13Is
  equal_made p s next i m =
      let fits = fits_at flow defs p (instr.TestEq i.o i.o' i.t i.f) valid i.at in
      let kind = fits.0 in
      let two = two_made laws defs flow.vars structs s kind i.o i.o' i.a i.b m fits.1 fits.2 i.left_known i.right_known in
      let made : Made i.before = subst Made (sym i.operands) two.made in
      let left = subst (λ (t : State). HasKind t.kinds kind i.a) (sym i.operands) two.left in
      let right = subst (λ (t : State). HasKind t.kinds kind i.b) (sym i.operands) two.right in
      both_made next i.t i.f (with_atoms i.before (Eq i.a i.b (pos 0) ∷ [])) (with_atoms i.before (Ne i.a i.b (pos 0) ∷ [])) i.gives
      (atoms_made laws defs flow.vars structs i.before (Eq i.a i.b (pos 0) ∷ []) made (((kind, left, right), (omega (arith, ints), omega (arith, ints))), tt))
      (atoms_made laws defs flow.vars structs i.before (Ne i.a i.b (pos 0) ∷ []) made (((kind, left, right), (omega (arith, ints), omega (arith, ints))), tt))

  at_most_made : IsMadeBy S14Is
  at_most_made p s next i m =
      let fits = fits_at flow defs p (instr.TestLe i.o i.o' i.t i.f) valid i.at in
      let two = two_made laws defs flow.vars structs s Int i.o i.o' i.a i.b m fits.0 fits.1 i.left_known i.right_known in
      let made : Made i.before = subst Made (sym i.operands) two.made in
      let left = subst (λ (t : State). HasKind t.kinds Int i.a) (sym i.operands) two.left in
      let right = subst (λ (t : State). HasKind t.kinds Int i.b) (sym i.operands) two.right in
      let l = least_range_is_of_ints (pure_of i.before) i.a (record { lo = i.left.lo; hi = i.left.hi }) left i.left_range in
      let r = least_range_is_of_ints (pure_of i.before) i.b (record { lo = i.right.lo; hi = i.right.hi }) right i.right_range in
      let holds = le_atoms i.a i.b i.left i.right in
      let fails = gt_atoms i.a i.b i.left i.right in
      let low = l.0 in
      let mid = l.1 in
      let high = l.2 in
      let low' = r.0 in
      let mid' = r.1 in
      let high' = r.2 in
      both_made next i.t i.f (with_atoms i.before holds) (with_atoms i.before fails) i.gives
      (atoms_made laws defs flow.vars structs i.before holds made (
        ((Int, left), (omega (arith, ints), omega (arith, ints)), (omega (arith, ints, clamps), omega (arith, ints, clamps))),
        (((Int, right), (omega (arith, ints, clamps), omega (arith, ints, clamps)), (omega (arith, ints), omega (arith, ints))), tt),
      ))
      (atoms_made laws defs flow.vars structs i.before fails made (
        ((Int, left), (omega (arith, ints, clamps), omega (arith, ints, clamps)), (omega (arith, ints), omega (arith, ints))),
        (((Int, right), (omega (arith, ints), omega (arith, ints)), (omega (arith, ints, clamps), omega (arith, ints, clamps))), (((Int, left, right), (omega (arith, ints), omega (arith, ints))), tt)),
      ))

  assume_made : IsMadeBy S15Is
  assume_made p s next i m =
      let fits = fits_at flow defs p (instr.AssumeShape i.pred i.x i.os i.q) valid i.at in
      let d = fits.1.def in
      let many = many_made laws defs flow.vars structs i.os d.params s i.args m fits.1.args i.known in
      let made : Made i.before = subst Made (sym i.operands) many.made in
      let args = subst (λ (t : State). HaveKinds t.kinds d.params i.args) (sym i.operands) many.have' in
      let n = next_node i.before in
      let t = with_nodes i.before (Ptr ∷ []) in
      let new = new_kind laws defs flow.vars structs i.before Ptr made in
      let grown = have_grows i.before.kinds t.kinds (new_grows laws defs flow.vars structs i.before Ptr made) d.params i.args args in
      let put = edge_made laws defs flow.vars structs t (edge.Ind n i.pred i.args) (nodes_made laws defs flow.vars structs i.before (Ptr ∷ []) made)
      ((Ptr, new), have_nodes t.kinds d.params i.args grown) (new, (d, fits.1.defined, grown)) tt in
      one_made next i.q (with_var (with_shape i.pred i.args i.before) i.x (Some n)) i.gives
      (set_made laws defs flow.vars structs (with_shape i.pred i.args i.before) i.x Ptr n put fits.0 new)

  assert_made : IsMadeBy S16Is
  assert_made p s next i m =
      let fits = fits_at flow defs p (instr.AssertShape i.pred i.o i.os i.q) valid i.at in
      let d = fits.1.def in
      let first = with_operand s i.o in
      let one = operand_made laws defs flow.vars structs s Ptr i.o i.n m fits.0 i.known in
      let many = many_made laws defs flow.vars structs i.os d.params first i.args one.made fits.1.args i.args_known in
      let side = side_branch p i.pred i.n i.args (with_operands first i.os) in
      let is : i.side ≡ side = i.side_is ∙ ap (λ goal. record { point = p; goal = Some goal; state = with_operands first i.os }) i.goal_is in
      let made : IsMadeFor flow defs side = (many.made, (many.grows Ptr i.n one.has, (d, fits.1.defined, many.have'))) in
      subst (AllByRecursion (IsMadeFor flow defs)) (sym i.gives) (subst (IsMadeFor flow defs) (sym is) made, ((m, tt), tt))

  each_made : (p : PointId) (s : State) (next : List Next) → Made s → IsStep flow p s next → AllByRecursion (IsMadeFor flow defs) next
  each_made p s next m (rule.S1, i) = one_made next i.q s i.gives m
  each_made p s next m (rule.S2, i) =
      let fits = fits_at flow defs p (instr.Copy i.x i.from i.q) valid i.at in
      let operand = operand_made laws defs flow.vars structs s fits.0 i.from i.n m fits.2 i.known in
      one_made next i.q (with_var (with_operand s i.from) i.x (Some i.n)) i.gives (set_made laws defs flow.vars structs (with_operand s i.from) i.x fits.0 i.n operand.made fits.1 operand.has)
  each_made p s next m (rule.S3, i) = one_made next i.q (without_vars s i.xs) i.gives (forgotten_made laws defs flow.vars structs i.xs s m)
  each_made p s next m (rule.S4, i) =
      let fits = fits_at flow defs p (instr.Input i.x i.q) valid i.at in
      let t = with_nodes s (Int ∷ []) in
      one_made next i.q (with_var t i.x (Some (next_node s))) i.gives
      (set_made laws defs flow.vars structs t i.x Int (next_node s) (nodes_made laws defs flow.vars structs s (Int ∷ []) m) fits (new_kind laws defs flow.vars structs s Int m))
  each_made p s next m (rule.S5, i) =
      let fits = fits_at flow defs p (instr.Add i.x i.o i.o' i.q) valid i.at in
      computes_made _ sum_offsets sum_well s next i.x i.o i.o' i.q i.computes fits.0 fits.1 fits.2 m
  each_made p s next m (rule.S6, i) =
      let fits = fits_at flow defs p (instr.Sub i.x i.o i.o' i.q) valid i.at in
      computes_made _ difference_offsets difference_well s next i.x i.o i.o' i.q i.computes fits.0 fits.1 fits.2 m
  each_made p s next m (rule.S7, i) =
      let fits = fits_at flow defs p (instr.Mul i.x i.o i.o' i.q) valid i.at in
      computes_made _ no_offsets no_well s next i.x i.o i.o' i.q i.computes fits.0 fits.1 fits.2 m
  each_made p s next m (rule.S8, i) = load_made p s next i m
  each_made p s next m (rule.S9, i) = store_made p s next i m
  each_made p s next m (rule.S10, i) = malloc_made p s next i m
  each_made p s next m (rule.S11, i) =
      let fits = fits_at flow defs p (instr.Free i.from i.q) valid i.at in
      one_made next i.q (with_operand s i.from) i.gives (operand_made laws defs flow.vars structs s Ptr i.from i.n m fits i.known).made
  each_made p s next m (rule.S12, i) = free_made p s next i m
  each_made p s next m (rule.S13, i) = equal_made p s next i m
  each_made p s next m (rule.S14, i) = at_most_made p s next i m
  each_made p s next m (rule.S15, i) = assume_made p s next i m
  each_made p s next m (rule.S16, i) = assert_made p s next i m
  each_made p s next m (rule.S17, i) = subst (AllByRecursion (IsMadeFor flow defs)) (sym i.gives) tt
  each_made p s next m (rule.S18, i) = one_made next i.q s i.gives m

pub steps_are_well_made : MadeLaws → StepsAreWellMade
steps_are_well_made laws flow defs p s next valid m step = each_made laws flow defs valid p s next m step
