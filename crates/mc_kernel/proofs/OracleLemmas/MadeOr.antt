-- Whether a state is well made, and whether a written one is well formed, is decided.
use Rattle.std.proofs.Common.{◌≡◌, ◌≢◌, inl, inr, ℕ, suc, ℤ, pos, negsuc, List, [], ◌∷◌, Option, Some, None, length, map, slice_get, get_or, refl, sym, ap, subst}
use Rattle.std.specs.List.{AllByRecursion}
use Rattle.std.specs.Prelude.{All}
use Rattle.std.proofs.lemmas.Option.{slice_get_within, slice_get-get_or, get_or_from_slice_get}
use Rattle.mc_base.specs.declared.ids.NodeId.{NodeId}
use Rattle.mc_base.specs.declared.ids.PredId.{PredId}
use Rattle.mc_base.specs.declared.ids.StructId.{StructId}
use Rattle.mc_base.specs.declared.plain.Kind.{Kind}
use Rattle.mc_base.specs.declared.plain.Kind.TheVariants.{Int, Ptr}
use Rattle.mc_base.specs.declared.plain.Atom.{Atom}
use Rattle.mc_base.specs.declared.plain.Atom.TheVariants.{Eq, Ne, In}
use Rattle.mc_base.specs.declared.plain.VarInfo.{VarInfo}
use Rattle.mc_base.specs.Atoms.{nodes_of_atom}
use Rattle.mc_base.specs.Nodes.{null}
use Rattle.mc_flow.specs.declared.defs.rules.Def.{Def}
use Rattle.mc_flow.specs.declared.defs.rules.Rule.{Rule}
use Rattle.mc_flow.specs.declared.defs.shapes.StructInfo.{StructInfo}
use Rattle.mc_state.specs.declared.graph.edge.Edge.{Edge}
use Rattle.mc_state.specs.declared.graph.edge.Edge.TheVariants.{Block, Ind, Seg}
use Rattle.mc_state.specs.Graph.Edges.{known_nodes, nodes_of}
use Rattle.mc_state.specs.Graph.Graph.{Edges, IdsAscend}
use Rattle.mc_pure.specs.Pure.{Kinds, HasKind, IsNode, AreOfOneKind, IsOffset, IsBound, IsWellFormed, kind_of}
use Rattle.mc_state.specs.declared.raw_state.NodeKind.{NodeKind}
use Rattle.mc_state.specs.declared.raw_state.NodeKind.TheVariants as node
use Rattle.mc_state.specs.declared.raw_state.RawState.{RawState}
use Rattle.mc_state.specs.Fits.{NodesAscend, AreNodes, IsBounded, HaveKinds, MayHaveKind, MayHaveKinds, ArgsFit, EdgeFitsDefs, EdgeFitsStructs, FitsProgram, IsWellMade}
use Rattle.mc_state.specs.RawStates.{BeginsWithZero, IsWellFormedRaw, state_of}
use Rattle.mc_state.specs.State.{State}
use Rattle.mc_kernel.proofs.OracleLemmas.Decided.{Or, as_or, and_or, all_three_or, either_or, all_or, all_get, all_put, less_or, same_or, at_most_or}

-- ---- kinds and nodes

null_or : (n : NodeId) → Or (n ≡ null)
null_or n = as_or (λ (e : n.0 ≡ 0). ap (λ (z : ℕ). let x : NodeId = record { 0 = z } in x) e) (λ (e : n ≡ null). ap (λ (z : NodeId). z.0) e) (same_or n.0 0)

kind_or : (a b : Kind) → Or (a ≡ b)
kind_or Int Int = inl refl
kind_or Ptr Ptr = inl refl
kind_or Int Ptr = inr (λ e. cc)
kind_or Ptr Int = inr (λ e. cc)

some_kind_or : (o : Option Kind) (kind : Kind) → Or (o ≡ Some kind)
some_kind_or None kind = inr (λ e. cc)
some_kind_or (Some own) kind = as_or (λ (e : own ≡ kind). ap (λ (z : Kind). Some z) e) (λ (e : Some own ≡ Some kind). cc) (kind_or own kind)

has_kind_or : (kinds : Kinds) (kind : Kind) (n : NodeId) → Or (HasKind kinds kind n)
has_kind_or kinds kind n = either_or (null_or n) (some_kind_or (kind_of kinds n) kind)

-- there is a kind with it, or none
some_or : (P : Kind → Type 0) → ((kind : Kind) → Or (P kind)) → Or ((kind : Kind) × P kind)
some_or P each = by (each Int) (each Ptr)
  where
    by : Or (P Int) → Or (P Ptr) → Or ((kind : Kind) × P kind)
    by (inl p) o = inl (Int, p)
    by (inr never) (inl p) = inl (Ptr, p)
    by (inr never) (inr none) = inr (λ k. neither k.0 k.1)
      where
        neither : (kind : Kind) → P kind → ⊥
        neither Int p = never p
        neither Ptr p = none p

node_or : (kinds : Kinds) (n : NodeId) → Or (IsNode kinds n)
node_or kinds n = some_or (λ kind. HasKind kinds kind n) (λ kind. has_kind_or kinds kind n)

one_kind_or : (kinds : Kinds) (a b : NodeId) → Or (AreOfOneKind kinds a b)
one_kind_or kinds a b =
    as_or (λ k. (k.0, k.1.0, k.1.1)) (λ k. (k.0, (k.1, k.2)))
    (some_or (λ kind. HasKind kinds kind a × HasKind kinds kind b) (λ kind. and_or (has_kind_or kinds kind a) (has_kind_or kinds kind b)))

offset_or : (c : ℤ) → Or (IsOffset c)
offset_or c = and_or (at_most_or (negsuc 4611686022722355199) c) (at_most_or c (pos 4611686022722355200))

bound_or : (c : ℤ) → Or (IsBound c)
bound_or c = and_or (at_most_or (negsuc 4611686018427387903) c) (at_most_or c (pos 4611686018427387904))

well_or : (kinds : Kinds) (f : Atom) → Or (IsWellFormed kinds f)
well_or kinds (Eq a b c) = and_or (one_kind_or kinds a b) (offset_or c)
well_or kinds (Ne a b c) = and_or (one_kind_or kinds a b) (offset_or c)
well_or kinds (In a lo hi) = all_three_or (node_or kinds a) (bound_or lo) (bound_or hi)

nodes_or : (kinds : Kinds) (ns : List NodeId) → Or (AreNodes kinds ns)
nodes_or kinds ns = all_or (IsNode kinds) (node_or kinds) ns

-- ---- numbers

ascend_or : (low : ℕ) (kinds : Kinds) (high : ℕ) → Or (NodesAscend low kinds high)
ascend_or low [] high = inl tt
ascend_or low (k ∷ kinds) high = all_three_or (less_or low (suc k.0.0)) (less_or k.0.0 high) (ascend_or (suc k.0.0) kinds high)

ids_or : (low : ℕ) (es : Edges) (high : ℕ) → Or (IdsAscend low es high)
ids_or low [] high = inl tt
ids_or low (e ∷ es) high = all_three_or (less_or low (suc e.0.0)) (less_or e.0.0 high) (ids_or (suc e.0.0) es high)

bounded_or : (s : State) → Or (IsBounded s)
bounded_or s =
    as_or
    (λ k. record { positive = k.0; kinds = k.1.0; ids = k.1.1.0; vars = k.1.1.1.0; edges = k.1.1.1.1.0; atoms = k.1.1.1.1.1 })
    (λ b. (b.positive, (b.kinds, (b.ids, (b.vars, (b.edges, b.atoms))))))
    (and_or (less_or 0 s.next)
    (and_or (ascend_or 1 s.kinds s.next)
    (and_or (ids_or 0 s.graph.edges s.graph.next)
    (and_or (nodes_or s.kinds (known_nodes s.env))
    (and_or (all_or (λ e. AreNodes s.kinds (nodes_of e.1)) (λ e. nodes_or s.kinds (nodes_of e.1)) s.graph.edges)
    (all_or (λ a. AreNodes s.kinds (nodes_of_atom a)) (λ a. nodes_or s.kinds (nodes_of_atom a)) s.atoms))))))

-- ---- what fits

have_or : (kinds : Kinds) (ks : List Kind) (ns : List NodeId) → Or (HaveKinds kinds ks ns)
have_or kinds [] [] = inl tt
have_or kinds (kind ∷ ks) (n ∷ ns) = and_or (has_kind_or kinds kind n) (have_or kinds ks ns)
have_or kinds [] (n ∷ ns) = inr (λ k. k)
have_or kinds (kind ∷ ks) [] = inr (λ k. k)

may_or : (kinds : Kinds) (kind : Kind) (n : Option NodeId) → Or (MayHaveKind kinds kind n)
may_or kinds kind None = inl tt
may_or kinds kind (Some n) = has_kind_or kinds kind n

may_all_or : (kinds : Kinds) (ks : List Kind) (ns : List (Option NodeId)) → Or (MayHaveKinds kinds ks ns)
may_all_or kinds [] [] = inl tt
may_all_or kinds (kind ∷ ks) (n ∷ ns) = and_or (may_or kinds kind n) (may_all_or kinds ks ns)
may_all_or kinds [] (n ∷ ns) = inr (λ k. k)
may_all_or kinds (kind ∷ ks) [] = inr (λ k. k)

-- what is there at a place has it
there_or : {X : Type 0} (P : X → Type 0) → ((x : X) → Or (P x)) → (o : Option X) → Or ((x : X) × (o ≡ Some x) × P x)
there_or {X} P each None = inr (λ k. let e = k.1 in cc)
there_or {X} P each (Some y) = as_or (λ p. (y, refl, p)) (λ k. back k.0 k.1 k.2) (each y)
  where
    back : (x : X) → Some y ≡ Some x → P x → P y
    back x e p = subst P (sym (same x e)) p
      where
        same : (x : X) → Some y ≡ Some x → y ≡ x
        same x e = cc

args_or : (defs : List Def) (kinds : Kinds) (pred : PredId) (args : List NodeId) → Or (ArgsFit defs kinds pred args)
args_or defs kinds pred args = there_or (λ def. HaveKinds kinds def.params args) (λ def. have_or kinds def.params args) (slice_get defs pred.0)

struct_or : (a b : Option StructId) → Or (a ≡ b)
struct_or None None = inl refl
struct_or None (Some b) = inr (λ e. cc)
struct_or (Some a) None = inr (λ e. cc)
struct_or (Some a) (Some b) =
    as_or
    (λ (e : a.0 ≡ b.0). ap (λ (z : ℕ). let x : StructId = record { 0 = z } in Some x) e)
    (λ (e : Some a ≡ Some b). ap (λ (z : StructId). z.0) (same e))
    (same_or a.0 b.0)
  where
    same : Some a ≡ Some b → a ≡ b
    same e = cc

-- a rule with a block of the struct has so many contents
abbrev HasContents : StructId → ℕ → Rule → Type 0
HasContents shape n rule = rule.block ≡ Some shape → n ≡ length rule.contents

contents_or : (shape : StructId) (n : ℕ) (rule : Rule) → Or (HasContents shape n rule)
contents_or shape n rule = by (struct_or rule.block (Some shape)) (same_or n (length rule.contents))
  where
    by : Or (rule.block ≡ Some shape) → Or (n ≡ length rule.contents) → Or (HasContents shape n rule)
    by (inr never) o = inl (λ e. absurd (never e))
    by (inl e) (inl same) = inl (λ e. same)
    by (inl e) (inr other) = inr (λ f. other (f e))

abbrev OfDef : StructId → ℕ → Def → Type 0
OfDef shape n def = AllByRecursion (HasContents shape n) def.rules

block_or : (defs : List Def) (shape : StructId) (n : ℕ)
    → Or ((p r : ℕ) (def : Def) (rule : Rule) → slice_get defs p ≡ Some def → slice_get def.rules r ≡ Some rule → rule.block ≡ Some shape → n ≡ length rule.contents)
block_or defs shape n =
    as_or
    (λ all p r def rule e f. all_get (HasContents shape n) def.rules (all_get (OfDef shape n) defs all p def e) r rule f)
    (λ each. all_put (OfDef shape n) defs (λ p def e. all_put (HasContents shape n) def.rules (λ r rule f. each p r def rule e f)))
    (all_or (OfDef shape n) (λ def. all_or (HasContents shape n) (contents_or shape n) def.rules) defs)

edge_defs_or : (defs : List Def) (kinds : Kinds) (e : Edge) → Or (EdgeFitsDefs defs kinds e)
edge_defs_or defs kinds (Block at shape fields) = and_or (has_kind_or kinds Ptr at) (block_or defs shape (length fields))
edge_defs_or defs kinds (Ind at pred args) = and_or (has_kind_or kinds Ptr at) (args_or defs kinds pred args)
edge_defs_or defs kinds (Seg at args pred «end» ends) =
    as_or (λ k. (k.0, k.1.0, k.1.1.0, k.1.1.1)) (λ k. (k.0, (k.1, (k.2, k.3))))
    (and_or (has_kind_or kinds Ptr at) (and_or (args_or defs kinds pred args) (and_or (has_kind_or kinds Ptr end) (args_or defs kinds pred ends))))

edge_structs_or : (structs : List StructInfo) (kinds : Kinds) (e : Edge) → Or (EdgeFitsStructs structs kinds e)
edge_structs_or structs kinds (Block at shape fields) =
    there_or (λ info. MayHaveKinds kinds (map (λ f. f.kind) info.fields) fields) (λ info. may_all_or kinds (map (λ f. f.kind) info.fields) fields) (slice_get structs shape.0)
edge_structs_or structs kinds (Ind at pred args) = inl tt
edge_structs_or structs kinds (Seg at args pred «end» ends) = inl tt

program_or : (vars : List VarInfo) (structs : List StructInfo) (s : State) → Or (FitsProgram vars structs s)
program_or vars structs s =
    as_or
    (λ k. record { vars_fit = k.0; blocks_fit = k.1 })
    (λ f. (f.vars_fit, f.blocks_fit))
    (and_or (may_all_or s.kinds (map (λ x. x.kind) vars) s.env)
    (all_or (λ e. EdgeFitsStructs structs s.kinds e.1) (λ e. edge_structs_or structs s.kinds e.1) s.graph.edges))

pub made_or : (defs : List Def) (vars : List VarInfo) (structs : List StructInfo) (s : State) → Or (IsWellMade defs vars structs s)
made_or defs vars structs s =
    as_or
    (λ k. record { bounded = k.0; atoms = k.1.0; fits_defs = k.1.1.0; fits_program = k.1.1.1 })
    (λ m. (m.bounded, (m.atoms, (m.fits_defs, m.fits_program))))
    (and_or (bounded_or s)
    (and_or (all_or (IsWellFormed s.kinds) (well_or s.kinds) s.atoms)
    (and_or (all_or (λ e. EdgeFitsDefs defs s.kinds e.1) (λ e. edge_defs_or defs s.kinds e.1) s.graph.edges)
    (program_or vars structs s))))

-- ---- written states

zero_or : (k : NodeKind) → Or (k ≡ node.Zero)
zero_or node.Zero = inl refl
zero_or node.Int = inr (λ e. cc)
zero_or node.Ptr = inr (λ e. cc)

other_or : (k : NodeKind) → Or (k ≢ node.Zero)
other_or k = by (zero_or k)
  where
    by : Or (k ≡ node.Zero) → Or (k ≢ node.Zero)
    by (inl e) = inr (λ ne. ne e)
    by (inr ne) = inl ne

others_or : (kinds : List NodeKind) → Or (All (λ other. other ≢ node.Zero) kinds)
others_or kinds =
    as_or
    (λ all k d l. all_get (λ other. other ≢ node.Zero) kinds all k (get_or kinds k d) (slice_get-get_or kinds k d l))
    (λ each. all_put (λ other. other ≢ node.Zero) kinds (λ i x e. subst (λ (z : NodeKind). z ≢ node.Zero) (get_or_from_slice_get kinds i x x e) (each i x (slice_get_within kinds i x e))))
    (all_or (λ other. other ≢ node.Zero) other_or kinds)

begins_or : (kinds : List NodeKind) → Or (BeginsWithZero kinds)
begins_or [] = inr (λ k. k)
begins_or (k ∷ kinds) = and_or (zero_or k) (others_or kinds)

pub formed_or : (defs : List Def) (vars : List VarInfo) (structs : List StructInfo) (raw : RawState) → Or (IsWellFormedRaw defs vars structs raw)
formed_or defs vars structs raw =
    as_or
    (λ k. record { zero = k.0; made = k.1 })
    (λ w. (w.zero, w.made))
    (and_or (begins_or raw.kinds) (made_or defs vars structs (state_of raw)))
