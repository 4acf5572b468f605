-- What fits piece by piece is well formed.
use Rattle.std.proofs.Common.{◌≡◌, ◌<◌, ◌≤◌, ◌+◌, ℕ, zero, suc, List, [], ◌∷◌, ◌++◌, Option, Some, None, map, length, slice_get, refl, subst, arith}
use Rattle.std.specs.List.{AllByRecursion}
use Rattle.mc_base.specs.declared.ids.EdgeId.{EdgeId}
use Rattle.mc_base.specs.declared.ids.NodeId.{NodeId}
use Rattle.mc_base.specs.declared.plain.Atom.{Atom}
use Rattle.mc_base.specs.declared.plain.Atom.TheVariants.{Eq, Ne, In}
use Rattle.mc_base.specs.declared.plain.Kind.{Kind}
use Rattle.mc_base.specs.declared.plain.VarInfo.{VarInfo}
use Rattle.mc_base.specs.Atoms.{nodes_of_atom}
use Rattle.mc_flow.specs.declared.defs.rules.Def.{Def}
use Rattle.mc_flow.specs.declared.defs.shapes.StructInfo.{StructInfo}
use Rattle.mc_state.specs.declared.graph.edge.Edge.{Edge}
use Rattle.mc_state.specs.declared.graph.edge.Edge.TheVariants.{Block, Ind, Seg}
use Rattle.mc_state.specs.Graph.Edges.{known_nodes, nodes_of}
use Rattle.mc_state.specs.Graph.Graph.{numbered, IdsAscend}
use Rattle.mc_pure.specs.Pure.{Kinds, IsWellFormed}
use Rattle.mc_state.specs.declared.raw_state.NodeKind.{NodeKind}
use Rattle.mc_state.specs.declared.raw_state.NodeKind.TheVariants.{Zero, Int, Ptr}
use Rattle.mc_state.specs.declared.raw_state.RawState.{RawState}
use Rattle.mc_state.specs.Fits.{NodesAscend, AreNodes, HaveKinds, MayHaveKinds, EdgeFitsDefs, EdgeFitsStructs}
use Rattle.mc_state.specs.RawStates.{kinds_from, BeginsWithZero, IsWellFormedRaw}
use Rattle.mc_state_io.specs.Raw.Raw.{AllEdgesFit, AllAreThere, PiecesFit}
use Rattle.mc_state.proofs.Lists.{all_at, all_places}

-- ---- numbers

lower : (low more : ℕ) (kinds : Kinds) (high : ℕ) → low ≤ more → NodesAscend more kinds high → NodesAscend low kinds high
lower low more [] high l a = tt
lower low more (k ∷ kinds) high l a = let f = a.0 in (omega arith, a.1, a.2)

ascend_from : (n : ℕ) (kinds : List NodeKind) (high : ℕ) → n + length kinds ≤ high → NodesAscend n (kinds_from n kinds) high
ascend_from n [] high l = tt
ascend_from n (Zero ∷ kinds) high l = lower n (suc n) (kinds_from (suc n) kinds) high (omega arith) (ascend_from (suc n) kinds high (omega arith))
ascend_from n (Int ∷ kinds) high l = (omega arith, omega arith, ascend_from (suc n) kinds high (omega arith))
ascend_from n (Ptr ∷ kinds) high l = (omega arith, omega arith, ascend_from (suc n) kinds high (omega arith))

nodes_ascend : (kinds : List NodeKind) → BeginsWithZero kinds → NodesAscend 1 (kinds_from 0 kinds) (length kinds)
nodes_ascend [] b = absurd b
nodes_ascend (Zero ∷ kinds) b = ascend_from 1 kinds (length (Zero ∷ kinds)) (omega arith)
nodes_ascend (Int ∷ kinds) b = let w : Int ≡ Zero = b.0 in absurd (cc w)
nodes_ascend (Ptr ∷ kinds) b = let w : Ptr ≡ Zero = b.0 in absurd (cc w)

pub some_kinds : (kinds : List NodeKind) → BeginsWithZero kinds → 0 < length kinds
some_kinds [] b = absurd b
some_kinds (k ∷ kinds) b = omega arith

ids_ascend : (n : ℕ) (es : List Edge) (high : ℕ) → n + length es ≤ high → IdsAscend n (numbered n es) high
ids_ascend n [] high l = tt
ids_ascend n (e ∷ es) high l = (omega arith, omega arith, ids_ascend (suc n) es high (omega arith))

numbered_all : (P : Edge → Type 0) (n : ℕ) (es : List Edge) → ((i : ℕ) (e : Edge) → slice_get es i ≡ Some e → P e) → AllByRecursion (λ (e : EdgeId × Edge). P e.1) (numbered n es)
numbered_all P n [] h = tt
numbered_all P n (e ∷ es) h = (h 0 e refl, numbered_all P (suc n) es (λ i x q. h (suc i) x q))

numbered_at : (P : Edge → Type 0) (n : ℕ) (es : List Edge) → AllByRecursion (λ (e : EdgeId × Edge). P e.1) (numbered n es) → (i : ℕ) (e : Edge) → slice_get es i ≡ Some e → P e
numbered_at P n [] a i e q = absurd (cc q)
numbered_at P n (x ∷ es) a zero e q = let s : x ≡ e = cc in subst P s a.0
numbered_at P n (x ∷ es) a (suc i) e q = numbered_at P (suc n) es a.1 i e q

-- ---- nodes that are there

module _ (own : Kinds) where
  pub known_there : (kinds : List Kind) (ns : List (Option NodeId)) → MayHaveKinds own kinds ns → AreNodes own (known_nodes ns)
  known_there [] [] h = tt
  known_there [] (n ∷ ns) h = absurd h
  known_there (k ∷ kinds) [] h = absurd h
  known_there (k ∷ kinds) (None ∷ ns) h = known_there kinds ns h.1
  known_there (k ∷ kinds) (Some n ∷ ns) h = ((k, h.0), known_there kinds ns h.1)

  args_there : (kinds : List Kind) (ns : List NodeId) → HaveKinds own kinds ns → AreNodes own ns
  args_there [] [] h = tt
  args_there [] (n ∷ ns) h = absurd h
  args_there (k ∷ kinds) [] h = absurd h
  args_there (k ∷ kinds) (n ∷ ns) h = ((k, h.0), args_there kinds ns h.1)

  both_there : (ms ns : List NodeId) → AreNodes own ms → AreNodes own ns → AreNodes own (ms ++ ns)
  both_there [] ns a b = b
  both_there (m ∷ ms) ns a b = (a.0, both_there ms ns a.1 b)

  edge_there : (defs : List Def) (structs : List StructInfo) (e : Edge) → EdgeFitsDefs defs own e → EdgeFitsStructs structs own e → AreNodes own (nodes_of e)
  edge_there defs structs (Block at shape fields) d s = ((_, d.0), known_there _ fields s.2)
  edge_there defs structs (Ind at pred args) d s = ((_, d.0), args_there _ args d.1.2)
  edge_there defs structs (Seg at args pred stop ends) d s = ((_, d.0), both_there args (stop ∷ ends) (args_there _ args d.1.2) ((_, d.2), args_there _ ends d.3.2))

  pub edges_there : (defs : List Def) (structs : List StructInfo) (es : List Edge) → AllEdgesFit defs structs own es → AllAreThere own es
  edges_there defs structs es h place e q = let f = h place e q in edge_there defs structs e f.0 f.1

  atom_there : (a : Atom) → IsWellFormed own a → AreNodes own (nodes_of_atom a)
  atom_there (Eq a b c) h = ((h.0.0, h.0.1), ((h.0.0, h.0.2), tt))
  atom_there (Ne a b c) h = ((h.0.0, h.0.1), ((h.0.0, h.0.2), tt))
  atom_there (In a lo hi) h = (h.0, tt)

-- ---- both ways

pub well_formed : (defs : List Def) (vars : List VarInfo) (structs : List StructInfo) (raw : RawState) → BeginsWithZero raw.kinds → PiecesFit defs vars structs (kinds_from 0 raw.kinds) raw → IsWellFormedRaw defs vars structs raw
well_formed defs vars structs raw b f = record {
  zero = b;
  made = record {
    bounded = record {
      positive = some_kinds raw.kinds b;
      kinds = nodes_ascend raw.kinds b;
      ids = ids_ascend 0 raw.edges (length raw.edges) (omega arith);
      vars = known_there (kinds_from 0 raw.kinds) (map (λ (x : VarInfo). x.kind) vars) raw.vars f.vars_fit;
      edges = numbered_all (λ (e : Edge). AreNodes (kinds_from 0 raw.kinds) (nodes_of e)) 0 raw.edges (edges_there (kinds_from 0 raw.kinds) defs structs raw.edges f.edges_fit);
      atoms = all_places (λ (a : Atom). AreNodes (kinds_from 0 raw.kinds) (nodes_of_atom a)) raw.atoms (λ i a e. atom_there (kinds_from 0 raw.kinds) a (f.atoms_fit i a e));
    };
    atoms = all_places (IsWellFormed (kinds_from 0 raw.kinds)) raw.atoms f.atoms_fit;
    fits_defs = numbered_all (EdgeFitsDefs defs (kinds_from 0 raw.kinds)) 0 raw.edges (λ i e q. (f.edges_fit i e q).0);
    fits_program = record {
      vars_fit = f.vars_fit;
      blocks_fit = numbered_all (EdgeFitsStructs structs (kinds_from 0 raw.kinds)) 0 raw.edges (λ i e q. (f.edges_fit i e q).1);
    };
  };
}

pub pieces_fit : (defs : List Def) (vars : List VarInfo) (structs : List StructInfo) (raw : RawState) → IsWellFormedRaw defs vars structs raw → PiecesFit defs vars structs (kinds_from 0 raw.kinds) raw
pieces_fit defs vars structs raw w = record {
  vars_fit = w.made.fits_program.vars_fit;
  edges_fit = λ i e q. (
    numbered_at (EdgeFitsDefs defs (kinds_from 0 raw.kinds)) 0 raw.edges w.made.fits_defs i e q,
    numbered_at (EdgeFitsStructs structs (kinds_from 0 raw.kinds)) 0 raw.edges w.made.fits_program.blocks_fit i e q,
  );
  atoms_fit = λ i a e. all_at (IsWellFormed (kinds_from 0 raw.kinds)) raw.atoms i a e w.made.atoms;
}

pub vars_there : (defs : List Def) (vars : List VarInfo) (structs : List StructInfo) (own : Kinds) (raw : RawState) → PiecesFit defs vars structs own raw → AreNodes own (known_nodes raw.vars)
vars_there defs vars structs own raw p = known_there own (map (λ (x : VarInfo). x.kind) vars) raw.vars p.vars_fit
