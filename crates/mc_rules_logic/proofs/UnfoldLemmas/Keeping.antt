-- States stay well made where they get nodes, edges and atoms that fit, and where they lose an edge.
use Rattle.std.proofs.Common.{ℕ, suc, Bool, true, false, Option, Some, None, List, [], ◌∷◌, map, refl}
use Rattle.std.specs.Prelude.{◌==◌, if◌then◌else◌}
use Rattle.std.specs.List.{AllByRecursion}
use Rattle.mc_base.specs.declared.ids.EdgeId.{EdgeId}
use Rattle.mc_base.specs.declared.ids.NodeId.{NodeId}
use Rattle.mc_base.specs.declared.ids.PredId.{PredId}
use Rattle.mc_base.specs.declared.plain.Atom.{Atom}
use Rattle.mc_base.specs.declared.plain.Atom.TheVariants.{Eq, Ne, In}
use Rattle.mc_base.specs.declared.plain.Kind.{Kind}
use Rattle.mc_base.specs.declared.plain.Kind.TheVariants.{Ptr}
use Rattle.mc_base.specs.declared.plain.VarInfo.{VarInfo}
use Rattle.mc_base.specs.Atoms.{nodes_of_atom}
use Rattle.mc_flow.specs.declared.defs.rules.Def.{Def}
use Rattle.mc_flow.specs.declared.defs.shapes.FieldInfo.{FieldInfo}
use Rattle.mc_flow.specs.declared.defs.shapes.StructInfo.{StructInfo}
use Rattle.mc_state.specs.declared.graph.edge.Edge.{Edge}
use Rattle.mc_state.specs.declared.graph.edge.Edge.TheVariants.{Block, Ind, Seg}
use Rattle.mc_state.specs.Graph.Edges.{known_nodes, nodes_of}
use Rattle.mc_state.specs.Graph.Graph.{Edges, numbered, without}
use Rattle.mc_pure.specs.Pure.{Kinds, HasKind, IsNode, IsWellFormed}
use Rattle.mc_state.specs.Fits.{AreNodes, HaveKinds, MayHaveKind, MayHaveKinds, ArgsFit, EdgeFitsDefs, EdgeFitsStructs}
use Rattle.mc_state.specs.Laws.{NodesStayBounded, NewNodesHaveKinds, AtomsStayBounded, EdgesStayBounded, FewerEdgesStayBounded}
use Rattle.mc_state.specs.State.{with_nodes}
use Rattle.mc_rules_logic.specs.Unfold.WellMade.{EdgeFits, NodesKeepWellMade, EdgesKeepWellMade, AtomsKeepWellMade, FewerKeepWellMade, EdgeOfFitting}
use Rattle.mc_rules_logic.proofs.UnfoldLemmas.Judging.{edge_fits}
use Rattle.mc_state.proofs.Lists.{all_append, all_map}

-- ---- where there are more nodes
module _ (small big : Kinds) (more : (kind : Kind) (n : NodeId) → HasKind small kind n → HasKind big kind n) where
  formed_more : (a : Atom) → IsWellFormed small a → IsWellFormed big a
  formed_more (Eq a b c) w = ((w.0.0, more w.0.0 a w.0.1, more w.0.0 b w.0.2), w.1)
  formed_more (Ne a b c) w = ((w.0.0, more w.0.0 a w.0.1, more w.0.0 b w.0.2), w.1)
  formed_more (In a lo hi) w = ((w.0.0, more w.0.0 a w.0.1), w.1, w.2)

  pub have_more : (kinds : List Kind) (ns : List NodeId) → HaveKinds small kinds ns → HaveKinds big kinds ns
  have_more [] [] h = tt
  have_more [] (n ∷ ns) h = absurd h
  have_more (kind ∷ kinds) [] h = absurd h
  have_more (kind ∷ kinds) (n ∷ ns) h = (more kind n h.0, have_more kinds ns h.1)

  may_more : (kind : Kind) (n : Option NodeId) → MayHaveKind small kind n → MayHaveKind big kind n
  may_more kind None h = tt
  may_more kind (Some n) h = more kind n h

  all_may_more : (kinds : List Kind) (ns : List (Option NodeId)) → MayHaveKinds small kinds ns → MayHaveKinds big kinds ns
  all_may_more [] [] h = tt
  all_may_more [] (n ∷ ns) h = absurd h
  all_may_more (kind ∷ kinds) [] h = absurd h
  all_may_more (kind ∷ kinds) (n ∷ ns) h = (may_more kind n h.0, all_may_more kinds ns h.1)

  pub args_more : (defs : List Def) (pred : PredId) (args : List NodeId) → ArgsFit defs small pred args → ArgsFit defs big pred args
  args_more defs pred args f = (f.0, f.1, have_more f.0.params args f.2)

  pub defs_more : (defs : List Def) (e : Edge) → EdgeFitsDefs defs small e → EdgeFitsDefs defs big e
  defs_more defs (Block at shape fields) f = (more Ptr at f.0, f.1)
  defs_more defs (Ind at pred args) f = (more Ptr at f.0, args_more defs pred args f.1)
  defs_more defs (Seg at args pred stop ends) f = (more Ptr at f.0, args_more defs pred args f.1, more Ptr stop f.2, args_more defs pred ends f.3)

  structs_more : (structs : List StructInfo) (e : Edge) → EdgeFitsStructs structs small e → EdgeFitsStructs structs big e
  structs_more structs (Block at shape fields) f = (f.0, f.1, all_may_more (map (λ (field : FieldInfo). field.kind) f.0.fields) fields f.2)
  structs_more structs (Ind at pred args) f = tt
  structs_more structs (Seg at args pred stop ends) f = tt

-- ---- what fits names nodes that are there
module _ (kinds : Kinds) where
  have_nodes : (ks : List Kind) (ns : List NodeId) → HaveKinds kinds ks ns → AreNodes kinds ns
  have_nodes [] [] h = tt
  have_nodes [] (n ∷ ns) h = absurd h
  have_nodes (k ∷ ks) [] h = absurd h
  have_nodes (k ∷ ks) (n ∷ ns) h = ((k, h.0), have_nodes ks ns h.1)

  may_nodes : (ks : List Kind) (ns : List (Option NodeId)) → MayHaveKinds kinds ks ns → AreNodes kinds (known_nodes ns)
  may_nodes [] [] h = tt
  may_nodes [] (n ∷ ns) h = absurd h
  may_nodes (k ∷ ks) [] h = absurd h
  may_nodes (k ∷ ks) (None ∷ ns) h = may_nodes ks ns h.1
  may_nodes (k ∷ ks) (Some n ∷ ns) h = ((k, h.0), may_nodes ks ns h.1)

  edge_nodes : (defs : List Def) (structs : List StructInfo) (e : Edge) → EdgeFits defs structs kinds e → AreNodes kinds (nodes_of e)
  edge_nodes defs structs (Block at shape fields) f = ((Ptr, f.0.0), may_nodes (map (λ (field : FieldInfo). field.kind) f.1.0.fields) fields f.1.2)
  edge_nodes defs structs (Ind at pred args) f = ((Ptr, f.0.0), have_nodes f.0.1.0.params args f.0.1.2)
  edge_nodes defs structs (Seg at args pred stop ends) f =
      ((Ptr, f.0.0), all_append (IsNode kinds) args (stop ∷ ends) (have_nodes f.0.1.0.params args f.0.1.2) ((Ptr, f.0.2), have_nodes f.0.3.0.params ends f.0.3.2))

  atom_nodes : (a : Atom) → IsWellFormed kinds a → AreNodes kinds (nodes_of_atom a)
  atom_nodes (Eq a b c) w = ((w.0.0, w.0.1), ((w.0.0, w.0.2), tt))
  atom_nodes (Ne a b c) w = ((w.0.0, w.0.1), ((w.0.0, w.0.2), tt))
  atom_nodes (In a lo hi) w = (w.0, tt)

-- ---- lists of edges
module _ (P : Edge → Type 0) where
  all_numbered : (n : ℕ) (es : List Edge) → AllByRecursion P es → AllByRecursion (λ x. P x.1) (numbered n es)
  all_numbered n [] a = tt
  all_numbered n (e ∷ es) a = (a.0, all_numbered (suc n) es a.1)

  all_without : (es : Edges) (id : EdgeId) → AllByRecursion (λ x. P x.1) es → AllByRecursion (λ x. P x.1) (without es id)
  all_without [] id a = tt
  all_without (e ∷ es) id a = at (all_without es id a.1) (e.0.0 == id.0)
    where
      at : AllByRecursion (λ x. P x.1) (without es id) → (here : Bool) → AllByRecursion (λ x. P x.1) (if here then es else e ∷ without es id)
      at rest true = a.1
      at rest false = (a.0, rest)

-- ---- states
pub nodes_kept : NodesStayBounded → NewNodesHaveKinds → NodesKeepWellMade
nodes_kept stay have_kinds defs vars structs s kinds w =
    let big = (with_nodes s kinds).kinds in
    let more = (have_kinds s kinds w.bounded).1 in
    record {
      bounded = stay s kinds w.bounded;
      atoms = all_map (IsWellFormed s.kinds) (IsWellFormed big) (formed_more s.kinds big more) s.atoms w.atoms;
      fits_defs = all_map (λ (x : EdgeId × Edge). EdgeFitsDefs defs s.kinds x.1) (λ (x : EdgeId × Edge). EdgeFitsDefs defs big x.1) (λ x f. defs_more s.kinds big more defs x.1 f) s.graph.edges w.fits_defs;
      fits_program = record {
        vars_fit = all_may_more s.kinds big more (map (λ (x : VarInfo). x.kind) vars) s.env w.fits_program.vars_fit;
        blocks_fit = all_map (λ (x : EdgeId × Edge). EdgeFitsStructs structs s.kinds x.1) (λ (x : EdgeId × Edge). EdgeFitsStructs structs big x.1) (λ x f. structs_more s.kinds big more structs x.1 f) s.graph.edges w.fits_program.blocks_fit;
      };
    }

pub edges_kept : EdgesStayBounded → EdgesKeepWellMade
edges_kept stay defs vars structs s new fits w =
    record {
      bounded = stay s new w.bounded (all_map (EdgeFits defs structs s.kinds) (λ e. AreNodes s.kinds (nodes_of e)) (edge_nodes s.kinds defs structs) new fits);
      atoms = w.atoms;
      fits_defs = all_append (λ (x : EdgeId × Edge). EdgeFitsDefs defs s.kinds x.1) s.graph.edges (numbered s.graph.next new) w.fits_defs
          (all_numbered (EdgeFitsDefs defs s.kinds) s.graph.next new (all_map (EdgeFits defs structs s.kinds) (EdgeFitsDefs defs s.kinds) (λ e f. f.0) new fits));
      fits_program = record {
        vars_fit = w.fits_program.vars_fit;
        blocks_fit = all_append (λ (x : EdgeId × Edge). EdgeFitsStructs structs s.kinds x.1) s.graph.edges (numbered s.graph.next new) w.fits_program.blocks_fit
            (all_numbered (EdgeFitsStructs structs s.kinds) s.graph.next new (all_map (EdgeFits defs structs s.kinds) (EdgeFitsStructs structs s.kinds) (λ e f. f.1) new fits));
      };
    }

pub atoms_kept : AtomsStayBounded → AtomsKeepWellMade
atoms_kept stay defs vars structs s atoms formed w =
    record {
      bounded = stay s atoms w.bounded (all_map (IsWellFormed s.kinds) (λ a. AreNodes s.kinds (nodes_of_atom a)) (atom_nodes s.kinds) atoms formed);
      atoms = all_append (IsWellFormed s.kinds) s.atoms atoms w.atoms formed;
      fits_defs = w.fits_defs;
      fits_program = record { vars_fit = w.fits_program.vars_fit; blocks_fit = w.fits_program.blocks_fit };
    }

pub fewer_kept : FewerEdgesStayBounded → FewerKeepWellMade
fewer_kept stay defs vars structs s edge e there w =
    record {
      bounded = stay s (edge ∷ []) (e ∷ []) (without s.graph.edges edge) (there, (refl, refl)) w.bounded;
      atoms = w.atoms;
      fits_defs = all_without (EdgeFitsDefs defs s.kinds) s.graph.edges edge w.fits_defs;
      fits_program = record {
        vars_fit = w.fits_program.vars_fit;
        blocks_fit = all_without (EdgeFitsStructs structs s.kinds) s.graph.edges edge w.fits_program.blocks_fit;
      };
    }

pub edge_of_fitting : EdgeOfFitting
edge_of_fitting defs s edge e there fits = edge_fits (EdgeFitsDefs defs s.kinds) s.graph.edges edge e there fits
