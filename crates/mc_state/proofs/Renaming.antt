-- Other nodes in place of a state's own.
use Rattle.std.proofs.Common.{◌≡◌, ℕ, List, [], ◌∷◌, map, Option, Some, None, refl, sym, ap, ap₂, ◌∙◌, subst, ℤ, pos}
use Rattle.std.specs.Prelude.{option_map}
use Rattle.std.specs.List.{AllByRecursion}
use mathlib.Core.Path.{fun_ext}
use Rattle.mc_base.specs.declared.ids.EdgeId.{EdgeId}
use Rattle.mc_base.specs.declared.ids.NodeId.{NodeId}
use Rattle.mc_base.specs.declared.plain.Kind.{Kind}
use Rattle.mc_base.specs.declared.plain.Atom.{Atom}
use Rattle.mc_base.specs.declared.plain.Atom.TheVariants.{Eq, Ne, In}
use Rattle.mc_base.specs.Atoms.{IsTrueAtom, moved_atom}
use Rattle.mc_base.specs.Kinds.{InKind}
use Rattle.mc_base.specs.Nodes.{Valuation, at_node, moved}
use Rattle.mc_flow.specs.Heap.Heap.{Region}
use Rattle.mc_flow.specs.Heap.Parts.{Split, IsCell}
use Rattle.mc_flow.specs.declared.defs.rules.Def.{Def}
use Rattle.mc_flow.specs.Defs.Meaning as meaning
use Rattle.mc_state.specs.declared.graph.edge.Edge.{Edge}
use Rattle.mc_state.specs.declared.graph.edge.Edge.TheVariants.{Block, Ind, Seg}
use Rattle.mc_state.specs.Graph.Edges.{moved_edge}
use Rattle.mc_state.specs.Graph.Graph.{Edges}
use Rattle.mc_pure.specs.Pure.{Kinds}
use Rattle.mc_state.specs.State.{State, renamed}
use Rattle.mc_state.specs.Stands.{VarsMeet, EdgeMeets, EdgesMeet, StandsBy}
use Rattle.mc_state.specs.Laws.{RenamedStands}

-- a proof of one of two equal facts
pub along : {P Q : Type 0} → P ≡ Q → P → Q
along e x = subst (λ (T : Type 0). T) e x

module _ (v : Valuation) (f : ℕ → ℕ) where
  -- the state's own valuation
  abbrev own : Valuation
  own n = v (f n)

  values_eq : (ns : List NodeId) → map (at_node v) (map (moved f) ns) ≡ map (at_node own) ns
  values_eq [] = refl
  values_eq (n ∷ ns) = ap (λ (zs : List ℤ). own n.0 ∷ zs) (values_eq ns)

  vars_eq : (xs : List (Option NodeId)) (values : List (Option ℤ)) → VarsMeet v (map (option_map (moved f)) xs) values ≡ VarsMeet own xs values
  vars_eq [] [] = refl
  vars_eq [] (z ∷ zs) = refl
  vars_eq (None ∷ xs) [] = refl
  vars_eq (Some n ∷ xs) [] = refl
  vars_eq (None ∷ xs) (z ∷ zs) = ap (λ (T : Type 0). Unit {0} × T) (vars_eq xs zs)
  vars_eq (Some n ∷ xs) (z ∷ zs) = ap (λ (T : Type 0). (z ≡ Some (own n.0)) × T) (vars_eq xs zs)

  edge_eq : (defs : List Def) (e : Edge) (part : Region) → EdgeMeets defs v (moved_edge f e) part ≡ EdgeMeets defs own e part
  edge_eq defs (Block at shape fields) part =
      ap (λ (F : List (Option ℤ) → Type 0). (address : ℕ) × (own at.0 ≡ pos address) × ((values : List (Option ℤ)) × IsCell part address (record { shape = shape.0; fields = values }) × F values)) (fun_ext (vars_eq fields))
  edge_eq defs (Ind at pred args) part = ap (λ (zs : List ℤ). meaning.Sat defs pred (own at.0) zs part) (values_eq args)
  edge_eq defs (Seg at args pred «end» ends) part = ap₂ (λ (xs ys : List ℤ). meaning.Seg defs pred (own at.0) xs (own end.0) ys part) (values_eq args) (values_eq ends)

  edges_eq : (defs : List Def) (es : Edges) (region : Region) → EdgesMeet defs v (map (λ (e : EdgeId × Edge). (e.0, moved_edge f e.1)) es) region ≡ EdgesMeet defs own es region
  edges_eq defs [] region = refl
  edges_eq defs (e ∷ es) region =
      ap₂ (λ (P Q : Region → Type 0). (part : Region) × (rest : Region) × Split region part rest × P part × Q rest) (fun_ext (edge_eq defs e.1)) (fun_ext (edges_eq defs es))

  atom_eq : (g : Atom) → IsTrueAtom v (moved_atom f g) ≡ IsTrueAtom own g
  atom_eq (Eq a b c) = refl
  atom_eq (Ne a b c) = refl
  atom_eq (In a lo hi) = refl

  atoms_eq : (gs : List Atom) → AllByRecursion (IsTrueAtom v) (map (moved_atom f) gs) ≡ AllByRecursion (IsTrueAtom own) gs
  atoms_eq [] = refl
  atoms_eq (g ∷ gs) = ap₂ (λ (S T : Type 0). S × T) (atom_eq g) (atoms_eq gs)

pub renamed_stands : RenamedStands
renamed_stands defs v values region s f kinds next fixed meet st =
    record {
      null = ap v fixed ∙ st.null;
      kinds = meet;
      atoms = along (atoms_eq v f s.atoms) st.atoms;
      vars = along (vars_eq v f s.env values) st.vars;
      parts = record { held = st.parts.held; rest = st.parts.rest; split = st.parts.split; each = along (edges_eq v f defs s.graph.edges st.parts.held) st.parts.each; alone = st.parts.alone };
    }

-- and the other way
pub renamed_forth : (defs : List Def) (v : Valuation) (values : List (Option ℤ)) (region : Region) (s : State) (f : ℕ → ℕ) (kinds : Kinds) (next : ℕ)
    → v 0 ≡ pos 0 → AllByRecursion (λ (k : NodeId × Kind). InKind k.1 (v k.0.0)) kinds → StandsBy defs (λ n. v (f n)) values region s → StandsBy defs v values region (renamed f kinds next s)
renamed_forth defs v values region s f kinds next null meet st =
    record {
      null = null;
      kinds = meet;
      atoms = along (sym (atoms_eq v f s.atoms)) st.atoms;
      vars = along (sym (vars_eq v f s.env values)) st.vars;
      parts = record { held = st.parts.held; rest = st.parts.rest; split = st.parts.split; each = along (sym (edges_eq v f defs s.graph.edges st.parts.held)) st.parts.each; alone = st.parts.alone };
    }
