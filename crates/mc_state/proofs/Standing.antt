-- Valuations that agree on nodes, and states that come to have more nodes and atoms.
use Rattle.std.proofs.Common.{◌≡◌, ◌+◌, ◌-◌, ℕ, suc, List, [], ◌∷◌, map, length, Option, Some, None, get_or, refl, sym, ap, ap₂, ◌∙◌, subst, arith, ℤ, pos}
use Rattle.std.specs.List.{AllByRecursion}
use Rattle.std.proofs.lemmas.Bool.Decides.{nat_tests}
use Rattle.mc_base.specs.declared.ids.EdgeId.{EdgeId}
use Rattle.mc_base.specs.declared.ids.NodeId.{NodeId}
use Rattle.mc_base.specs.declared.plain.Kind.{Kind}
use Rattle.mc_base.specs.declared.plain.Atom.{Atom}
use Rattle.mc_base.specs.declared.plain.Atom.TheVariants.{Eq, Ne, In}
use Rattle.mc_base.specs.Atoms.{IsTrueAtom, nodes_of_atom}
use Rattle.mc_base.specs.Kinds.{InKind}
use Rattle.mc_base.specs.Nodes.{Valuation, at_node}
use Rattle.mc_flow.specs.Heap.Heap.{Region}
use Rattle.mc_flow.specs.declared.defs.rules.Def.{Def}
use Rattle.mc_flow.specs.Defs.Values.{InKinds}
use Rattle.mc_state.specs.declared.graph.edge.Edge.{Edge}
use Rattle.mc_state.specs.declared.graph.edge.Edge.TheVariants.{Block, Ind, Seg}
use Rattle.mc_state.specs.Graph.Edges.{known_nodes, nodes_of}
use Rattle.mc_pure.specs.Pure.{Kinds, IsNode}
use Rattle.mc_state.specs.State.{State, numbered_kinds, numbered_nodes}
use Rattle.mc_state.specs.Fits.{IsBounded}
use Rattle.mc_state.specs.Stands.{VarsMeet, EdgeMeets, StandsBy, AgreeBelow, extended}
use Rattle.mc_state.specs.Laws.{StandsByAgreement, ValuesAgree, NodesAreAdded, NodesHaveValues, AtomsAreAdded}
use Rattle.mc_state.proofs.Lists.{all_append, all_left, all_right, all_map, all_both}
use Rattle.mc_state.proofs.Nodes.{null_there, listed_there, node_below}
use Rattle.mc_state.proofs.Parts.{star_map}

module _ (v w : Valuation) where
  -- the same values at these nodes
  abbrev pub Agree : List NodeId → Type 0
  Agree ns = AllByRecursion (λ n. w n.0 ≡ v n.0) ns

  pub nodes_agree : (ns : List NodeId) → Agree ns → map (at_node w) ns ≡ map (at_node v) ns
  nodes_agree [] a = refl
  nodes_agree (n ∷ ns) a = ap₂ (λ (z : ℤ) (zs : List ℤ). z ∷ zs) a.0 (nodes_agree ns a.1)

  pub vars_agree : (xs : List (Option NodeId)) (values : List (Option ℤ)) → Agree (known_nodes xs) → VarsMeet v xs values → VarsMeet w xs values
  vars_agree [] [] a m = m
  vars_agree [] (z ∷ zs) a m = m
  vars_agree (None ∷ xs) [] a m = m
  vars_agree (Some n ∷ xs) [] a m = m
  vars_agree (None ∷ xs) (z ∷ zs) a m = (tt, vars_agree xs zs a m.1)
  vars_agree (Some n ∷ xs) (z ∷ zs) a m = (m.0 ∙ ap Some (sym a.0), vars_agree xs zs a.1 m.1)

  pub atom_agrees : (f : Atom) → Agree (nodes_of_atom f) → IsTrueAtom v f → IsTrueAtom w f
  atom_agrees (Eq i j c) a t = rw (a.0, a.1.0) t
  atom_agrees (Ne i j c) a t = rw (a.0, a.1.0) t
  atom_agrees (In i lo hi) a t = rw a.0 t

  pub edge_agrees : (defs : List Def) (e : Edge) (part : Region) → Agree (nodes_of e) → EdgeMeets defs v e part → EdgeMeets defs w e part
  edge_agrees defs (Block at shape fields) part a m = (m.0, a.0 ∙ m.1, (m.2.0, m.2.1, vars_agree fields m.2.0 a.1 m.2.2))
  edge_agrees defs (Ind at pred args) part a m = rw (a.0, nodes_agree args a.1) m
  edge_agrees defs (Seg at args pred «end» ends) part a m =
      let more = all_right (λ (n : NodeId). w n.0 ≡ v n.0) args («end» ∷ ends) a.1 in
      rw (a.0, nodes_agree args (all_left (λ (n : NodeId). w n.0 ≡ v n.0) args («end» ∷ ends) a.1), more.0, nodes_agree ends more.1) m

-- the same values at all nodes that are there
abbrev pub AgreeOn : Kinds → Valuation → Valuation → Type 0
AgreeOn kinds v w = (n : NodeId) → IsNode kinds n → w n.0 ≡ v n.0

-- only the values of nodes that are there count
pub stands_agree : (defs : List Def) (v w : Valuation) (values : List (Option ℤ)) (region : Region) (s : State) → IsBounded s → AgreeOn s.kinds v w → StandsBy defs v values region s → StandsBy defs w values region s
stands_agree defs v w values region s bounded agree st =
    let same : (ns : List NodeId) → AllByRecursion (IsNode s.kinds) ns → Agree v w ns = all_map (IsNode s.kinds) (λ (n : NodeId). w n.0 ≡ v n.0) agree in
    record {
      null = agree (record { 0 = 0 }) (null_there s.kinds) ∙ st.null;
      kinds = all_both (λ (k : NodeId × Kind). IsNode s.kinds k.0) (λ (k : NodeId × Kind). InKind k.1 (v k.0.0)) (λ (k : NodeId × Kind). InKind k.1 (w k.0.0))
          (λ k there h. subst (InKind k.1) (sym (agree k.0 there)) h) s.kinds (listed_there s.kinds) st.kinds;
      atoms = all_both (λ (f : Atom). AllByRecursion (IsNode s.kinds) (nodes_of_atom f)) (IsTrueAtom v) (IsTrueAtom w)
          (λ f there t. atom_agrees v w f (same (nodes_of_atom f) there) t) s.atoms bounded.atoms st.atoms;
      vars = vars_agree v w s.env values (same (known_nodes s.env) bounded.vars) st.vars;
      parts = record {
        held = st.parts.held;
        rest = st.parts.rest;
        split = st.parts.split;
        each = star_map (λ (e : EdgeId × Edge). EdgeMeets defs v e.1) (λ (e : EdgeId × Edge). EdgeMeets defs w e.1) (λ (e : EdgeId × Edge). AllByRecursion (IsNode s.kinds) (nodes_of e.1))
            (λ e part there m. edge_agrees v w defs e.1 part (same (nodes_of e.1) there) m) s.graph.edges st.parts.held bounded.edges st.parts.each;
        alone = st.parts.alone;
      };
    }

below_agree : (v w : Valuation) (s : State) → IsBounded s → AgreeBelow s.next v w → AgreeOn s.kinds v w
below_agree v w s bounded agree n there = agree n.0 (node_below s.kinds 1 s.next n bounded.positive bounded.kinds there)

pub stands_by_agreement : StandsByAgreement
stands_by_agreement defs v w values region s bounded agree st = stands_agree defs v w values region s bounded (below_agree v w s bounded agree) st

pub values_agree : ValuesAgree
values_agree s v w ns bounded agree there = nodes_agree v w ns (all_map (IsNode s.kinds) (λ (n : NodeId). w n.0 ≡ v n.0) (below_agree v w s bounded agree) ns there)

-- ---- new nodes

extended_below : (v : Valuation) (n : ℕ) (numbers : List ℤ) → AgreeBelow n v (extended v n numbers)
extended_below v n numbers m less = grind (arith, nat_tests)

extended_from : (v : Valuation) (n : ℕ) (numbers : List ℤ) (i : ℕ) → extended v n numbers (n + i) ≡ get_or numbers i (pos 0)
extended_from v n numbers i = let e : n + i - n ≡ i = omega arith in grind (arith, nat_tests, e)

-- a function has these numbers as its values from a number on
abbrev Gives : (ℕ → ℤ) → ℕ → List ℤ → Type 0
Gives f n numbers = (i : ℕ) → f (n + i) ≡ get_or numbers i (pos 0)

gives_first : (f : ℕ → ℤ) (n : ℕ) (z : ℤ) (zs : List ℤ) → Gives f n (z ∷ zs) → f n ≡ z
gives_first f n z zs g = let e : n + 0 ≡ n = omega arith in ap f (sym e) ∙ g 0

gives_others : (f : ℕ → ℤ) (n : ℕ) (z : ℤ) (zs : List ℤ) → Gives f n (z ∷ zs) → Gives f (suc n) zs
gives_others f n z zs g i = let e : suc n + i ≡ n + suc i = omega arith in ap f e ∙ g (suc i)

numbered_values : (f : ℕ → ℤ) (n : ℕ) (numbers : List ℤ) → Gives f n numbers → map (at_node f) (numbered_nodes n (length numbers)) ≡ numbers
numbered_values f n [] g = refl
numbered_values f n (z ∷ zs) g = ap₂ (λ (x : ℤ) (xs : List ℤ). x ∷ xs) (gives_first f n z zs g) (numbered_values f (suc n) zs (gives_others f n z zs g))

numbered_in_kinds : (f : ℕ → ℤ) (n : ℕ) (kinds : List Kind) (numbers : List ℤ) → InKinds kinds numbers → Gives f n numbers → AllByRecursion (λ (k : NodeId × Kind). InKind k.1 (f k.0.0)) (numbered_kinds n kinds)
numbered_in_kinds f n [] [] a g = tt
numbered_in_kinds f n [] (z ∷ zs) a g = tt
numbered_in_kinds f n (kind ∷ kinds) [] a g = absurd a
numbered_in_kinds f n (kind ∷ kinds) (z ∷ zs) a g =
    (subst (InKind kind) (sym (gives_first f n z zs g)) a.0, numbered_in_kinds f (suc n) kinds zs a.1 (gives_others f n z zs g))

pub nodes_are_added : NodesAreAdded
nodes_are_added defs v values region s kinds numbers bounded fit st =
    let w : Valuation = extended v s.next numbers in
    let same = stands_by_agreement defs v w values region s bounded (extended_below v s.next numbers) st in
    record {
      null = same.null;
      kinds = all_append (λ (k : NodeId × Kind). InKind k.1 (w k.0.0)) s.kinds (numbered_kinds s.next kinds) same.kinds (numbered_in_kinds w s.next kinds numbers fit (extended_from v s.next numbers));
      atoms = same.atoms;
      vars = same.vars;
      parts = same.parts;
    }

pub nodes_have_values : NodesHaveValues
nodes_have_values v n numbers = (numbered_values (extended v n numbers) n numbers (extended_from v n numbers), extended_below v n numbers)

-- ---- atoms

pub atoms_are_added : AtomsAreAdded
atoms_are_added defs v values region s atoms true_atoms st =
    record { null = st.null; kinds = st.kinds; atoms = all_append (IsTrueAtom v) s.atoms atoms st.atoms true_atoms; vars = st.vars; parts = st.parts }
