-- States that are built up.
use Rattle.std.proofs.Common.{◌≡◌, ◌≢◌, ◌⊎◌, inl, inr, ◌<◌, ◌≤◌, ◌+◌, ℕ, zero, suc, List, [], ◌∷◌, ◌++◌, Option, Some, None, Bool, true, length, length-append, get_or, slice_get, take, drop, replicate, refl, sym, ap, ap₂, subst, ◌∙◌, arith, append_assoc, add-one}
use Rattle.std.specs.Prelude.{slice_set, All}
use Rattle.std.specs.List.{AllByRecursion}
use Rattle.std.proofs.lemmas.List.{take_more, length-take-le}
use Rattle.std.proofs.lemmas.List.{take_all}
use Rattle.std.proofs.lemmas.Option.{slice_get-get_or}
use Rattle.mc_base.specs.declared.ids.EdgeId.{EdgeId}
use Rattle.mc_base.specs.declared.ids.NodeId.{NodeId}
use Rattle.mc_base.specs.declared.plain.Atom.{Atom}
use Rattle.mc_base.specs.declared.plain.Kind.{Kind}
use Rattle.mc_base.specs.declared.plain.Kind.TheVariants as kind
use Rattle.mc_state.specs.declared.graph.edge.Edge.{Edge}
use Rattle.mc_state.specs.Graph.Edges.{known_nodes, nodes_of}
use Rattle.mc_state.specs.Graph.Graph.{Edges, Graph, numbered}
use Rattle.mc_pure.specs.Pure.{Kinds, IsNode, IsWellFormed}
use Rattle.mc_state.specs.declared.raw_state.NodeKind.{NodeKind}
use Rattle.mc_state.specs.declared.raw_state.NodeKind.TheVariants.{Zero, Int, Ptr}
use Rattle.mc_state.specs.declared.raw_state.RawState.{RawState}
use Rattle.mc_state.specs.State.{State, with_var, with_nodes, with_atom, with_atoms, with_edges}
use Rattle.mc_state.specs.Fits.{AreNodes}
use Rattle.mc_state.specs.RawStates.{kinds_from, state_of, BeginsWithZero}
use Rattle.mc_state_io.specs.Raw.Raw.{begun, filled, AddsKind, AllAreThere, AllAtomsFit}

-- ---- nodes

abbrev node_kind : Kind → NodeKind
node_kind kind.Int = Int
node_kind kind.Ptr = Ptr

kinds_push : (n : ℕ) (kinds : List NodeKind) (k : Kind) (m : ℕ) → m ≡ n + length kinds → kinds_from n (kinds ++ node_kind k ∷ []) ≡ kinds_from n kinds ++ (record { 0 = m }, k) ∷ []
kinds_push n [] kind.Int m e = let q : n ≡ m = omega arith in ap (λ (z : ℕ). (let p : NodeId × Kind = (record { 0 = z }, kind.Int) in p ∷ [])) q
kinds_push n [] kind.Ptr m e = let q : n ≡ m = omega arith in ap (λ (z : ℕ). (let p : NodeId × Kind = (record { 0 = z }, kind.Ptr) in p ∷ [])) q
kinds_push n (Zero ∷ kinds) k m e = kinds_push (suc n) kinds k m (omega arith)
kinds_push n (Int ∷ kinds) k m e = ap (λ (z : Kinds). (let p : NodeId × Kind = (record { 0 = n }, kind.Int) in p ∷ z)) (kinds_push (suc n) kinds k m (omega arith))
kinds_push n (Ptr ∷ kinds) k m e = ap (λ (z : Kinds). (let p : NodeId × Kind = (record { 0 = n }, kind.Ptr) in p ∷ z)) (kinds_push (suc n) kinds k m (omega arith))

with_both : (s : State) (kinds more : Kinds) (n m : ℕ) → kinds ≡ more → n ≡ m → (let t : State = record s { kinds = kinds; next = n } in let u : State = record s { kinds = more; next = m } in t ≡ u)
with_both s kinds more n m e q = ap₂ (λ (z : Kinds) (k : ℕ). (let t : State = record s { kinds = z; next = k } in t)) e q

begun_push : (vars : ℕ) (kinds : List NodeKind) (k : Kind) → with_nodes (begun vars kinds) (k ∷ []) ≡ begun vars (kinds ++ node_kind k ∷ [])
begun_push vars kinds k =
    let l = length-append kinds (node_kind k ∷ []) in
    with_both (begun vars kinds) _ _ _ _ (sym (kinds_push 0 kinds k (length kinds) (omega arith))) (omega arith)

pub begun_more : (vars : ℕ) (kinds : List NodeKind) (i : ℕ) (d : NodeKind) (k : Kind) → i < length kinds → get_or kinds i d ≡ node_kind k → with_nodes (begun vars (take i kinds)) (k ∷ []) ≡ begun vars (take (i + 1) kinds)
begun_more vars kinds i d k l e =
    begun_push vars (take i kinds) k ∙ ap (begun vars) (ap (λ (z : NodeKind). take i kinds ++ z ∷ []) (sym e) ∙ sym (take_more kinds i d l))

pub begun_first : (vars : ℕ) (kinds : List NodeKind) → BeginsWithZero kinds → begun vars (take 1 kinds) ≡ begun vars (Zero ∷ [])
begun_first vars [] b = absurd b
begun_first vars (k ∷ kinds) b = ap (λ (z : NodeKind). begun vars (z ∷ [])) b.0

pub begun_end : (vars : ℕ) (kinds : List NodeKind) (i : ℕ) → length kinds ≤ i → begun vars (take i kinds) ≡ begun vars kinds
begun_end vars kinds i l = ap (begun vars) (take_all i kinds l)

pub not_zero : (kinds : List NodeKind) (i : ℕ) (d : NodeKind) → BeginsWithZero kinds → 1 ≤ i → i < length kinds → get_or kinds i d ≢ Zero
not_zero [] i d b l m = absurd b
not_zero (k ∷ kinds) zero d b l m = absurd (omega arith)
not_zero (k ∷ kinds) (suc i) d b l m = b.1 i d (omega arith)

pub same_item : (xs : List NodeKind) (i : ℕ) (d e : NodeKind) → i < length xs → get_or xs i d ≡ Zero → get_or xs i e ≡ Zero
same_item [] i d e m q = absurd (omega arith)
same_item (x ∷ xs) zero d e m q = q
same_item (x ∷ xs) (suc i) d e m q = same_item xs i d e (omega arith) q

pub begins : (kinds : List NodeKind) → 0 < length kinds → get_or kinds 0 Zero ≡ Zero → ((k : ℕ) → 1 ≤ k → k < length kinds → get_or kinds k Int ≢ Zero) → BeginsWithZero kinds
begins [] l e h = absurd (omega arith)
begins (k ∷ kinds) l e h = (e, λ i d m q. h (suc i) (omega arith) (omega arith) (same_item kinds i d Int m q))

pub first_zero : (kinds : List NodeKind) (d : NodeKind) → BeginsWithZero kinds → get_or kinds 0 d ≡ Zero
first_zero [] d b = absurd b
first_zero (k ∷ kinds) d b = b.0

-- ---- variables

set_more : {X : Type 0} (xs ys : List X) (i : ℕ) (d : X) → i < length xs → length xs ≡ length ys → slice_set (take i xs ++ drop i ys) i (get_or xs i d) ≡ take (suc i) xs ++ drop (suc i) ys
set_more [] ys i d l e = absurd (omega arith)
set_more (x ∷ xs) [] i d l e = absurd (omega arith)
set_more (x ∷ xs) (y ∷ ys) zero d l e = refl
set_more {X} (x ∷ xs) (y ∷ ys) (suc i) d l e = ap (λ (z : List X). x ∷ z) (set_more xs ys i d (omega arith) (omega arith))

pub vars_more : {X : Type 0} (xs ys : List X) (i : ℕ) (d : X) → i < length xs → length ys ≡ length xs → slice_set (take i xs ++ drop i ys) i (get_or xs i d) ≡ take (i + 1) xs ++ drop (i + 1) ys
vars_more xs ys i d l e = let q : length xs ≡ length ys = omega arith in rw add-one (set_more xs ys i d l q)

pub vars_end : {X : Type 0} (xs ys : List X) (i : ℕ) → length xs ≤ i → length ys ≡ length xs → take i xs ++ drop i ys ≡ xs
vars_end [] [] zero l e = refl
vars_end [] [] (suc i) l e = refl
vars_end [] (y ∷ ys) i l e = absurd (omega arith)
vars_end (x ∷ xs) [] i l e = absurd (omega arith)
vars_end (x ∷ xs) (y ∷ ys) zero l e = absurd (omega arith)
vars_end {X} (x ∷ xs) (y ∷ ys) (suc i) l e = ap (λ (z : List X). x ∷ z) (vars_end xs ys i (omega arith) (omega arith))

pub var_there : (own : Kinds) (ns : List (Option NodeId)) (i : ℕ) (d : Option NodeId) → i < length ns → AreNodes own (known_nodes ns) → (n : NodeId) → get_or ns i d ≡ Some n → IsNode own n
var_there own [] i d l a n e = absurd (omega arith)
var_there own (None ∷ ns) zero d l a n e = absurd (cc e)
var_there own (Some m ∷ ns) zero d l a n e = let q : m ≡ n = cc in subst (IsNode own) q a.0
var_there own (None ∷ ns) (suc i) d l a n e = var_there own ns i d (omega arith) a n e
var_there own (Some m ∷ ns) (suc i) d l a n e = var_there own ns i d (omega arith) a.1 n e

-- ---- edges

numbered_push : (n : ℕ) (es : List Edge) (e : Edge) (m : ℕ) → m ≡ n + length es → numbered n (es ++ e ∷ []) ≡ numbered n es ++ numbered m (e ∷ [])
numbered_push n [] e m q = let s : n ≡ m = omega arith in ap (λ (z : ℕ). numbered z (e ∷ [])) s
numbered_push n (x ∷ es) e m q = ap (λ (z : Edges). (let p : EdgeId × Edge = (record { 0 = n }, x) in p ∷ z)) (numbered_push (suc n) es e m (omega arith))

with_graph : (s : State) (es fs : Edges) (n m : ℕ) → es ≡ fs → n ≡ m → (let t : State = record s { graph = record { edges = es; next = n } } in let u : State = record s { graph = record { edges = fs; next = m } } in t ≡ u)
with_graph s es fs n m e q = ap₂ (λ (z : Edges) (k : ℕ). (let t : State = record s { graph = record { edges = z; next = k } } in t)) e q

edges_push : (s : State) (es : List Edge) (e : Edge) → with_edges (with_edges s es) (e ∷ []) ≡ with_edges s (es ++ e ∷ [])
edges_push s es e =
    let l = length-append es (e ∷ []) in
    with_graph s _ _ _ _ (append_assoc s.graph.edges (numbered s.graph.next es) (numbered (s.graph.next + length es) (e ∷ [])) ∙ ap (λ (z : Edges). s.graph.edges ++ z) (sym (numbered_push s.graph.next es e (s.graph.next + length es) refl))) (omega arith)

pub edges_more : (s : State) (es : List Edge) (i : ℕ) (d : Edge) → i < length es → with_edges (with_edges s (take i es)) (get_or es i d ∷ []) ≡ with_edges s (take (i + 1) es)
edges_more s es i d l = edges_push s (take i es) (get_or es i d) ∙ ap (with_edges s) (sym (take_more es i d l))

-- ---- atoms

pub atoms_more : (s : State) (atoms : List Atom) (i : ℕ) (d : Atom) → i < length atoms → with_atoms (with_atoms s (take i atoms)) (get_or atoms i d ∷ []) ≡ with_atoms s (take (i + 1) atoms)
atoms_more s atoms i d l = ap (λ (z : List Atom). (let t : State = record s { atoms = z } in t)) (append_assoc s.atoms (take i atoms) (get_or atoms i d ∷ []) ∙ ap (λ (z : List Atom). s.atoms ++ z) (sym (take_more atoms i d l)))

-- ---- all together

pub built : (vars : ℕ) (raw : RawState) (s t : State) → s ≡ begun vars raw.kinds → t ≡ filled s raw → t ≡ state_of raw
built vars raw s t a b = b ∙ (ap (λ (z : State). filled z raw) a ∙ zero_more)
  where
    zero_more : filled (begun vars raw.kinds) raw ≡ state_of raw
    zero_more = with_graph (state_of raw) (numbered 0 raw.edges) (numbered 0 raw.edges) (0 + length raw.edges) (length raw.edges) refl (omega arith)

pub none_long : (vars : ℕ) (kinds : List NodeKind) → length (begun vars kinds).env ≡ vars
none_long zero kinds = refl
none_long (suc vars) kinds = ap suc (none_long vars kinds)

-- ---- steps of loops

pub kinds_step : (vars : ℕ) (kinds : List NodeKind) (i : ℕ) (d : NodeKind) (s new : State) → BeginsWithZero kinds → 1 ≤ i → i < length kinds → s ≡ begun vars (take i kinds) → AddsKind (get_or kinds i d) s new → new ≡ begun vars (take (i + 1) kinds)
kinds_step vars kinds i d s new b from l e h = at (get_or kinds i d) refl h
  where
    along : (k : Kind) → get_or kinds i d ≡ node_kind k → new ≡ with_nodes s (k ∷ []) → new ≡ begun vars (take (i + 1) kinds)
    along k q n = n ∙ (ap (λ (z : State). with_nodes z (k ∷ [])) e ∙ begun_more vars kinds i d k l q)

    at : (own : NodeKind) → get_or kinds i d ≡ own → AddsKind own s new → new ≡ begun vars (take (i + 1) kinds)
    at Zero q n = absurd (not_zero kinds i d b from l q)
    at Int q n = along kind.Int q n
    at Ptr q n = along kind.Ptr q n

pub vars_step : (s t new : State) (ns : List (Option NodeId)) (i : ℕ) (d : Option NodeId) → i < length ns → length t.env ≡ length ns → s ≡ record t { env = take i ns ++ drop i t.env } → new ≡ with_var s (record { 0 = i }) (get_or ns i d) → new ≡ record t { env = take (i + 1) ns ++ drop (i + 1) t.env }
vars_step s t new ns i d l m e n = n ∙ (ap (λ (z : State). with_var z (record { 0 = i }) (get_or ns i d)) e ∙ ap (λ (z : List (Option NodeId)). (let u : State = record t { env = z } in u)) (vars_more ns t.env i d l m))

pub vars_done : (s t : State) (ns : List (Option NodeId)) (i : ℕ) → length ns ≤ i → length t.env ≡ length ns → s ≡ record t { env = take i ns ++ drop i t.env } → s ≡ record t { env = ns }
vars_done s t ns i l m e = e ∙ ap (λ (z : List (Option NodeId)). (let u : State = record t { env = z } in u)) (vars_end ns t.env i l m)

pub edge_there : (s t : State) (es : List Edge) (i : ℕ) (x y : Edge) → i < length es → x ≡ get_or es i x → y ≡ x → s ≡ with_edges t (take i es) → AllAreThere t.kinds es → AreNodes s.kinds (nodes_of y)
edge_there s t es i x y l q r e all =
    let at : slice_get es i ≡ Some x = slice_get-get_or es i x l ∙ ap (λ (z : Edge). Some z) (sym q) in
    let there : AreNodes t.kinds (nodes_of y) = subst (λ (z : Edge). AreNodes t.kinds (nodes_of z)) (sym r) (all i x at) in
    subst (λ (z : State). AreNodes z.kinds (nodes_of y)) (sym e) there

pub edges_step : (s t new : State) (es : List Edge) (i : ℕ) (x y : Edge) → i < length es → x ≡ get_or es i x → y ≡ x → s ≡ with_edges t (take i es) → new ≡ with_edges s (y ∷ []) → new ≡ with_edges t (take (i + 1) es)
edges_step s t new es i x y l q r e n = n ∙ (ap (λ (z : State). with_edges z (y ∷ [])) e ∙ (ap (λ (z : Edge). with_edges (with_edges t (take i es)) (z ∷ [])) (r ∙ q) ∙ edges_more t es i x l))

pub atom_fits : (s t : State) (atoms : List Atom) (i : ℕ) (d : Atom) → i < length atoms → s ≡ with_atoms t (take i atoms) → AllAtomsFit t.kinds atoms → IsWellFormed s.kinds (get_or atoms i d)
atom_fits s t atoms i d l e all = subst (λ (z : State). IsWellFormed z.kinds (get_or atoms i d)) (sym e) (all i (get_or atoms i d) (slice_get-get_or atoms i d l))

pub atoms_step : (s t new : State) (atoms : List Atom) (i : ℕ) (d : Atom) → i < length atoms → s ≡ with_atoms t (take i atoms) → new ≡ with_atom s (get_or atoms i d) → new ≡ with_atoms t (take (i + 1) atoms)
atoms_step s t new atoms i d l e n = n ∙ (ap (λ (z : State). with_atom z (get_or atoms i d)) e ∙ atoms_more t atoms i d l)

pub begun_kinds : (s : State) (vars : ℕ) (kinds own : List NodeKind) → s ≡ begun vars kinds → kinds ≡ own → s.kinds ≡ kinds_from 0 own
begun_kinds s vars kinds own e q = ap (λ (z : State). z.kinds) e ∙ ap (kinds_from 0) q

pub built_from : (vars : ℕ) (raw : RawState) (kinds : List NodeKind) (s t : State) → s ≡ begun vars kinds → kinds ≡ raw.kinds → t ≡ filled s raw → t ≡ state_of raw
built_from vars raw kinds s t e q f = built vars raw s t (e ∙ ap (begun vars) q) f
