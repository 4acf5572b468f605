-- A well-made state that is numbered anew is well made.
use Rattle.std.proofs.Common.{◌≡◌, ◌<◌, ◌≤◌, ℕ, suc, List, [], ◌∷◌, Bool, true, false, Some, map, refl, ap, sym, ◌∙◌, inl, inr, arith, eqb-true, eq-eqb}
use Rattle.std.specs.Prelude.{◌==◌, if◌then◌else◌}
use Rattle.std.specs.List.{AllByRecursion}
use Rattle.std.proofs.lemmas.Bool.{ne_eqb}
use Rattle.mc_base.specs.declared.ids.EdgeId.{EdgeId}
use Rattle.mc_base.specs.declared.ids.NodeId.{NodeId}
use Rattle.mc_base.specs.declared.plain.Kind.{Kind}
use Rattle.mc_base.specs.declared.plain.Atom.{Atom}
use Rattle.mc_base.specs.declared.plain.Atom.TheVariants.{Eq, Ne, In}
use Rattle.mc_base.specs.declared.plain.VarInfo.{VarInfo}
use Rattle.mc_base.specs.Atoms.{moved_atom}
use Rattle.mc_base.specs.Nodes.{moved}
use Rattle.mc_flow.specs.declared.defs.rules.Def.{Def}
use Rattle.mc_flow.specs.declared.defs.shapes.StructInfo.{StructInfo}
use Rattle.mc_state.specs.declared.graph.edge.Edge.{Edge}
use Rattle.mc_state.specs.Graph.Edges.{moved_edge}
use Rattle.mc_state.specs.Graph.Graph.{Edges, numbered}
use Rattle.mc_pure.specs.Pure.{Kinds, HasKind, IsWellFormed, kind_of}
use Rattle.mc_state.specs.Fits.{EdgeFitsDefs, EdgeFitsStructs, NodesAscend, IsWellMade}
use Rattle.mc_state.specs.Laws.{moved_kinds}
use Rattle.mc_state.specs.State.{State}
use Rattle.mc_joins.specs.Same.Laws.{AnewIsBounded}
use Rattle.mc_joins.specs.Same.Same.{place_from, place_in, anew}
use Rattle.mc_rules_logic.proofs.FoldLemmas.MadeNodes.{defs_moved, may_moved, structs_moved}

-- ---- nodes that are moved have their kinds there

module _ (f : ℕ → ℕ) (kinds others : Kinds) (more : (kind : Kind) (n : NodeId) → HasKind kinds kind n → HasKind others kind (moved f n)) where
  well_moved : (a : Atom) → IsWellFormed kinds a → IsWellFormed others (moved_atom f a)
  well_moved (Eq a b c) w = ((w.0.0, more w.0.0 a w.0.1, more w.0.0 b w.0.2), w.1)
  well_moved (Ne a b c) w = ((w.0.0, more w.0.0 a w.0.1, more w.0.0 b w.0.2), w.1)
  well_moved (In a lo hi) w = ((w.0.0, more w.0.0 a w.0.1), w.1, w.2)

  all_well : (atoms : List Atom) → AllByRecursion (IsWellFormed kinds) atoms → AllByRecursion (IsWellFormed others) (map (moved_atom f) atoms)
  all_well [] a = tt
  all_well (x ∷ atoms) a = (well_moved x a.0, all_well atoms a.1)

  -- also where edges get other ids
  edges_moved : (P Q : Edge → Type 0) → ((e : Edge) → P e → Q (moved_edge f e)) → (n : ℕ) (es : Edges) → AllByRecursion (λ (e : EdgeId × Edge). P e.1) es
      → AllByRecursion (λ (e : EdgeId × Edge). Q e.1) (numbered n (map (λ (e : EdgeId × Edge). e.1) (map (λ (e : EdgeId × Edge). (e.0, moved_edge f e.1)) es)))
  edges_moved P Q step n [] a = tt
  edges_moved P Q step n (e ∷ es) a = (step e.1 a.0, edges_moved P Q step (suc n) es a.1)

-- ---- kinds of nodes that are numbered anew

-- each node of the list is there
there_too : (k : NodeId × Kind) (kinds more : Kinds) → AllByRecursion (λ (j : NodeId × Kind). (own : Kind) × (kind_of kinds j.0 ≡ Some own)) more
    → AllByRecursion (λ (j : NodeId × Kind). (own : Kind) × (kind_of (k ∷ kinds) j.0 ≡ Some own)) more
there_too k kinds [] a = tt
there_too k kinds (j ∷ more) a = (at (k.0.0 == j.0.0) a.0, there_too k kinds more a.1)
  where
    at : (b : Bool) → ((own : Kind) × (kind_of kinds j.0 ≡ Some own)) → (own : Kind) × ((if b then Some k.1 else kind_of kinds j.0) ≡ Some own)
    at true h = (k.1, refl)
    at false h = h

all_there : (kinds : Kinds) → AllByRecursion (λ (j : NodeId × Kind). (own : Kind) × (kind_of kinds j.0 ≡ Some own)) kinds
all_there [] = tt
all_there (k ∷ kinds) =
    let here : (k.0.0 == k.0.0) ≡ true = eq-eqb k.0.0 k.0.0 refl in
    ((k.1, ap (λ (b : Bool). if b then Some k.1 else kind_of kinds k.0) here), there_too k kinds kinds (all_there kinds))

-- a node that no other is moved to keeps its kind
kind_moved : (f : ℕ → ℕ) (kinds : Kinds) (n : NodeId) (kind : Kind) → AllByRecursion (λ (k : NodeId × Kind). f k.0.0 ≡ f n.0 → k.0.0 ≡ n.0) kinds
    → kind_of kinds n ≡ Some kind → kind_of (moved_kinds f kinds) (moved f n) ≡ Some kind
kind_moved f [] n kind only e = absurd (cc e)
kind_moved f (k ∷ kinds) n kind only e = at (k.0.0 == n.0) refl (λ e'. kind_moved f kinds n kind only.1 e') e
  where
    at : (b : Bool) → (k.0.0 == n.0) ≡ b → (kind_of kinds n ≡ Some kind → kind_of (moved_kinds f kinds) (moved f n) ≡ Some kind)
        → (if b then Some k.1 else kind_of kinds n) ≡ Some kind → (if f k.0.0 == f n.0 then Some k.1 else kind_of (moved_kinds f kinds) (moved f n)) ≡ Some kind
    at true is rest e =
        let one : (f k.0.0 == f n.0) ≡ true = eq-eqb (f k.0.0) (f n.0) (ap f (eqb-true k.0.0 n.0 is)) in
        ap (λ (b : Bool). if b then Some k.1 else kind_of (moved_kinds f kinds) (moved f n)) one ∙ e
    at false is rest e =
        let apart : (f k.0.0 == f n.0) ≡ false = ne_eqb (f k.0.0) (f n.0) (λ q. let yes' : (k.0.0 == n.0) ≡ true = eq-eqb k.0.0 n.0 (only.0 q) in cc (yes', is)) in
        ap (λ (b : Bool). if b then Some k.1 else kind_of (moved_kinds f kinds) (moved f n)) apart ∙ rest e

-- a node that is there has a place from the first on
at_least : (place : ℕ) (kinds : Kinds) (n : NodeId) (kind : Kind) → kind_of kinds n ≡ Some kind → place ≤ place_from place kinds n.0
at_least place [] n kind e = absurd (cc e)
at_least place (k ∷ kinds) n kind e = at (k.0.0 == n.0) (λ e'. at_least (suc place) kinds n kind e') e
  where
    at : (b : Bool) → (kind_of kinds n ≡ Some kind → suc place ≤ place_from (suc place) kinds n.0) → (if b then Some k.1 else kind_of kinds n) ≡ Some kind
        → place ≤ (if b then place else place_from (suc place) kinds n.0)
    at true rest e = omega arith
    at false rest e = let more = rest e in omega arith

-- two nodes that are there have one place where they are one
one_place : (place : ℕ) (kinds : Kinds) (m n : NodeId) (kind other : Kind) → kind_of kinds m ≡ Some kind → kind_of kinds n ≡ Some other
    → place_from place kinds m.0 ≡ place_from place kinds n.0 → m.0 ≡ n.0
one_place place [] m n kind other e f same = absurd (cc e)
one_place place (k ∷ kinds) m n kind other e f same =
    at (k.0.0 == m.0) (k.0.0 == n.0) refl refl (λ e' f' q. one_place (suc place) kinds m n kind other e' f' q) e f same
  where
    at : (b c : Bool) → (k.0.0 == m.0) ≡ b → (k.0.0 == n.0) ≡ c
        → (kind_of kinds m ≡ Some kind → kind_of kinds n ≡ Some other → place_from (suc place) kinds m.0 ≡ place_from (suc place) kinds n.0 → m.0 ≡ n.0)
        → (if b then Some k.1 else kind_of kinds m) ≡ Some kind → (if c then Some k.1 else kind_of kinds n) ≡ Some other
        → (if b then place else place_from (suc place) kinds m.0) ≡ (if c then place else place_from (suc place) kinds n.0) → m.0 ≡ n.0
    at true true is also rest e f same = sym (eqb-true k.0.0 m.0 is) ∙ eqb-true k.0.0 n.0 also
    at true false is also rest e f same = let far = at_least (suc place) kinds n other f in absurd (let never : ⊥ = omega arith in never)
    at false true is also rest e f same = let far = at_least (suc place) kinds m kind e in absurd (let never : ⊥ = omega arith in never)
    at false false is also rest e f same = rest e f same

-- no number below all nodes has a place
place_none : (place low : ℕ) (kinds : Kinds) (high n : ℕ) → NodesAscend low kinds high → n < low → place_from place kinds n ≡ 0
place_none place low [] high n a less = refl
place_none place low (k ∷ kinds) high n a less = at (k.0.0 == n) refl (λ l. place_none (suc place) (suc k.0.0) kinds high n a.2 l)
  where
    at : (b : Bool) → (k.0.0 == n) ≡ b → (n < suc k.0.0 → place_from (suc place) kinds n ≡ 0) → (if b then place else place_from (suc place) kinds n) ≡ 0
    at true is rest = let same = eqb-true k.0.0 n is in let first = a.0 in absurd (let never : ⊥ = omega arith in never)
    at false is rest = let first = a.0 in rest (omega arith)

module _ (s : State) (ascend : NodesAscend 1 s.kinds s.next) where
  only_one : (n : NodeId) (kind : Kind) → kind_of s.kinds n ≡ Some kind → (kinds : Kinds) → AllByRecursion (λ (j : NodeId × Kind). (own : Kind) × (kind_of s.kinds j.0 ≡ Some own)) kinds
      → AllByRecursion (λ (k : NodeId × Kind). place_in s k.0.0 ≡ place_in s n.0 → k.0.0 ≡ n.0) kinds
  only_one n kind e [] a = tt
  only_one n kind e (k ∷ kinds) a = (λ q. one_place 1 s.kinds k.0 n a.0.0 kind a.0.1 e q, only_one n kind e kinds a.1)

  anew_kind : (kind : Kind) (n : NodeId) → HasKind s.kinds kind n → HasKind (moved_kinds (place_in s) s.kinds) kind (moved (place_in s) n)
  anew_kind kind n (inl is) =
      let zero_place : place_in s 0 ≡ 0 = place_none 1 1 s.kinds s.next 0 ascend (omega arith) in
      inl (ap (λ (m : NodeId). moved (place_in s) m) is ∙ ap (λ (i : ℕ). let m : NodeId = record { 0 = i } in m) zero_place)
  anew_kind kind n (inr e) = inr (kind_moved (place_in s) s.kinds n kind (only_one n kind e s.kinds (all_there s.kinds)) e)

pub anew_made : AnewIsBounded → (defs : List Def) (vars : List VarInfo) (structs : List StructInfo) (s : State) → IsWellMade defs vars structs s → IsWellMade defs vars structs (anew s)
anew_made bounded defs vars structs s made =
    let f = place_in s in
    let others = moved_kinds (place_in s) s.kinds in
    let more = anew_kind s made.bounded.kinds in
    record {
      bounded = bounded s made.bounded;
      atoms = all_well f s.kinds others more s.atoms made.atoms;
      fits_defs = edges_moved f s.kinds others more (EdgeFitsDefs defs s.kinds) (EdgeFitsDefs defs others) (defs_moved f s.kinds others more defs) 0 s.graph.edges made.fits_defs;
      fits_program = record {
        vars_fit = may_moved f s.kinds others more (map (λ x. x.kind) vars) s.env made.fits_program.vars_fit;
        blocks_fit = edges_moved f s.kinds others more (EdgeFitsStructs structs s.kinds) (EdgeFitsStructs structs others) (structs_moved f s.kinds others more structs) 0 s.graph.edges made.fits_program.blocks_fit;
      };
    }
