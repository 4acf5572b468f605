-- States that have no cover.
use Rattle.std.proofs.Common.{◌≡◌, ◌⊎◌, ℕ, zero, suc, pos, ◌+ℤ◌, ◌-ℤ◌, Bool, true, false, cond, Option, Some, None, List, [], ◌∷◌, ◌++◌, map, slice_get, refl, sym, ap, ◌∙◌, subst, inl, inr, arith}
use Rattle.std.specs.Prelude.{◌==◌}
use Rattle.std.specs.List.{AllByRecursion}
use Rattle.std.proofs.lemmas.Int.{ints}
use Rattle.mc_base.specs.declared.ids.NodeId.{NodeId}
use Rattle.mc_base.specs.declared.ids.PredId.{PredId}
use Rattle.mc_base.specs.declared.ids.StructId.{StructId}
use Rattle.mc_base.specs.declared.plain.Atom.TheVariants as atom
use Rattle.mc_base.specs.declared.plain.Kind.{Kind}
use Rattle.mc_base.specs.declared.plain.Kind.TheVariants.{Ptr}
use Rattle.mc_base.specs.Atoms.{IsTrueAtom}
use Rattle.mc_base.specs.Nodes.{null}
use Rattle.mc_flow.specs.declared.defs.rules.Def.{Def}
use Rattle.mc_flow.specs.declared.defs.rules.Rule.{Rule}
use Rattle.mc_flow.specs.Defs.Examples.{defs, fork_id, list_id, tree_id, null_rule, list_rule, tree_rule, list_def, tree_def}
use Rattle.mc_state.specs.declared.graph.edge.Edge.{Edge}
use Rattle.mc_state.specs.declared.graph.edge.Edge.TheVariants as edge
use Rattle.mc_state.specs.Graph.Edges.{fields_of}
use Rattle.mc_state.specs.Graph.Graph.{Edges}
use Rattle.mc_pure.specs.Examples.{node}
use Rattle.mc_pure.specs.Laws.{IsTrue, DerivedIsTrue}
use Rattle.mc_pure.specs.Pure as known
use Rattle.mc_pure.specs.Pure.{kind_atom, address_atom}
use Rattle.mc_state.specs.declared.terms.Term.{Term}
use Rattle.mc_state.specs.State.{State, pure_of}
use Rattle.mc_state.specs.Facts.{Derives}
use Rattle.mc_state.specs.Terms.{plain, term_of, atom_on}
use Rattle.mc_state.specs.Covers.{RuleTerms, BlockIsTaken, CallsAreFound, CoverAt, Cover}
use Rattle.mc_state.specs.CoverExamples.{lone_pointer, shared_tree, at, entry}

one_of_two : (r0 r1 rule : Rule) (place : ℕ) → slice_get (r0 ∷ r1 ∷ []) place ≡ Some rule → (r0 ≡ rule) ⊎ (r1 ≡ rule)
one_of_two r0 r1 rule zero e = let same : r0 ≡ rule = cc in inl same
one_of_two r0 r1 rule (suc zero) e = let same : r1 ≡ rule = cc in inr same
one_of_two r0 r1 rule (suc (suc n)) e = cc

-- of a predicate with the rule of null and another one: the node is null, or the rule is the other one
null_or : (s : State) (pred : PredId) (n : ℕ) (def : Def) (rule : Rule) → slice_get defs pred.0 ≡ Some def → def.rules ≡ null_rule ∷ rule ∷ [] → (by : RuleTerms defs s pred (at n) [])
    → Derives s (atom.Eq (node n) null (pos 0)) ⊎ (rule ≡ by.rule)
null_or s pred n def rule is rules by =
    let same : def ≡ by.def = cc (by.defined) in
    let there : slice_get (null_rule ∷ rule ∷ []) by.place ≡ Some by.rule = ap (λ (rs : List Rule). slice_get rs by.place) (sym rules ∙ ap (λ (d : Def). d.rules) same) ∙ by.listed in
    elim (one_of_two null_rule rule by.rule by.place there) [
      | inl e ↦
          let atoms = subst (λ (r : Rule). AllByRecursion (λ a. Derives s (atom_on by.names a)) r.atoms) (sym e) by.atoms in
          let this : term_of by.names 0 ≡ at n = ap (λ names. term_of names 0) by.front in
          inl (subst (λ (t : Term). Derives s (atom.Eq t.node null ((pos 0 +ℤ pos 0) -ℤ t.add))) this atoms.0)
      | inr e ↦ inr e
    ]

-- ---- each node may have its own number
lone_true : IsTrue pos (pure_of lone_pointer)
lone_true f (known.written zero e) = let is : atom.Ne (node 1) null (pos 0) ≡ f = cc in subst (IsTrueAtom pos) is (λ same. omega (arith, ints))
lone_true f (known.written (suc place) e) = absurd (cc e)
lone_true _ known.zero = (omega (arith, ints), omega (arith, ints))
lone_true _ (known.kind {n} {k} zero e) =
    let is : (node 1, Ptr) ≡ (n, k) = cc in
    subst (λ (p : NodeId × Kind). IsTrueAtom pos (kind_atom p.0 p.1)) is (omega (arith, ints), omega (arith, ints))
lone_true _ (known.kind (suc place) e) = absurd (cc e)
lone_true _ (known.block place e) = absurd (cc e)
lone_true _ (known.apart i j ne x y) = absurd (cc x)

shared_true : IsTrue pos (pure_of shared_tree)
shared_true f (known.written zero e) = let is : atom.Ne (node 2) null (pos 0) ≡ f = cc in subst (IsTrueAtom pos) is (λ same. omega (arith, ints))
shared_true f (known.written (suc place) e) = absurd (cc e)
shared_true _ known.zero = (omega (arith, ints), omega (arith, ints))
shared_true _ (known.kind {n} {k} zero e) =
    let is : (node 1, Ptr) ≡ (n, k) = cc in
    subst (λ (p : NodeId × Kind). IsTrueAtom pos (kind_atom p.0 p.1)) is (omega (arith, ints), omega (arith, ints))
shared_true _ (known.kind {n} {k} (suc zero) e) =
    let is : (node 2, Ptr) ≡ (n, k) = cc in
    subst (λ (p : NodeId × Kind). IsTrueAtom pos (kind_atom p.0 p.1)) is (omega (arith, ints), omega (arith, ints))
shared_true _ (known.kind (suc (suc place)) e) = absurd (cc e)
shared_true _ (known.block {a} zero e) = let is : node 1 ≡ a = cc in subst (λ n. IsTrueAtom pos (address_atom n)) is (omega (arith, ints), omega (arith, ints))
shared_true _ (known.block (suc place) e) = absurd (cc e)
shared_true _ (known.apart zero zero ne x y) = absurd (ne refl)
shared_true _ (known.apart zero (suc j) ne x y) = absurd (cc y)
shared_true _ (known.apart (suc i) j ne x y) = absurd (cc x)

-- ---- which edge it is
only_one : (b : Bool) (x y : Edge) → cond b (Some x) None ≡ Some y → (b ≡ true) × (x ≡ y)
only_one true x y e = let same : x ≡ y = cc in (refl, same)
only_one false x y e = absurd (cc e)

first_or_second : (b c : Bool) (x y z : Edge) → cond b (Some x) (cond c (Some y) None) ≡ Some z → ((b ≡ true) × (x ≡ z)) ⊎ (y ≡ z)
first_or_second true c x y z e = let same : x ≡ z = cc in inl (refl, same)
first_or_second false true x y z e = let same : y ≡ z = cc in inr same
first_or_second false false x y z e = absurd (cc e)

known_nodes : (nodes : List NodeId) (a b : NodeId) → Some a ∷ Some b ∷ [] ≡ map Some nodes → a ∷ b ∷ [] ≡ nodes
known_nodes [] a b e = absurd (cc e)
known_nodes (x ∷ []) a b e = absurd (cc e)
known_nodes (x ∷ (y ∷ [])) a b e = cc
known_nodes (x ∷ (y ∷ (z ∷ nodes))) a b e = absurd (cc e)

same_fields : (a b : NodeId) (shape : StructId) (xs ys : List (Option NodeId)) → edge.Block a shape xs ≡ edge.Block b shape ys → xs ≡ ys
same_fields a b shape xs ys e = ap fields_of e

module _ (truth : DerivedIsTrue) where
  one_number : (s : State) → IsTrue pos (pure_of s) → (a b : ℕ) → Derives s (atom.Eq (node a) (node b) (pos 0)) → a ≡ b
  one_number s is_true a b d =
      let same : pos a ≡ pos b +ℤ pos 0 = truth (pure_of s) pos is_true (atom.Eq (node a) (node b) (pos 0)) d in
      omega (arith, ints)

  -- ---- a list, without edges
  no_list : (depth : ℕ) (left : Edges) → CoverAt defs lone_pointer depth list_id (at 1) [] [] left → ⊥
  no_list zero left f = f
  no_list (suc depth) left f =
      elim f [
        | inl i ↦ absurd (cc (i.3))
        | inr other ↦ elim other [
          | inl g ↦ absurd (cc (g.5))
          | inr r ↦ elim (null_or lone_pointer list_id 1 list_def list_rule refl refl r.0) [
            | inl d ↦ let same = one_number lone_pointer lone_true 1 0 d in absurd (omega arith)
            | inr e ↦
                let cell = subst (λ (rule : Rule). BlockIsTaken lone_pointer rule.block (at 1) r.0.contents [] r.1) (sym e) r.2 in
                absurd (cc (cell.2))
          ]
        ]
      ]

  pub without_edges : (left : Edges) → ¬ Cover defs lone_pointer list_id (at 1) [] lone_pointer.graph.edges left
  without_edges left cover = no_list cover.depth left cover.found

  -- ---- a tree, of which both pointers of a fork point to one
  abbrev the_fork : Edge
  the_fork = edge.Block (node 1) fork_id (Some (node 2) ∷ Some (node 2) ∷ [])

  abbrev the_tree : Edge
  the_tree = edge.Ind (node 2) tree_id []

  abbrev one_edge : Edges
  one_edge = entry 1 the_tree ∷ []

  -- no edge makes no tree
  no_tree : (depth : ℕ) (left : Edges) → CoverAt defs shared_tree depth tree_id (at 2) [] [] left → ⊥
  no_tree zero left f = f
  no_tree (suc depth) left f =
      elim f [
        | inl i ↦ absurd (cc (i.3))
        | inr other ↦ elim other [
          | inl g ↦ absurd (cc (g.5))
          | inr r ↦ elim (null_or shared_tree tree_id 2 tree_def tree_rule refl refl r.0) [
            | inl d ↦ let same = one_number shared_tree shared_true 2 0 d in absurd (omega arith)
            | inr e ↦
                let cell = subst (λ (rule : Rule). BlockIsTaken shared_tree rule.block (at 2) r.0.contents [] r.1) (sym e) r.2 in
                absurd (cc (cell.2))
          ]
        ]
      ]

  -- the one tree is taken
  one_tree : (depth : ℕ) (left : Edges) → CoverAt defs shared_tree depth tree_id (at 2) [] one_edge left → left ≡ []
  one_tree zero left f = absurd f
  one_tree (suc depth) left f =
      elim f [
        | inl i ↦
            let is = only_one (1 == i.0.0) the_tree (edge.Ind i.1 tree_id i.2) i.3 in
            i.6 ∙ ap (λ b. cond b [] one_edge) is.0
        | inr other ↦ elim other [
          | inl g ↦ let is = only_one (1 == g.0.0) the_tree (edge.Seg g.1 g.2 tree_id g.3 g.4) g.5 in absurd (cc (is.1))
          | inr r ↦ elim (null_or shared_tree tree_id 2 tree_def tree_rule refl refl r.0) [
            | inl d ↦ let same = one_number shared_tree shared_true 2 0 d in absurd (omega arith)
            | inr e ↦
                let cell = subst (λ (rule : Rule). BlockIsTaken shared_tree rule.block (at 2) r.0.contents one_edge r.1) (sym e) r.2 in
                let is = only_one (1 == cell.0.0) the_tree (edge.Block cell.1 fork_id (map Some r.0.contents)) cell.2 in
                absurd (cc (is.1))
          ]
        ]
      ]

  -- so there is none for the second call
  not_twice : (depth : ℕ) (names fixed : List Term) (contents : List NodeId) (left : Edges) → names ≡ at 1 ∷ (map plain contents ++ fixed) → node 2 ∷ node 2 ∷ [] ≡ contents
      → CallsAreFound (CoverAt defs shared_tree depth) names tree_rule.calls one_edge left → ⊥
  not_twice depth names fixed contents left front are f =
      let is : at 1 ∷ at 2 ∷ at 2 ∷ fixed ≡ names = sym (front ∙ ap (λ (ns : List NodeId). at 1 ∷ (map plain ns ++ fixed)) (sym are)) in
      let g = subst (λ ns. CallsAreFound (CoverAt defs shared_tree depth) ns tree_rule.calls one_edge left) (sym is) f in
      let none : g.0 ≡ [] = one_tree depth g.0 g.1 in
      no_tree depth g.2.0 (subst (λ es. CoverAt defs shared_tree depth tree_id (at 2) [] es g.2.0) none g.2.1)

  no_shared : (depth : ℕ) (left : Edges) → CoverAt defs shared_tree depth tree_id (at 1) [] shared_tree.graph.edges left → ⊥
  no_shared zero left f = f
  no_shared (suc depth) left f =
      elim f [
        | inl i ↦ elim (first_or_second (0 == i.0.0) (1 == i.0.0) the_fork the_tree (edge.Ind i.1 tree_id i.2) i.3) [
          | inl is ↦ absurd (cc (is.1))
          | inr is ↦
              let there : node 2 ≡ i.1 = cc in
              let same = one_number shared_tree shared_true 1 2 (subst (λ (n : NodeId). Derives shared_tree (atom.Eq (node 1) n (pos 0))) (sym there) i.4) in
              absurd (omega arith)
        ]
        | inr other ↦ elim other [
          | inl g ↦ elim (first_or_second (0 == g.0.0) (1 == g.0.0) the_fork the_tree (edge.Seg g.1 g.2 tree_id g.3 g.4) g.5) [
            | inl is ↦ absurd (cc (is.1))
            | inr is ↦ absurd (cc is)
          ]
          | inr r ↦ elim (null_or shared_tree tree_id 1 tree_def tree_rule refl refl r.0) [
            | inl d ↦ let same = one_number shared_tree shared_true 1 0 d in absurd (omega arith)
            | inr e ↦
                let cell = subst (λ (rule : Rule). BlockIsTaken shared_tree rule.block (at 1) r.0.contents shared_tree.graph.edges r.1) (sym e) r.2 in
                let calls = subst (λ (rule : Rule). CallsAreFound (CoverAt defs shared_tree depth) r.0.names rule.calls r.1 left) (sym e) r.3 in
                elim (first_or_second (0 == cell.0.0) (1 == cell.0.0) the_fork the_tree (edge.Block cell.1 fork_id (map Some r.0.contents)) cell.2) [
                  | inl is ↦
                      let mid : r.1 ≡ one_edge = cell.4 ∙ ap (λ b. cond b one_edge (entry 0 the_fork ∷ cond (1 == cell.0.0) [] one_edge)) is.0 in
                      let are = known_nodes r.0.contents (node 2) (node 2) (same_fields (node 1) cell.1 fork_id _ _ is.1) in
                      not_twice depth r.0.names r.0.fixed r.0.contents left r.0.front are
                      (subst (λ es. CallsAreFound (CoverAt defs shared_tree depth) r.0.names tree_rule.calls es left) mid calls)
                  | inr is ↦ absurd (cc is)
                ]
          ]
        ]
      ]

  pub of_shared : (left : Edges) → ¬ Cover defs shared_tree tree_id (at 1) [] shared_tree.graph.edges left
  of_shared left cover = no_shared cover.depth left cover.found
