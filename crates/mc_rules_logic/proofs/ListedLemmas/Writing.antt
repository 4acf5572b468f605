-- The list of a state.
use Rattle.std.proofs.Common.{◌≡◌, ◌≢◌, ◌↔◌, ◌⊎◌, inl, inr, ℕ, pos, Bool, true, false, List, [], ◌∷◌, Option, Some, None, slice_get, Contains, refl, sym, ◌∙◌, ap, subst, arith}
use Rattle.mc_base.specs.declared.ids.NodeId.{NodeId}
use Rattle.mc_base.specs.declared.plain.Kind.{Kind}
use Rattle.mc_base.specs.declared.plain.Atom.{Atom}
use Rattle.mc_base.specs.declared.plain.Atom.TheVariants.{Eq, Ne, In}
use Rattle.mc_base.specs.Atoms.{nodes_of_atom}
use Rattle.mc_base.specs.Nodes.{null}
use Rattle.mc_pure.specs.Classes.{EachHasNormalForm, EachIsDecided, HasNormalForm, NormalSaysAll}
use Rattle.mc_pure.specs.Derived.{Follows, IsFalse, apart, base}
use Rattle.mc_pure.specs.Known.{IsFit}
use Rattle.mc_pure.specs.Laws.{FollowsFromMore}
use Rattle.mc_pure.specs.Nodes.{RiseFrom}
use Rattle.mc_pure.specs.Pure.{Pure, Kinds, IsNode, kind_of, written}
use Rattle.mc_pure.specs.Whole.{kinds_without, IsWholeList}
use Rattle.mc_pure_ops.specs.Canon.Forgotten.{IsForgotten, without_node}
use Rattle.mc_pure_ops.specs.Canon.Left.{LeavesOut}
use Rattle.mc_pure.proofs.Changing.{decide}
use Rattle.mc_pure_ops.proofs.CanonLemmas.Others.{node_without}
use Rattle.mc_rules_logic.specs.Fold.Changed.{Forgets, IsListWithout, alone, left_over}
use Rattle.mc_state.specs.Facts.{Derives}
use Rattle.mc_state.specs.Fits.{AreNodes}
use Rattle.mc_state.specs.State.{State, pure_of}
use Rattle.mc_rules_logic.specs.Listed.Lists.{ListsAreThere}
use Rattle.mc_state.proofs.Lists.{all_places}
use Rattle.mc_rules_logic.proofs.FoldLemmas.Ordered.{among_cases, among_none, among_same}
use Rattle.mc_rules_logic.proofs.ListedLemmas.Choosing.{forgotten}

-- ---- atoms that leave a node out

one_of : (a n : NodeId) → a ≢ n → Contains (a ∷ []) n → ⊥
one_of a n ne c = elim (among_cases a [] n c) [ inl e ↦ ne e | inr d ↦ among_none n d ]

two_of : (a b n : NodeId) → a ≢ n → b ≢ n → Contains (a ∷ b ∷ []) n → ⊥
two_of a b n p q c = elim (among_cases a (b ∷ []) n c) [ inl e ↦ p e | inr d ↦ one_of b n q d ]

pub not_named : (n : NodeId) (f : Atom) → LeavesOut (Some n) f → Contains (nodes_of_atom f) n → ⊥
not_named n (Eq a b c) h = two_of a b n h.0 h.1
not_named n (Ne a b c) h = two_of a b n h.0 h.1
not_named n (In a lo hi) h = one_of a n h

second : (a b n : NodeId) → b ≡ n → Contains (a ∷ b ∷ []) n
second a b n e = (1, omega arith, e)

pub leaves : (n : NodeId) (f : Atom) → (Contains (nodes_of_atom f) n → ⊥) → LeavesOut (Some n) f
leaves n (Eq a b c) h = ((λ e. h (among_same a (b ∷ []) n e)), (λ e. h (second a b n e)))
leaves n (Ne a b c) h = ((λ e. h (among_same a (b ∷ []) n e)), (λ e. h (second a b n e)))
leaves n (In a lo hi) h = λ e. h (among_same a [] n e)

kept_nodes : NormalSaysAll → (p : Pure) → HasNormalForm p → (lost : NodeId) (f : Atom) → Follows p f → LeavesOut (Some lost) f → AreNodes (kinds_without p.kinds lost) (nodes_of_atom f)
kept_nodes law p form lost (Eq a b c) d h =
    let k = law p form.nf form.normal (Eq a b c) d in
    (node_without p.kinds lost a k.0 h.0, (node_without p.kinds lost b k.1 h.1, tt))
kept_nodes law p form lost (Ne a b c) d h =
    let k = law p form.nf form.normal (Ne a b c) d in
    (node_without p.kinds lost a k.0 h.0, (node_without p.kinds lost b k.1 h.1, tt))
kept_nodes law p form lost (In a lo hi) d h = (node_without p.kinds lost a (law p form.nf form.normal (In a lo hi) d).0 h, tt)

-- ---- the state that is left

-- what is known of a state, perhaps otherwise written, and what is left of it where a node is forgotten
module _ (law : NormalSaysAll) (s : State) (k : Pure) (kinds : k.kinds ≡ s.kinds) (follows : (f : Atom) → Follows k f ↔ Follows (pure_of s) f)
    (form : HasNormalForm k) (consistent : IsFalse (pure_of s) → ⊥) (node : NodeId) (atoms : List Atom) (f : IsForgotten k node atoms) where
  abbrev after : State
  after = left_over s node atoms

  is_alone : without_node k node atoms ≡ alone after
  is_alone = ap (λ (z : Kinds). let p : Pure = record { kinds = kinds_without z node; written = atoms; starts = [] } in p) kinds

  named_at : (place : ℕ) (a : Atom) → slice_get atoms place ≡ Some a → AreNodes after.kinds (nodes_of_atom a)
  named_at place a e =
      let h = (f.same a).0 (base (written place e)) in
      subst (λ (z : Kinds). AreNodes (kinds_without z node) (nodes_of_atom a)) kinds (kept_nodes law k form node a h.0 h.1)

  derived_to : (a : Atom) → Follows (alone after) a → Derives s a × (Contains (nodes_of_atom a) node → ⊥)
  derived_to a h =
      let g = (f.same a).0 (subst (λ (p : Pure). Follows p a) (sym is_alone) h) in
      (inl ((follows a).0 g.0), not_named node a g.1)

  derived_from : (a : Atom) → Derives s a → (Contains (nodes_of_atom a) node → ⊥) → Follows (alone after) a
  derived_from a (inl h) none = subst (λ (p : Pure). Follows p a) is_alone ((f.same a).1 ((follows a).1 h, leaves node a none))
  derived_from a (inr h) none = absurd (consistent h)

  pub forgets : Forgets node s after
  forgets = record {
    env = refl;
    graph = refl;
    next = refl;
    whole = refl;
    kinds = refl;
    named = all_places (λ (a : Atom). AreNodes after.kinds (nodes_of_atom a)) atoms named_at;
    derived = λ a. (derived_to a, λ h. derived_from a h.0 h.1);
    listed = subst (λ (p : Pure). IsWholeList p atoms) is_alone f.listed;
  }

-- ---- there is a list

tells : (b : Bool) → (b ≡ true) ⊎ (b ≡ false)
tells true = inl refl
tells false = inr refl

module _ (decided : EachIsDecided) (normal : EachHasNormalForm) (law : NormalSaysAll) (grows : FollowsFromMore) (s : State) (rise : RiseFrom 1 s.kinds) (fit : IsFit (pure_of s)) where
  abbrev p : Pure
  p = pure_of s

  false_or : IsFalse p ⊎ (IsFalse p → ⊥)
  false_or =
      let d = decided p rise fit in
      elim (tells (d.0 (Ne null null (pos 0)))) [
        | inl e ↦ elim ((d.1 (Ne null null (pos 0))).0 e) [ inl h ↦ inl (apart h) | inr h ↦ inl h ]
        | inr e ↦ inr (λ h. let g = (d.1 (Ne null null (pos 0))).1 (inr h) in let two : true ≡ false = sym g ∙ e in cc)
      ]

  node_or : (n : NodeId) (k : Option Kind) → kind_of p.kinds n ≡ k → n ≢ null → IsNode p.kinds n ⊎ (IsNode p.kinds n → ⊥)
  node_or n None e ne = inr (λ h. elim h.1 [ inl z ↦ ne z | inr z ↦ (let two = sym e ∙ z in cc) ])
  node_or n (Some kind) e ne = inl (kind, inr e)

  abbrev Listed : NodeId → Type 0
  Listed node = (atoms : List Atom) × IsListWithout node s atoms

  where_there : (node : NodeId) → (IsFalse p → ⊥) → HasNormalForm p → IsNode p.kinds node → node ≢ null → Listed node
  where_there node true_p form there nz =
      let l = forgotten law p true_p form node there nz grows in
      (l.0, λ consistent here not_null unnamed. forgets law s p refl (λ g. (λ d. d, λ d. d)) form true_p node l.0 l.1)

  where_true : (node : NodeId) → (IsFalse p → ⊥) → HasNormalForm p → Listed node
  where_true node true_p form = elim (decide node null) [
    | inl e ↦ ([], λ consistent here not_null unnamed. absurd (not_null e))
    | inr ne ↦ elim (node_or node (kind_of p.kinds node) refl ne) [
      | inl there ↦ where_there node true_p form there ne
      | inr never ↦ ([], λ consistent here not_null unnamed. absurd (never here))
    ]
  ]

  pub list_of : (node : NodeId) → Listed node
  list_of node = elim false_or [
    | inl wrong ↦ ([], λ consistent here not_null unnamed. absurd (consistent wrong))
    | inr true_p ↦ elim (normal p rise fit) [
      | inl wrong ↦ absurd (true_p wrong)
      | inr form ↦ where_true node true_p form
    ]
  ]

pub lists : EachIsDecided → EachHasNormalForm → NormalSaysAll → FollowsFromMore → ListsAreThere
lists decided normal law grows s node rise fit = list_of decided normal law grows s rise fit node
