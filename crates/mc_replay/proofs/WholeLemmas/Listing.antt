-- What is written where a node is forgotten of which nothing is known says all that is known of the others.
use Rattle.std.proofs.Common.{◌≡◌, ◌≢◌, ◌≤◌, ℕ, pos, List, [], ◌∷◌, Some, None, slice_get, refl, sym, ap, subst, ◌∙◌, inl, inr, arith}
use Rattle.std.specs.Prelude.{◌==◌, if◌then◌else◌}
use Rattle.mc_base.specs.declared.ids.NodeId.{NodeId}
use Rattle.mc_base.specs.declared.plain.Atom.{Atom}
use Rattle.mc_base.specs.declared.plain.Atom.TheVariants.{Eq, Ne, In}
use Rattle.mc_base.specs.declared.plain.Kind.{Kind}
use Rattle.mc_base.specs.declared.plain.Kind.TheVariants.{Int}
use Rattle.mc_base.specs.Atoms.{moved_atom}
use Rattle.mc_base.specs.Nodes.{moved, null}
use Rattle.mc_pure.specs.Pure as begin
use Rattle.mc_pure.specs.Pure.{Kinds, Pure, Base, HasKind, IsNode, IsWellFormed, kind_of}
use Rattle.mc_pure.specs.Canonical.{plainly}
use Rattle.mc_pure.specs.Classes.{HasNormalForm, NormalSaysAll}
use Rattle.mc_pure.specs.Derived.{Follows, IsFalse, base}
use Rattle.mc_pure.specs.Known.{IsFit, with_node}
use Rattle.mc_pure.specs.Laws.{FollowsFromMore}
use Rattle.mc_pure.specs.Nodes.{RiseFrom, with_kind}
use Rattle.mc_pure.specs.Whole.{kinds_without}
use Rattle.mc_pure.proofs.Changing.{decide, no, same_node, yes}
use Rattle.mc_pure.proofs.Placing.{kind_at}
use Rattle.mc_pure_ops.specs.Canon.Forgotten.{IsForgotten, IsForgottenOrFalse, without_node}
use Rattle.mc_pure_ops.specs.Canon.Left.{LeavesOut}
use Rattle.mc_pure_ops.proofs.JoinLemmas.Sorted.{first_kind, next_kind, head_differs, rest_none, with_here, with_other}
use Rattle.mc_rules_logic.proofs.FoldLemmas.MadeNodes.{in_kind}
use Rattle.mc_rules_logic.proofs.FoldLemmas.WrittenOnce.{one_written}
use Rattle.mc_kernel.proofs.OracleLemmas.Decided.{all_put}
use Rattle.mc_joins.specs.Same.Laws.{FollowsRenamed, FalseRenamed}
use Rattle.mc_joins.proofs.AtomsLemmas.Whole.{whole_list}
use Rattle.mc_replay.specs.Whole.{SaysAll}
use Rattle.mc_replay.proofs.WholeLemmas.Kinds.{order}

-- what it takes to forget the further node
pub record Forgetting (p : Pure) (further : NodeId) : Type 0 where
  pub says : NormalSaysAll
  pub grows : FollowsFromMore
  pub follows : FollowsRenamed
  pub wrong : FalseRenamed
  pub fit : IsFit p
  pub form : HasNormalForm p
  pub consistent : IsFalse p → ⊥
  pub bare : p.starts ≡ []
  pub new : IsNode p.kinds further → ⊥
  pub rise : RiseFrom 1 p.kinds
  pub more_rise : RiseFrom 1 (with_kind p.kinds further Int)

-- a node that is new has no kind
kind_none : (kinds : Kinds) (n : NodeId) → (IsNode kinds n → ⊥) → kind_of kinds n ≡ None
kind_none kinds n new = elim (kind_of kinds n) as (λ o. kind_of kinds n ≡ o → o ≡ None) [
  | None ↦ λ e. refl
  | Some kind ↦ λ e. absurd (new (kind, inr e))
] refl

without_none : (kinds : Kinds) (n : NodeId) → kind_of kinds n ≡ None → kinds_without kinds n ≡ kinds
without_none [] n e = refl
without_none (k ∷ kinds) n e =
    rw (no k.0.0 n.0 (λ q. head_differs k kinds n e (same_node k.0 n q))) (ap (λ (z : Kinds). k ∷ z) (without_none kinds n (rest_none k kinds n e)))

-- without it the kinds are as they were
kinds_back : (kinds : Kinds) (n : NodeId) (kind : Kind) → kind_of kinds n ≡ None → kinds_without (with_kind kinds n kind) n ≡ kinds
kinds_back [] n kind e = rw (yes n.0 n.0 refl) refl
kinds_back (k ∷ kinds) n kind e = elim (order n.0 k.0.0) [
  | inl less ↦ ap (λ (z : Kinds). kinds_without z n) (first_kind k kinds n kind less) ∙ rw (yes n.0 n.0 refl) (without_none (k ∷ kinds) n e)
  | inr other ↦ later (kinds_back kinds n kind (rest_none k kinds n e)) (elim other [ inl same ↦ omega arith | inr more ↦ omega arith ])
]
  where
    later : kinds_without (with_kind kinds n kind) n ≡ kinds → k.0.0 ≤ n.0 → kinds_without (with_kind (k ∷ kinds) n kind) n ≡ k ∷ kinds
    later rest at = ap (λ (z : Kinds). kinds_without z n) (next_kind k kinds n kind at)
        ∙ rw (no k.0.0 n.0 (λ q. head_differs k kinds n e (same_node k.0 n q))) (ap (λ (z : Kinds). k ∷ z) rest)

module _ (p : Pure) (further : NodeId) (f : Forgetting p further) where
  abbrev more : Pure
  more = with_node p further Int

  -- the further node goes to node 0
  back : ℕ → ℕ
  back n = if n == further.0 then 0 else n

  stays : (n : NodeId) → n ≢ further → moved back n ≡ n
  unfolding back
  stays n other = same_node (moved back n) n (rw (no n.0 further.0 (λ e. other (same_node n further e))) refl)

  goes : moved back further ≡ null
  unfolding back
  goes = same_node (moved back further) null (rw (yes further.0 further.0 refl) refl)

  null_stays : moved back null ≡ null
  null_stays = stays null (λ e. f.new (Int, inl (sym e)))

  differs : (n : NodeId) → IsNode p.kinds n → n ≢ further
  differs n there e = f.new (subst (IsNode p.kinds) e there)

  none : kind_of p.kinds further ≡ None
  none = kind_none p.kinds further f.new

  kind_still : (n : NodeId) (kind : Kind) → HasKind p.kinds kind n → HasKind more.kinds kind n
  kind_still n kind (inl e) = inl e
  kind_still n kind (inr e) = inr (with_other p.kinds further n Int (λ q. differs n (kind, inr e) (sym q)) ∙ e)

  kind_goes : (n : NodeId) (kind : Kind) → HasKind more.kinds kind n → HasKind p.kinds kind (moved back n)
  kind_goes n kind (inl e) = inl (ap (moved back) e ∙ null_stays)
  kind_goes n kind (inr e) = elim (decide n further) [
    | inl same ↦ inl (ap (moved back) same ∙ goes)
    | inr other ↦ inr (ap (λ (m : NodeId). kind_of p.kinds m) (stays n other) ∙ (sym (with_other p.kinds further n Int (λ q. other (sym q))) ∙ e))
  ]

  node_goes : (n : NodeId) → IsNode more.kinds n → IsNode p.kinds (moved back n)
  node_goes n (kind, h) = (kind, kind_goes n kind h)

  -- an atom of other nodes stays
  atom_stays : (a : Atom) → LeavesOut (Some further) a → moved_atom back a ≡ a
  atom_stays (Eq a b c) l = ap (λ (x : NodeId). Eq x (moved back b) c) (stays a l.0) ∙ ap (λ (y : NodeId). Eq a y c) (stays b l.1)
  atom_stays (Ne a b c) l = ap (λ (x : NodeId). Ne x (moved back b) c) (stays a l.0) ∙ ap (λ (y : NodeId). Ne a y c) (stays b l.1)
  atom_stays (In a lo hi) l = ap (λ (x : NodeId). In x lo hi) (stays a l)

  well_leaves : (a : Atom) → IsWellFormed p.kinds a → LeavesOut (Some further) a
  well_leaves (Eq a b c) w = (differs a (w.0.0, w.0.1), differs b (w.0.0, w.0.2))
  well_leaves (Ne a b c) w = (differs a (w.0.0, w.0.1), differs b (w.0.0, w.0.2))
  well_leaves (In a lo hi) w = differs a w.0

  -- what follows is of other nodes
  follows_leaves : (a : Atom) → Follows p a → LeavesOut (Some further) a
  follows_leaves (Eq a b c) d = let k = f.says p f.form.nf f.form.normal (Eq a b c) d in (differs a k.0, differs b k.1)
  follows_leaves (Ne a b c) d = let k = f.says p f.form.nf f.form.normal (Ne a b c) d in (differs a k.0, differs b k.1)
  follows_leaves (In a lo hi) d = let k = f.says p f.form.nf f.form.normal (In a lo hi) d in differs a k.0

  no_start : (i : ℕ) (a : NodeId) → slice_get p.starts i ≡ Some a → ⊥
  no_start i a e = let none : slice_get {X = NodeId} [] i ≡ Some a = ap (λ (ns : List NodeId). slice_get ns i) (sym f.bare) ∙ e in absurd (cc none)

  base_goes : (a : Atom) → Base more a → Follows p (moved_atom back a)
  base_goes a (begin.written i e) = subst (Follows p) (sym (atom_stays a (well_leaves a (f.fit.written i a e)))) (base (begin.written i e))
  base_goes _ begin.zero = subst (λ (n : NodeId). Follows p (In n (pos 0) (pos 0))) (sym null_stays) (base begin.zero)
  base_goes _ (begin.kind {n} {k} i e) = in_kind p (moved back n) k (kind_goes n k (inr (kind_at 1 more.kinds f.more_rise i n k e).0))
  base_goes _ (begin.block {a} i e) = absurd (no_start i a e)
  base_goes _ (begin.apart {a} i j ne e d) = absurd (no_start i a e)

  base_still : (a : Atom) → Base p a → Follows more a
  base_still a (begin.written i e) = base (begin.written i e)
  base_still _ begin.zero = base begin.zero
  base_still _ (begin.kind {n} {k} i e) = in_kind more n k (kind_still n k (inr (kind_at 1 p.kinds f.rise i n k e).0))
  base_still _ (begin.block {a} i e) = absurd (no_start i a e)
  base_still _ (begin.apart {a} i j ne e d) = absurd (no_start i a e)

  to_less : (a : Atom) → Follows more a → LeavesOut (Some further) a → Follows p a
  to_less a d l = subst (Follows p) (atom_stays a l) (f.follows more p back node_goes base_goes a d)

  to_more : (a : Atom) → Follows p a → Follows more a
  to_more a d = f.grows p more (λ n h. (h.0, kind_still n h.0 h.1)) base_still a d

  still_true : IsFalse more → ⊥
  still_true wrong = f.consistent (f.wrong more p back node_goes base_goes wrong)

  listed_all : (atoms : List Atom) → IsForgotten more further atoms → SaysAll p atoms
  listed_all atoms i =
      let w = whole_list f.says f.grows p f.fit f.consistent f.form f.bare in
      let there = λ (a : Atom) (d : Follows (without_node more further atoms) a). let k = (i.same a).0 d in (w.1.same a).1 (to_less a k.0 k.1) in
      let again = λ (a : Atom) (d : Follows (plainly p w.0) a). let k = (w.1.same a).0 d in (i.same a).1 (to_more a k, follows_leaves a k) in
      let one : atoms ≡ w.0 =
      one_written (without_node more further atoms) (plainly p w.0) (kinds_back p.kinds further Int none) (sym f.bare) there again atoms w.0 i.listed w.1.listed in
      subst (SaysAll p) (sym one) (record {
        well = all_put (IsWellFormed p.kinds) w.0 (λ i a e. w.1.well a (i, e));
        same = w.1.same;
        listed = w.1.listed;
      })

  pub says_all : (atoms : List Atom) → IsForgottenOrFalse more further atoms → SaysAll p atoms
  says_all atoms (inl wrong) = absurd (still_true wrong.0)
  says_all atoms (inr i) = listed_all atoms i.1

-- the further node is there, where it was added
pub further_there : (p : Pure) (further : NodeId) (new : Pure) → (IsNode p.kinds further → ⊥) → new ≡ with_node p further Int → IsNode new.kinds further
further_there p further new absent is =
    (Int, inr (ap (λ (x : Pure). kind_of x.kinds further) is ∙ with_here p.kinds further Int (kind_none p.kinds further absent)))
