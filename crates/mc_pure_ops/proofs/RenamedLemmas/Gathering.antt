-- The images of nodes.
use Rattle.std.proofs.Common.{◌≡◌, ◌≢◌, ℕ, zero, suc, ◌<◌, ◌≤◌, ◌+◌, ◌⊎◌, List, [], ◌∷◌, Option, Some, None, slice_get, get_or, length, map, refl, sym, ◌∙◌, ap, subst, inl, inr, arith}
use Rattle.std.proofs.lemmas.Option.{slice_get_within, slice_get-get_or}
use Rattle.mc_base.specs.declared.ids.NodeId.{NodeId}
use Rattle.mc_base.specs.declared.plain.Kind.{Kind}
use Rattle.mc_base.specs.declared.plain.Kind.TheVariants.{Int}
use Rattle.mc_base.specs.declared.plain.Atom.{Atom}
use Rattle.mc_base.specs.declared.plain.Atom.TheVariants.{Eq, Ne, In}
use Rattle.mc_base.specs.Atoms.{moved_atom}
use Rattle.mc_base.specs.Nodes.{null, moved}
use Rattle.mc_pure.specs.Pure.{Kinds, Pure, IsNode, HasKind, IsWellFormed, kind_of}
use Rattle.mc_pure.specs.Rows.{nodes_of}
use Rattle.mc_pure.specs.Nodes.{with_kind}
use Rattle.mc_pure.specs.Known.{IsFit}
use Rattle.mc_pure_ops.specs.Renamed.Renamed.{AreImageKinds, IsOneKind, IsPut, HasImages, HasFirst, HasNoOther, Gathers, IsBelow}
use Rattle.mc_pure_ops.specs.Renamed.Laws.{ImagesAreOneList, RenamedFits}
use Rattle.mc_pure_ops.proofs.RenamedLemmas.Sorted.{node_place, one_list}
use Rattle.mc_pure.proofs.Changing.{same_node}
use Rattle.mc_pure.proofs.Placing.{no_kind}
use Rattle.mc_pure_ops.proofs.JoinLemmas.Sorted.{decide, not_none, rise_with, some_same, with_here, with_other}

positive : (n : NodeId) → n ≢ null → 1 ≤ n.0
positive n h = at n.0 (λ e. h (same_node n null e))
  where
    at : (a : ℕ) → a ≢ 0 → 1 ≤ a
    at a d = omega arith

not_null : (kinds : Kinds) (n : NodeId) → (IsNode kinds n → ⊥) → n ≢ null
not_null kinds n h e = h (Int, inl e)

-- one node more is done
split : (k i : ℕ) → k < i + 1 → (k < i) ⊎ (k ≡ i)
split k i l = grind arith

one_node : (ns : List NodeId) (i : ℕ) (x y : NodeId) → slice_get ns i ≡ Some x → slice_get ns i ≡ Some y → x ≡ y
one_node ns i x y e f = cc

pub below_more : (ns : List NodeId) (i : ℕ) (d : NodeId) → i < length ns → (n : NodeId) → IsBelow ns (i + 1) n → IsBelow ns i n ⊎ (n ≡ get_or ns i d)
below_more ns i d l n h = elim (split h.0 i h.1) [
  | inl x ↦ inl (h.0, x, h.2)
  | inr x ↦ inr (one_node ns i n (get_or ns i d) (subst (λ (z : ℕ). slice_get ns z ≡ Some n) x h.2) (slice_get-get_or ns i d l))
]

module _ (f : ℕ → ℕ) (kinds : Kinds) where
  -- a node without a kind
  pub gathers_skip : (ns : List NodeId) (i : ℕ) (d : NodeId) (now : Kinds) → i < length ns → kind_of kinds (get_or ns i d) ≡ None → Gathers f kinds (IsBelow ns i) now → Gathers f kinds (IsBelow ns (i + 1)) now
  gathers_skip ns i d now l e g = record {
    rise = g.rise;
    from = g.from;
    done = λ m kind b k x. elim (below_more ns i d l m b) [
      | inl y ↦ g.done m kind y k x
      | inr y ↦ absurd (not_none (sym e ∙ (ap (λ (z : NodeId). kind_of kinds z) (sym y) ∙ k)))
    ];
  }

  module _ (ns : List NodeId) (i : ℕ) (d : NodeId) (l : i < length ns) (kind : Kind) (has : kind_of kinds (get_or ns i d) ≡ Some kind) where
    -- an image has no other kind, where nodes with one image are of one
    pub no_other : IsOneKind f kinds → (old : Pure) → HasFirst f kinds ns i old → HasNoOther old.kinds (moved f (get_or ns i d)) kind
    no_other one old g other e = let h = g.images.from (moved f (get_or ns i d)) other e in one h.1.0 (get_or ns i d) other kind h.1.1 has h.1.2 (λ z. h.0 (sym h.1.2 ∙ z))

    -- an image that is there
    there : (old : Kinds) → HasNoOther old (moved f (get_or ns i d)) kind → Gathers f kinds (IsBelow ns i) old → IsNode old (moved f (get_or ns i d)) → Gathers f kinds (IsBelow ns (i + 1)) old
    there old alike g n = record {
      rise = g.rise;
      from = g.from;
      done = λ m k b e x. elim (below_more ns i d l m b) [
        | inl y ↦ g.done m k y e x
        | inr y ↦ known m k y e x n.1
      ];
    }
      where
        known : (m : NodeId) (k : Kind) → m ≡ get_or ns i d → kind_of kinds m ≡ Some k → moved f m ≢ null → HasKind old n.0 (moved f (get_or ns i d)) → kind_of old (moved f m) ≡ Some k
        known m k y e x (inl z) = absurd (x (ap (λ (w : NodeId). moved f w) y ∙ z))
        known m k y e x (inr z) =
            ap (λ (w : NodeId). kind_of old (moved f w)) y ∙ (z ∙ (ap (λ (w : Kind). Some w) (alike n.0 z) ∙ (sym has ∙ (ap (λ (w : NodeId). kind_of kinds w) (sym y) ∙ e))))

    -- a new image
    new : (old : Kinds) → Gathers f kinds (IsBelow ns i) old → (IsNode old (moved f (get_or ns i d)) → ⊥) → Gathers f kinds (IsBelow ns (i + 1)) (with_kind old (moved f (get_or ns i d)) kind)
    new old g n = record {
      rise = rise_with 1 old to kind g.rise (positive to (not_null old to n)) none;
      from = λ m k e. elim (decide to m) [
        | inl x ↦ (λ z. not_null old to n (x ∙ z), (get_or ns i d, has ∙ sym (kind_is m k x e), x))
        | inr x ↦ g.from m k (sym (with_other old to m kind x) ∙ e)
      ];
      done = λ m k b e x. elim (below_more ns i d l m b) [
        | inl y ↦ kept m k (g.done m k y e x)
        | inr y ↦ at m k y e
      ];
    }
      where
        to : NodeId
        to = moved f (get_or ns i d)

        none : kind_of old to ≡ None
        none = no_kind old to n

        kind_is : (m : NodeId) (k : Kind) → to ≡ m → kind_of (with_kind old to kind) m ≡ Some k → Some k ≡ Some kind
        kind_is m k x e = sym e ∙ (ap (λ (z : NodeId). kind_of (with_kind old to kind) z) (sym x) ∙ with_here old to kind none)

        kept : (m : NodeId) (k : Kind) → kind_of old (moved f m) ≡ Some k → kind_of (with_kind old to kind) (moved f m) ≡ Some k
        kept m k e = with_other old to (moved f m) kind (λ z. not_none (sym none ∙ (ap (λ (w : NodeId). kind_of old w) z ∙ e))) ∙ e

        at : (m : NodeId) (k : Kind) → m ≡ get_or ns i d → kind_of kinds m ≡ Some k → kind_of (with_kind old to kind) (moved f m) ≡ Some k
        at m k y e =
            ap (λ (z : NodeId). kind_of (with_kind old to kind) (moved f z)) y
            ∙ (with_here old to kind none ∙ (sym has ∙ (ap (λ (z : NodeId). kind_of kinds z) (sym y) ∙ e)))

    pub first_more : (old now : Pure) → HasNoOther old.kinds (moved f (get_or ns i d)) kind → HasFirst f kinds ns i old → IsPut old (moved f (get_or ns i d)) kind now → HasFirst f kinds ns (i + 1) now
    first_more old now alike h (inl p) = subst (λ (z : Pure). HasFirst f kinds ns (i + 1) z) (sym p.1) (record { images = there old.kinds alike h.images p.0; written = h.written; starts = h.starts })
    first_more old now alike h (inr p) = subst (λ (z : Pure). HasFirst f kinds ns (i + 1) z) (sym p.1) (record { images = new old.kinds h.images p.0; written = h.written; starts = h.starts })

  pub first_skip : (ns : List NodeId) (i : ℕ) (d : NodeId) (now : Pure) → i < length ns → kind_of kinds (get_or ns i d) ≡ None → HasFirst f kinds ns i now → HasFirst f kinds ns (i + 1) now
  first_skip ns i d now l e h = record { images = gathers_skip ns i d now.kinds l e h.images; written = h.written; starts = h.starts }

  pub first_none : (ns : List NodeId) (now : Pure) → now ≡ record { kinds = []; written = []; starts = [] } → HasFirst f kinds ns 0 now
  first_none ns now e = subst (λ (z : Pure). HasFirst f kinds ns 0 z) (sym e) (record {
    images = record { rise = tt; from = λ n kind x. cc; done = λ m kind b k x. absurd (never b.0 b.1) };
    written = refl;
    starts = refl;
  })
    where
      never : (k : ℕ) → k < 0 → ⊥
      never k l = omega arith

  pub first_all : (ns : List NodeId) (i : ℕ) (now : Pure) → ns ≡ nodes_of kinds → length ns ≤ i → HasFirst f kinds ns i now → HasImages f kinds now
  first_all ns i now e l h = record {
    images = record {
      rise = h.images.rise;
      exact = λ n kind. (h.images.from n kind, λ x. back n kind x.0 x.1.0 x.1.1 x.1.2);
    };
    written = h.written;
    starts = h.starts;
  }
    where
      back : (n : NodeId) (kind : Kind) → n ≢ null → (m : NodeId) → kind_of kinds m ≡ Some kind → moved f m ≡ n → kind_of now.kinds n ≡ Some kind
      back n kind x m k y =
          let p = node_place kinds m kind k in
          let s : slice_get ns p.0 ≡ Some m = subst (λ (z : List NodeId). slice_get z p.0 ≡ Some m) (sym e) p.1 in
          let w = slice_get_within ns p.0 m s in
          subst (λ (z : NodeId). kind_of now.kinds z ≡ Some kind) y (h.images.done m kind (p.0, omega arith, s) k (λ z. x (sym y ∙ z)))

  -- where all images are put in, nodes with one image are of one kind
  pub all_one_kind : (now : Pure) → HasImages f kinds now → IsOneKind f kinds
  all_one_kind now h m n k l e g s d =
      let x : kind_of now.kinds (moved f m) ≡ Some k = (h.images.exact (moved f m) k).1 (d, (m, e, refl)) in
      let y : kind_of now.kinds (moved f m) ≡ Some l = (h.images.exact (moved f m) l).1 (d, (n, g, sym s)) in
      some_same (sym x ∙ y)

  -- what is known of the images may be known
  module _ (images : Kinds) (fixed : f 0 ≡ 0) (are : AreImageKinds f kinds images) where
    has_kind : (kind : Kind) (n : NodeId) → HasKind kinds kind n → HasKind images kind (moved f n)
    has_kind kind n (inl e) = inl (ap (λ (z : NodeId). moved f z) e ∙ same_node (moved f null) null fixed)
    has_kind kind n (inr e) = elim (decide (moved f n) null) [
      | inl x ↦ inl x
      | inr x ↦ inr ((are.exact (moved f n) kind).1 (x, (n, e, refl)))
    ]

    pub node_moved : (n : NodeId) → IsNode kinds n → IsNode images (moved f n)
    node_moved n h = (h.0, has_kind h.0 n h.1)

    pub atom_moved : (g : Atom) → IsWellFormed kinds g → IsWellFormed images (moved_atom f g)
    atom_moved (Eq a b c) h = ((h.0.0, has_kind h.0.0 a h.0.1, has_kind h.0.0 b h.0.2), h.1)
    atom_moved (Ne a b c) h = ((h.0.0, has_kind h.0.0 a h.0.1, has_kind h.0.0 b h.0.2), h.1)
    atom_moved (In a lo hi) h = (node_moved a h.0, h.1, h.2)

-- what stands in a mapped list
from_map : {X Y : Type 0} (g : X → Y) (xs : List X) (i : ℕ) (y : Y) → slice_get (map g xs) i ≡ Some y → (x : X) × (slice_get xs i ≡ Some x) × (y ≡ g x)
from_map g [] i y e = cc
from_map g (x ∷ xs) zero y e = (x, refl, cc)
from_map g (x ∷ xs) (suc i) y e = from_map g xs i y e

pub renamed_fits : RenamedFits
renamed_fits f images p fixed one are fit = record {
  written = λ i g e. (let h = from_map (moved_atom f) p.written i g e in subst (λ (z : Atom). IsWellFormed images z) (sym h.2) (atom_moved f p.kinds images fixed are h.0 (fit.written i h.0 h.1)));
  starts = λ i a e. (let h = from_map (moved f) p.starts i a e in subst (λ (z : NodeId). IsNode images z) (sym h.2) (node_moved f p.kinds images fixed are h.0 (fit.starts i h.0 h.1)));
}

pub images_are_one_list : ImagesAreOneList
images_are_one_list f kinds one other a b = one_list 1 one other a.rise b.rise same
  where
    turn : (x y : Option Kind) → ((k : Kind) → x ≡ Some k → y ≡ Some k) → ((k : Kind) → y ≡ Some k → x ≡ Some k) → x ≡ y
    turn None None p q = refl
    turn None (Some k) p q = q k refl
    turn (Some k) y p q = sym (p k refl)

    same : (n : NodeId) → kind_of one n ≡ kind_of other n
    same n = turn (kind_of one n) (kind_of other n) (λ k e. (b.exact n k).1 ((a.exact n k).0 e)) (λ k e. (a.exact n k).1 ((b.exact n k).0 e))

-- what stands in a list that is looked at
pub written_at : (p : Pure) → IsFit p → (xs : List Atom) (i : ℕ) (d : Atom) → xs ≡ p.written → i < length xs → IsWellFormed p.kinds (get_or xs i d)
written_at p fit xs i d e l = fit.written i (get_or xs i d) (subst (λ (z : List Atom). slice_get z i ≡ Some (get_or xs i d)) e (slice_get-get_or xs i d l))

pub start_at : (p : Pure) → IsFit p → (xs : List NodeId) (i : ℕ) (d : NodeId) → xs ≡ p.starts → i < length xs → IsNode p.kinds (get_or xs i d)
start_at p fit xs i d e l = fit.starts i (get_or xs i d) (subst (λ (z : List NodeId). slice_get z i ≡ Some (get_or xs i d)) e (slice_get-get_or xs i d l))

pub images_of : (f : ℕ → ℕ) (kinds images others : Kinds) → images ≡ others → AreImageKinds f kinds others → AreImageKinds f kinds images
images_of f kinds images others e h = subst (λ (z : Kinds). AreImageKinds f kinds z) (sym e) h
