-- The atoms of a join do not depend on the order of the nodes at which blocks start.
use Rattle.std.proofs.Common.{◌≡◌, ℕ, ℤ, List, ap, subst, ◌∙◌}
use Rattle.mc_base.specs.declared.ids.NodeId.{NodeId}
use Rattle.mc_base.specs.declared.plain.Atom.{Atom}
use Rattle.mc_base.specs.declared.plain.Atom.TheVariants.{Eq, Ne, In}
use Rattle.mc_pure.specs.Laws.{FollowsFromMore, FalseFromMore}
use Rattle.mc_pure.specs.Pure.{Pure, Kinds}
use Rattle.mc_pure_ops.specs.Join.Joint.{Pairs, IsJoin, IsOfBoth, sides}
use Rattle.mc_symbolic.specs.Starts.{HaveSameNodes}
use Rattle.mc_symbolic.proofs.Canonical.{canonical_same}
use Rattle.mc_symbolic.proofs.Starts.{turned, follows_to, range_same}

module _ (more : FollowsFromMore) (false_more : FalseFromMore) (kinds other_kinds : Kinds) (atoms other_atoms : List Atom) (xs ys vs ws : List NodeId) (same : HaveSameNodes xs ys) (other_same : HaveSameNodes vs ws)
    (pairs : Pairs) (round : ℕ) (thresholds : List ℤ) where
  abbrev known : List NodeId → Pure
  known starts = record { kinds = kinds; written = atoms; starts = starts }

  abbrev other : List NodeId → Pure
  other starts = record { kinds = other_kinds; written = other_atoms; starts = starts }

  to_both : (left_list right_list : List Atom) (ks : Kinds) (f : Atom) → IsOfBoth (sides (known xs) (other vs) pairs left_list right_list round thresholds) ks f
      → IsOfBoth (sides (known ys) (other ws) pairs left_list right_list round thresholds) ks f
  to_both left_list right_list ks (Eq a b c) o = (
    o.0,
    o.1,
    o.2,
    o.3,
    o.4,
    o.5,
    follows_to more false_more kinds atoms xs ys same (Eq o.0 o.2 c) o.6,
    follows_to more false_more other_kinds other_atoms vs ws other_same (Eq o.1 o.3 c) o.7,
  )
  to_both left_list right_list ks (Ne a b c) o = (
    o.0,
    o.1,
    o.2,
    o.3,
    o.4,
    o.5,
    follows_to more false_more kinds atoms xs ys same (Ne o.0 o.2 c) o.6,
    follows_to more false_more other_kinds other_atoms vs ws other_same (Ne o.1 o.3 c) o.7,
    o.8,
  )
  to_both left_list right_list ks (In n lo hi) o = (
    o.0,
    o.1,
    o.2,
    o.3,
    o.4,
    o.5,
    o.6,
    o.7,
    o.8,
    range_same more false_more kinds atoms xs ys same o.2 o.5 o.6 o.9,
    range_same more false_more other_kinds other_atoms vs ws other_same o.3 o.7 o.8 o.10,
    o.11,
  )

module _ (more : FollowsFromMore) (false_more : FalseFromMore) (kinds other_kinds : Kinds) (atoms other_atoms : List Atom) (xs ys vs ws : List NodeId) (same : HaveSameNodes xs ys) (other_same : HaveSameNodes vs ws)
    (pairs : Pairs) (round : ℕ) (thresholds : List ℤ) where
  abbrev before : Pure
  before = record { kinds = kinds; written = atoms; starts = xs }

  abbrev other_before : Pure
  other_before = record { kinds = other_kinds; written = other_atoms; starts = vs }

  abbrev after : Pure
  after = record { kinds = kinds; written = atoms; starts = ys }

  abbrev other_after : Pure
  other_after = record { kinds = other_kinds; written = other_atoms; starts = ws }

  join_after : (joint : Pure) → IsJoin before other_before pairs round thresholds joint → IsJoin after other_after pairs round thresholds joint
  join_after joint j = record {
    left_list = j.left_list;
    right_list = j.right_list;
    left_canonical = canonical_same more false_more kinds atoms xs ys same j.left_list j.left_canonical;
    right_canonical = canonical_same more false_more other_kinds other_atoms vs ws other_same j.right_list j.right_canonical;
    kinds = record { rise = j.kinds.rise; exact = j.kinds.exact };
    starts = j.starts;
    sound = λ f among.
        let is = j.sound f among in
        (is.0, to_both more false_more kinds other_kinds atoms other_atoms xs ys vs ws same other_same pairs round thresholds j.left_list j.right_list joint.kinds f is.1);
    complete = λ f is. j.complete f (
      is.0,
      to_both more false_more kinds other_kinds atoms other_atoms ys xs ws vs (turned xs ys same) (turned vs ws other_same) pairs round thresholds j.left_list j.right_list joint.kinds f is.1,
    );
  }

-- what is known as it is kept, and as it is meant
pub record IsKeptAs (kept meant : Pure) : Type 0 where
  pub kinds : kept.kinds ≡ meant.kinds
  pub atoms : kept.written ≡ meant.written
  pub starts : HaveSameNodes kept.starts meant.starts

abbrev as_meant : Pure → Pure → Pure
as_meant kept meant = record { kinds = meant.kinds; written = meant.written; starts = kept.starts }

is_as : (kept meant : Pure) → IsKeptAs kept meant → kept ≡ as_meant kept meant
is_as kept meant k =
    ap (λ (ks : Kinds). record kept { kinds = ks }) k.kinds ∙ ap (λ (fs : List Atom). record { kinds = meant.kinds; written = fs; starts = kept.starts }) k.atoms

pub join_meant : FollowsFromMore → FalseFromMore → (left left_meant right right_meant : Pure) → IsKeptAs left left_meant → IsKeptAs right right_meant → (pairs : Pairs) (round : ℕ) (thresholds : List ℤ) (joint : Pure)
    → IsJoin left right pairs round thresholds joint → IsJoin left_meant right_meant pairs round thresholds joint
join_meant more false_more left left_meant right right_meant l r pairs round thresholds joint j =
    join_after more false_more left_meant.kinds right_meant.kinds left_meant.written right_meant.written left.starts left_meant.starts right.starts right_meant.starts l.starts r.starts pairs round thresholds joint
    (subst (λ (x : Pure). IsJoin x (as_meant right right_meant) pairs round thresholds joint) (is_as left left_meant l)
    (subst (λ (y : Pure). IsJoin left y pairs round thresholds joint) (is_as right right_meant r) j))
