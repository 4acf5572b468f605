-- One node in place of another.
use Rattle.std.proofs.Common.{◌≡◌, ◌≢◌, ◌↔◌, ◌==◌, ℕ, List, [], ◌∷◌, Option, Some, None, Bool, true, false, map, if◌then◌else◌, refl, sym, ◌∙◌, ap, subst, inl, inr}
use Rattle.mc_base.specs.declared.ids.NodeId.{NodeId}
use Rattle.mc_base.specs.declared.plain.Kind.{Kind}
use Rattle.mc_base.specs.declared.plain.Atom.{Atom}
use Rattle.mc_base.specs.declared.plain.Atom.TheVariants.{Eq, Ne, In}
use Rattle.mc_base.specs.Atoms.{moved_atom}
use Rattle.mc_base.specs.Nodes.{null, moved}
use Rattle.mc_pure.specs.Pure.{Kinds, Pure, HasKind, AreOfOneKind, kind_of}
use Rattle.mc_pure.specs.Nodes.{RiseFrom}
use Rattle.mc_pure.specs.Whole.{kinds_without}
use Rattle.mc_pure_ops.specs.Renaming.Images.{Images, image, image_of, image_or, IsWith, HasOther}
use Rattle.mc_pure_ops.specs.Renamed.Renamed.{AreImageKinds, IsOneKind, IsImage, IsRenamed, instead, merged}
use Rattle.mc_pure_ops.proofs.RenamedLemmas.Sorted.{rise_without, without_here, without_other}
use Rattle.mc_pure_ops.proofs.RenamedLemmas.Gathering.{images_are_one_list}
use Rattle.mc_pure.proofs.Changing.{number, same_false, same_true}
use Rattle.mc_pure_ops.proofs.JoinLemmas.Sorted.{decide, not_none, null_none, some_same}

-- the renaming of one node
pub with_one : (old new : Images) (keep gone : NodeId) (added : Bool) → old ≡ [] → (added ≡ true → IsWith old gone keep new) → (added ≡ false) ↔ HasOther old gone keep → IsWith [] gone keep new
with_one old new keep gone true e w h = subst (λ (z : Images). IsWith z gone keep new) e (w refl)
with_one old new keep gone false e w h = absurd (none old (h.0 refl) e)
  where
    none : (z : Images) → HasOther z gone keep → z ≡ [] → ⊥
    none z x y =
        let s : None ≡ Some x.0 = ap (λ (w : Images). image_of w gone) (sym y) ∙ x.1 in
        cc

pub image_gone : (new : Images) (keep gone : NodeId) → IsWith [] gone keep new → (n : NodeId) → n ≡ gone → moved (image new) n ≡ keep
image_gone new keep gone w n e = ap (λ (z : Option NodeId). image_or z n) (w n ∙ here)
  where
    here : (if n.0 == gone.0 then Some keep else image_of [] n) ≡ Some keep
    here = rw (same_true n gone e) refl

pub image_other : (new : Images) (keep gone : NodeId) → IsWith [] gone keep new → (n : NodeId) → n ≢ gone → moved (image new) n ≡ n
image_other new keep gone w n e = ap (λ (z : Option NodeId). image_or z n) (w n ∙ there)
  where
    there : (if n.0 == gone.0 then Some keep else image_of [] n) ≡ None
    there = rw (same_false n gone e) refl

moved_gone : (keep gone n : NodeId) → n ≡ gone → moved (instead keep.0 gone.0) n ≡ keep
moved_gone keep gone n e = rw (same_true n gone e) refl

moved_other : (keep gone n : NodeId) → n ≢ gone → moved (instead keep.0 gone.0) n ≡ n
moved_other keep gone n e = rw (same_false n gone e) refl

pub same_images : (new : Images) (keep gone : NodeId) → IsWith [] gone keep new → (n : NodeId) → moved (image new) n ≡ moved (instead keep.0 gone.0) n
same_images new keep gone w n = elim (decide n gone) [
  | inl e ↦ image_gone new keep gone w n e ∙ sym (moved_gone keep gone n e)
  | inr e ↦ image_other new keep gone w n e ∙ sym (moved_other keep gone n e)
]

pub null_stays : (new : Images) (keep gone : NodeId) → IsWith [] gone keep new → gone ≢ null → image new 0 ≡ 0
null_stays new keep gone w h = number (image_other new keep gone w null (λ e. h (sym e)))

-- two renamings that are one
module _ (f g : ℕ → ℕ) (same : (n : NodeId) → moved f n ≡ moved g n) where
  same_atom : (a : Atom) → moved_atom f a ≡ moved_atom g a
  same_atom (Eq a b c) = rw (same a, same b) refl
  same_atom (Ne a b c) = rw (same a, same b) refl
  same_atom (In a lo hi) = rw (same a) refl

  same_atoms : (xs : List Atom) → map (moved_atom f) xs ≡ map (moved_atom g) xs
  same_atoms [] = refl
  same_atoms (x ∷ xs) = cc (same_atom x, same_atoms xs)

  same_nodes : (xs : List NodeId) → map (moved f) xs ≡ map (moved g) xs
  same_nodes [] = refl
  same_nodes (x ∷ xs) = cc (same x, same_nodes xs)

  same_kinds : (kinds images : Kinds) → AreImageKinds f kinds images → AreImageKinds g kinds images
  same_kinds kinds images h = record {
    rise = h.rise;
    exact = λ n kind. (
      (λ e. (let x = (h.exact n kind).0 e in (x.0, (x.1.0, x.1.1, sym (same x.1.0) ∙ x.1.2)))),
      (λ x. (h.exact n kind).1 (x.0, (x.1.0, x.1.1, same x.1.0 ∙ x.1.2))),
    );
  }

-- where two nodes of one kind are merged
module _ (kinds : Kinds) (keep gone : NodeId) (differ : keep ≢ gone) (not_null : gone ≢ null) (one : AreOfOneKind kinds keep gone) where
  gone_kind : kind_of kinds gone ≡ Some one.0
  gone_kind = at one.2
    where
      at : HasKind kinds one.0 gone → kind_of kinds gone ≡ Some one.0
      at (inl e) = absurd (not_null e)
      at (inr e) = e

  keep_kind : keep ≢ null → kind_of kinds keep ≡ Some one.0
  keep_kind d = at one.1
    where
      at : HasKind kinds one.0 keep → kind_of kinds keep ≡ Some one.0
      at (inl e) = absurd (d e)
      at (inr e) = e

  kinds_of_one : (n : NodeId) (k l : Kind) → kind_of kinds n ≡ Some k → kind_of kinds n ≡ Some l → k ≡ l
  kinds_of_one n k l e f = some_same (sym e ∙ f)

  -- the kind of what goes, where its image is the kept node
  at_keep : (k : Kind) (m n : NodeId) → m ≡ gone → n ≡ keep → keep ≢ null → kind_of kinds m ≡ Some k → kind_of kinds n ≡ Some k
  at_keep k m n e f d h =
      let s : k ≡ one.0 = kinds_of_one gone k one.0 (subst (λ (z : NodeId). kind_of kinds z ≡ Some k) e h) gone_kind in
      ap (λ (z : NodeId). kind_of kinds z) f ∙ (keep_kind d ∙ ap (λ (z : Kind). Some z) (sym s))

  module _ (f : ℕ → ℕ) (moves : (n : NodeId) → n ≡ gone → moved f n ≡ keep) (stays : (n : NodeId) → n ≢ gone → moved f n ≡ n) where
    pub one_kind : IsOneKind f kinds
    one_kind m n k l e g s d = elim (decide m gone) [
      | inl x ↦ elim (decide n gone) [
        | inl y ↦ kinds_of_one m k l e (subst (λ (z : NodeId). kind_of kinds z ≡ Some l) (y ∙ sym x) g)
        | inr y ↦ kinds_of_one n k l (at_keep k m n x (sym (stays n y) ∙ (sym s ∙ moves m x)) (λ z. d (moves m x ∙ z)) e) g
      ]
      | inr x ↦ elim (decide n gone) [
        | inl y ↦ kinds_of_one m k l e (at_keep l n m y (sym (stays m x) ∙ (s ∙ moves n y)) (λ z. d (s ∙ (moves n y ∙ z))) g)
        | inr y ↦ kinds_of_one m k l e (subst (λ (z : NodeId). kind_of kinds z ≡ Some l) (sym (stays n y) ∙ (sym s ∙ stays m x)) g)
      ]
    ]

    pub merged_kinds : RiseFrom 1 kinds → AreImageKinds f kinds (kinds_without kinds gone)
    merged_kinds r = record {
      rise = rise_without 1 kinds gone r;
      exact = λ n kind. (there n kind, λ x. back n kind x.0 x.1.0 x.1.1 x.1.2);
    }
      where
        there : (n : NodeId) (kind : Kind) → kind_of (kinds_without kinds gone) n ≡ Some kind → (n ≢ null) × IsImage f kinds n kind
        there n kind e = elim (decide n gone) [
          | inl x ↦ absurd (not_none (sym (ap (λ (z : NodeId). kind_of (kinds_without kinds gone) z) x ∙ without_here kinds gone) ∙ e))
          | inr x ↦ (
              let k : kind_of kinds n ≡ Some kind = sym (without_other kinds gone n (λ z. x (sym z))) ∙ e in
              (λ z. not_none (sym (null_none kinds r) ∙ (ap (λ (w : NodeId). kind_of kinds w) (sym z) ∙ k)), (n, k, stays n x))
              )
        ]

        back : (n : NodeId) (kind : Kind) → n ≢ null → (m : NodeId) → kind_of kinds m ≡ Some kind → moved f m ≡ n → kind_of (kinds_without kinds gone) n ≡ Some kind
        back n kind d m e s = elim (decide m gone) [
          | inl x ↦ (
              let y : n ≡ keep = sym s ∙ moves m x in
              without_other kinds gone n (λ z. differ (sym y ∙ sym z)) ∙ at_keep kind m n x y (λ z. d (y ∙ z)) e
              )
          | inr x ↦ (
              let y : m ≡ n = sym (stays m x) ∙ s in
              without_other kinds gone n (λ z. x (y ∙ sym z)) ∙ subst (λ (z : NodeId). kind_of kinds z ≡ Some kind) y e
              )
        ]

pub merge_one_kind : (new : Images) (kinds : Kinds) (keep gone : NodeId) → IsWith [] gone keep new → keep ≢ gone → gone ≢ null → AreOfOneKind kinds keep gone → IsOneKind (image new) kinds
merge_one_kind new kinds keep gone w d n one = one_kind kinds keep gone d n one (image new) (image_gone new keep gone w) (image_other new keep gone w)

pub all_merged : (new : Images) (p q : Pure) (keep gone : NodeId) → IsWith [] gone keep new → keep ≢ gone → gone ≢ null → AreOfOneKind p.kinds keep gone → RiseFrom 1 p.kinds → IsRenamed (image new) p q → q ≡ merged keep gone p
all_merged new p q keep gone w d n one r h =
    h.2 ∙ together h.0 (kinds_without p.kinds gone) (map (moved_atom (image new)) p.written) (map (moved_atom (instead keep.0 gone.0)) p.written)
    (map (moved (image new)) p.starts) (map (moved (instead keep.0 gone.0)) p.starts)
    (images_are_one_list (image new) p.kinds h.0 (kinds_without p.kinds gone) h.1 (merged_kinds p.kinds keep gone d n one (image new) (image_gone new keep gone w) (image_other new keep gone w) r))
    (same_atoms (image new) (instead keep.0 gone.0) (same_images new keep gone w) p.written)
    (same_nodes (image new) (instead keep.0 gone.0) (same_images new keep gone w) p.starts)
  where
    together : (k l : Kinds) (a b : List Atom) (x y : List NodeId) → k ≡ l → a ≡ b → x ≡ y
        → (let p : Pure = record { kinds = k; written = a; starts = x } in let q : Pure = record { kinds = l; written = b; starts = y } in p ≡ q)
    together k l a b x y e f g = rw (e, f, g) refl
