-- One image more, and what loops have gathered.
use Rattle.std.proofs.Common.{◌≡◌, ◌≢◌, ◌↔◌, ◌==◌, ℕ, zero, suc, ◌<◌, ◌≤◌, ◌+◌, ◌⊎◌, List, [], ◌∷◌, Option, Some, None, Bool, true, false, slice_get, get_or, length, if◌then◌else◌, refl, sym, ◌∙◌, ap, subst, inl, inr, arith}
use Rattle.std.proofs.lemmas.Option.{slice_get_within, slice_get-get_or}
use Rattle.std.specs.List.{insert}
use Rattle.mc_base.specs.declared.ids.NodeId.{NodeId}
use Rattle.mc_pure_ops.specs.Renaming.Images.{Images, image_of, image_after, RiseFrom, IsPlace, HasOther, IsWith, IsComposed, IsRestricted, IsInjective, IsInverse}
use Rattle.mc_pure_ops.proofs.RenamingLemmas.Looking.{Pair, decide, here_image, later_image, image_there, place_of_image}
use Rattle.mc_pure.proofs.Changing.{number, same_false, same_node, same_true}

-- with an image more
pub with_here : (old : Images) (from to n : NodeId) → n ≡ from → (if n.0 == from.0 then Some to else image_of old n) ≡ Some to
with_here old from to n e = rw (same_true n from e) refl

pub with_other : (old : Images) (from to n : NodeId) → n ≢ from → (if n.0 == from.0 then Some to else image_of old n) ≡ image_of old n
with_other old from to n e = rw (same_false n from e) refl

inserted_image : (ps : Images) (j : ℕ) (from to n : NodeId) → j ≤ length ps → image_of ps from ≡ None → (n ≡ from) ⊎ (n ≢ from) → image_of (insert ps j (from, to)) n ≡ (if n.0 == from.0 then Some to else image_of ps n)
inserted_image [] zero from to n l a (inl e) = here_image (from, to) [] n (sym e) ∙ sym (with_here [] from to n e)
inserted_image [] zero from to n l a (inr e) = later_image (from, to) [] n (λ x. e (sym x)) ∙ sym (with_other [] from to n e)
inserted_image [] (suc j) from to n l a d = absurd (omega arith)
inserted_image (p ∷ ps) zero from to n l a (inl e) = here_image (from, to) (p ∷ ps) n (sym e) ∙ sym (with_here (p ∷ ps) from to n e)
inserted_image (p ∷ ps) zero from to n l a (inr e) = later_image (from, to) (p ∷ ps) n (λ x. e (sym x)) ∙ sym (with_other (p ∷ ps) from to n e)
inserted_image (p ∷ ps) (suc j) from to n l a d = elim (decide p.0 n) [
  | inl x ↦
      let ne : n ≢ from = λ e. none_here p ps from (x ∙ e) a in
      here_image p (insert ps j (from, to)) n x ∙ (sym (here_image p ps n x) ∙ sym (with_other (p ∷ ps) from to n ne))
  | inr x ↦ later_image p (insert ps j (from, to)) n x ∙ (inserted_image ps j from to n (omega arith) (rest p ps from a) d ∙ along p ps from to n x)
]
  where
    none_here : (p : Pair) (ps : Images) (from : NodeId) → p.0 ≡ from → image_of (p ∷ ps) from ≡ None → ⊥
    none_here p ps from e a = let h : Some p.1 ≡ None = sym (here_image p ps from e) ∙ a in cc

    rest : (p : Pair) (ps : Images) (from : NodeId) → image_of (p ∷ ps) from ≡ None → image_of ps from ≡ None
    rest p ps from a = sym (later_image p ps from (λ e. none_here p ps from e a)) ∙ a

    along : (p : Pair) (ps : Images) (from to n : NodeId) → p.0 ≢ n → (if n.0 == from.0 then Some to else image_of ps n) ≡ (if n.0 == from.0 then Some to else image_of (p ∷ ps) n)
    along p ps from to n x = ap (λ (z : Option NodeId). if n.0 == from.0 then Some to else z) (sym (later_image p ps n x))

pub inserted_with : (ps : Images) (j : ℕ) (from to : NodeId) → j ≤ length ps → image_of ps from ≡ None → IsWith ps from to (insert ps j (from, to))
inserted_with ps j from to l a n = inserted_image ps j from to n l a (decide n from)

pub inserted_rise : (low : ℕ) (ps : Images) (j : ℕ) (from to : NodeId) → RiseFrom low ps → low ≤ from.0 → j ≤ length ps → IsPlace ps from j → image_of ps from ≡ None → RiseFrom low (insert ps j (from, to))
inserted_rise low [] zero from to r w l p a = (w, tt)
inserted_rise low [] (suc j) from to r w l p a = absurd (omega arith)
inserted_rise low (q ∷ ps) zero from to r w l p a =
    let x = p.1 0 q (omega arith) refl in
    (w, (above q.0.0 from.0 x (λ e. absent q ps from (same_node q.0 from e) a), r.1))
  where
    above : (a b : ℕ) → b ≤ a → a ≢ b → suc b ≤ a
    above a b l n = omega arith

    absent : (q : Pair) (ps : Images) (from : NodeId) → q.0 ≡ from → image_of (q ∷ ps) from ≡ None → ⊥
    absent q ps from e a = let h : Some q.1 ≡ None = sym (here_image q ps from e) ∙ a in cc
inserted_rise low (q ∷ ps) (suc j) from to r w l p a =
    let x : q.0.0 < from.0 = p.0 0 q (omega arith) refl in
    let ne : q.0 ≢ from = λ e. let y = number e in omega arith in
    (r.0, inserted_rise (suc q.0.0) ps j from to r.1 (omega arith) (omega arith) ((λ i y m e. p.0 (suc i) y (omega arith) e), (λ i y m e. p.1 (suc i) y (omega arith) e)) (sym (later_image q ps from ne) ∙ a))

-- a node that has the image already
pub with_itself : (ps : Images) (from to : NodeId) → image_of ps from ≡ Some to → IsWith ps from to ps
with_itself ps from to e n = elim (decide n from) [
  | inl x ↦ ap (λ (z : NodeId). image_of ps z) x ∙ (e ∙ sym (with_here ps from to n x))
  | inr x ↦ sym (with_other ps from to n x)
]

pub no_other : (ps : Images) (from to other : NodeId) → image_of ps from ≡ Some other → other ≡ to → HasOther ps from to → ⊥
no_other ps from to other e s h =
    let x : Some other ≡ Some h.0 = sym e ∙ h.1 in
    let y : other ≡ h.0 = cc in
    h.2 (sym y ∙ s)

pub none_other : (ps : Images) (from to : NodeId) → image_of ps from ≡ None → HasOther ps from to → ⊥
none_other ps from to e h = let x : None ≡ Some h.0 = sym e ∙ h.1 in cc

-- what an answer of `add` says
pub record IsAdded (old : Images) (from to : NodeId) (new : Images) (added : Bool) : Type 0 where
  pub yes : added ≡ true → IsWith old from to new
  pub no : added ≡ false → new ≡ old
  pub other : (added ≡ false) ↔ HasOther old from to

-- what has been gathered of the images F: those of the nodes that are done, and no others
pub record Gathers (F : NodeId → Option NodeId) (Done : NodeId → Type 0) (now : Images) : Type 0 where
  pub from : (n to : NodeId) → image_of now n ≡ Some to → (F n ≡ Some to) × Done n
  pub done : (n : NodeId) → Done n → image_of now n ≡ F n

-- one more node is done
pub record Grows (Old New : NodeId → Type 0) (k : NodeId) : Type 0 where
  pub kept : (n : NodeId) → Old n → New n
  pub more : New k
  pub only : (n : NodeId) → New n → Old n ⊎ (n ≡ k)

pub gathers_none : (F : NodeId → Option NodeId) (Done : NodeId → Type 0) → ((n : NodeId) → Done n → ⊥) → Gathers F Done []
gathers_none F Done h = record { from = λ n to e. cc; done = λ n d. absurd (h n d) }

pub none_of : (o : Option NodeId) → ((to : NodeId) → o ≡ Some to → ⊥) → o ≡ None
none_of None h = refl
none_of (Some to) h = absurd (h to refl)

pub gathers_skip : (F : NodeId → Option NodeId) (Old New : NodeId → Type 0) (k : NodeId) (now : Images) → Grows Old New k → F k ≡ None → Gathers F Old now → Gathers F New now
gathers_skip F Old New k now w e g = record {
  from = λ n to i. (let h = g.from n to i in (h.0, w.kept n h.1));
  done = λ n d. elim (w.only n d) [
    | inl x ↦ g.done n x
    | inr x ↦ subst (λ (z : NodeId). image_of now z ≡ F z) (sym x) (none_of (image_of now k) (λ to i. clash to (g.from k to i).0) ∙ sym e)
  ];
}
  where
    clash : (to : NodeId) → F k ≡ Some to → ⊥
    clash to i = let h : None ≡ Some to = sym e ∙ i in cc

pub gathers_add : (F : NodeId → Option NodeId) (Old New : NodeId → Type 0) (k to : NodeId) (old new : Images) (added : Bool) → Grows Old New k → F k ≡ Some to → IsAdded old k to new added → Gathers F Old old → Gathers F New new
gathers_add F Old New k to old new false w e a g = absurd (h.2 same)
  where
    h : HasOther old k to
    h = a.other.0 refl

    same : h.0 ≡ to
    same = let i : Some h.0 ≡ Some to = sym (g.from k h.0 h.1).0 ∙ e in cc
gathers_add F Old New k to old new true w e a g = record {
  from = λ n m i. elim (decide n k) [
    | inl x ↦ (subst (λ (z : NodeId). F z ≡ Some m) (sym x) (e ∙ (sym (here n x) ∙ i)), subst New (sym x) w.more)
    | inr x ↦ (let h = g.from n m (sym (other n x) ∙ i) in (h.0, w.kept n h.1))
  ];
  done = λ n d. elim (decide n k) [
    | inl x ↦ here n x ∙ subst (λ (z : NodeId). Some to ≡ F z) (sym x) (sym e)
    | inr x ↦ elim (w.only n d) [ inl y ↦ other n x ∙ g.done n y | inr y ↦ absurd (x y) ]
  ];
}
  where
    here : (n : NodeId) → n ≡ k → image_of new n ≡ Some to
    here n x = a.yes refl n ∙ with_here old k to n x

    other : (n : NodeId) → n ≢ k → image_of new n ≡ image_of old n
    other n x = a.yes refl n ∙ with_other old k to n x

-- the nodes that have images among the first pairs
abbrev pub KeysBelow : Images → ℕ → NodeId → Type 0
KeysBelow ps i n = (k : ℕ) × (p : Pair) × (k < i) × (slice_get ps k ≡ Some p) × (n ≡ p.0)

split : (k i : ℕ) → k < i + 1 → (k < i) ⊎ (k ≡ i)
split k i l = grind arith

less_more : (k i : ℕ) → k < i → k < i + 1
less_more k i l = omega arith

at_more : (i : ℕ) → i < i + 1
at_more i = omega arith

one_pair : (ps : Images) (i : ℕ) (x y : Pair) → slice_get ps i ≡ Some x → slice_get ps i ≡ Some y → x ≡ y
one_pair ps i x y e f = cc

pub keys_grow : (ps : Images) (i : ℕ) (d : Pair) → i < length ps → Grows (KeysBelow ps i) (KeysBelow ps (i + 1)) (get_or ps i d).0
keys_grow ps i d l = record {
  kept = λ n h. (h.0, h.1, less_more h.0 i h.2, h.3, h.4);
  more = (i, get_or ps i d, at_more i, slice_get-get_or ps i d l, refl);
  only = λ n h. elim (split h.0 i h.2) [
    | inl x ↦ inl (h.0, h.1, x, h.3, h.4)
    | inr x ↦ inr (h.4 ∙ ap (λ (z : Pair). z.0) (one_pair ps i h.1 (get_or ps i d) (subst (λ (z : ℕ). slice_get ps z ≡ Some h.1) x h.3) (slice_get-get_or ps i d l)))
  ];
}

abbrev pub NodesBelow : List NodeId → ℕ → NodeId → Type 0
NodesBelow ns i n = (k : ℕ) × (k < i) × (slice_get ns k ≡ Some n)

one_node : (ns : List NodeId) (i : ℕ) (x y : NodeId) → slice_get ns i ≡ Some x → slice_get ns i ≡ Some y → x ≡ y
one_node ns i x y e f = cc

pub nodes_grow : (ns : List NodeId) (i : ℕ) (d : NodeId) → i < length ns → Grows (NodesBelow ns i) (NodesBelow ns (i + 1)) (get_or ns i d)
nodes_grow ns i d l = record {
  kept = λ n h. (h.0, less_more h.0 i h.1, h.2);
  more = (i, at_more i, slice_get-get_or ns i d l);
  only = λ n h. elim (split h.0 i h.1) [
    | inl x ↦ inl (h.0, x, h.2)
    | inr x ↦ inr (one_node ns i n (get_or ns i d) (subst (λ (z : ℕ). slice_get ns z ≡ Some n) x h.2) (slice_get-get_or ns i d l))
  ];
}

no_below : (k : ℕ) → k < 0 → ⊥
no_below k l = omega arith

pub keys_none : (ps : Images) (n : NodeId) → KeysBelow ps 0 n → ⊥
keys_none ps n h = no_below h.0 h.2

pub nodes_none : (ns : List NodeId) (n : NodeId) → NodesBelow ns 0 n → ⊥
nodes_none ns n h = no_below h.0 h.1

-- the image of what stands at a place
pub image_at_place : (ps : Images) (i : ℕ) (d : Pair) → RiseFrom 0 ps → i < length ps → image_of ps (get_or ps i d).0 ≡ Some (get_or ps i d).1
image_at_place ps i d r l = (image_there 0 ps r i (get_or ps i d).0 (get_or ps i d).1 (slice_get-get_or ps i d l)).0

-- two renamings, one after the other
abbrev pub both_images : (first after : Images) → NodeId → Option NodeId
both_images first after n = image_after after (image_of first n)

pub all_composed : (first after both : Images) (i : ℕ) → length first ≤ i → Gathers (both_images first after) (KeysBelow first i) both → IsComposed first after both
all_composed first after both i l g n = cases (image_of first n) refl
  where
    clash : (o : Option NodeId) (to : NodeId) → o ≡ None → image_after after o ≡ Some to → ⊥
    clash o to e h = let k : None ≡ Some to = sym (ap (λ (z : Option NodeId). image_after after z) e) ∙ h in cc

    inside : (to : NodeId) (k : ℕ) → slice_get first k ≡ Some (n, to) → k < i
    inside to k e = let w = slice_get_within first k (n, to) e in omega arith

    cases : (o : Option NodeId) → image_of first n ≡ o → image_of both n ≡ image_after after (image_of first n)
    cases None e = none_of (image_of both n) (λ to h. clash (image_of first n) to e (g.from n to h).0) ∙ sym (ap (λ (z : Option NodeId). image_after after z) e)
    cases (Some to) e = let p = place_of_image first n to e in g.done n (p.0, (n, to), inside to p.0 p.1, p.1, refl)

-- some images alone
pub all_restricted : (images some : Images) (keep : List NodeId) (i : ℕ) → length keep ≤ i → Gathers (image_of images) (NodesBelow keep i) some → IsRestricted images keep some
all_restricted images some keep i l g = record {
  kept = λ n h. g.done n (h.0, inside h.0 n h.1, h.1);
  others = λ n h. none_of (image_of some n) (λ to e. (let d = (g.from n to e).1 in h (d.0, d.2)));
}
  where
    inside : (k : ℕ) (n : NodeId) → slice_get keep k ≡ Some n → k < i
    inside k n e = let w = slice_get_within keep k n e in omega arith

-- the way back, as far as the first pairs
pub record Turns (ps : Images) (i : ℕ) (back : Images) : Type 0 where
  pub from : (n m : NodeId) → image_of back n ≡ Some m → image_of ps m ≡ Some n
  pub done : (k : ℕ) (m n : NodeId) → k < i → slice_get ps k ≡ Some (m, n) → image_of back n ≡ Some m

pub turns_none : (ps : Images) → Turns ps 0 []
turns_none ps = record { from = λ n m e. cc; done = λ k m n l e. absurd (no_below k l) }

turns_by : (ps : Images) (i : ℕ) (d : Pair) (old new : Images) → RiseFrom 0 ps → i < length ps → IsAdded old (get_or ps i d).1 (get_or ps i d).0 new true → Turns ps i old → Turns ps (i + 1) new
turns_by ps i d old new r l a t = record {
  from = λ n m e. elim (decide n to) [
    | inl x ↦ (let s : Some at ≡ Some m = sym (here n x) ∙ e in back m n x (some_same s))
    | inr x ↦ t.from n m (sym (other n x) ∙ e)
  ];
  done = λ k m n w e. elim (split k i w) [
    | inl x ↦ earlier m n (t.done k m n x e)
    | inr x ↦ (let s = one_pair ps i (m, n) (get_or ps i d) (subst (λ (z : ℕ). slice_get ps z ≡ Some (m, n)) x e) (slice_get-get_or ps i d l) in
        here n (ap (λ (z : Pair). z.1) s) ∙ ap (λ (z : Pair). Some z.0) (sym s))
  ];
}
  where
    at : NodeId
    at = (get_or ps i d).0

    to : NodeId
    to = (get_or ps i d).1

    some_same : {x y : NodeId} → Some x ≡ Some y → x ≡ y
    some_same e = cc

    here : (n : NodeId) → n ≡ to → image_of new n ≡ Some at
    here n x = a.yes refl n ∙ with_here old to at n x

    other : (n : NodeId) → n ≢ to → image_of new n ≡ image_of old n
    other n x = a.yes refl n ∙ with_other old to at n x

    back : (m n : NodeId) → n ≡ to → at ≡ m → image_of ps m ≡ Some n
    back m n x s = subst (λ (z : NodeId). image_of ps z ≡ Some n) s (image_at_place ps i d r l ∙ ap (λ (z : NodeId). Some z) (sym x))

    is_true : true ≡ false → ⊥
    is_true e = cc

    earlier : (m n : NodeId) → image_of old n ≡ Some m → image_of new n ≡ Some m
    earlier m n e = elim (decide n to) [
      | inl x ↦ elim (decide m at) [
        | inl y ↦ here n x ∙ ap (λ (z : NodeId). Some z) (sym y)
        | inr y ↦ absurd (is_true (a.other.1 (m, subst (λ (z : NodeId). image_of old z ≡ Some m) x e, y)))
      ]
      | inr x ↦ other n x ∙ e
    ]

clashes_by : (ps : Images) (i : ℕ) (d : Pair) (old new : Images) → RiseFrom 0 ps → i < length ps → IsAdded old (get_or ps i d).1 (get_or ps i d).0 new false → Turns ps i old → IsInjective ps → ⊥
clashes_by ps i d old new r l a t inj =
    let h = a.other.0 refl in
    h.2 (inj h.0 (get_or ps i d).0 (get_or ps i d).1 (t.from (get_or ps i d).1 h.0 h.1) (image_at_place ps i d r l))

pub turns_more : (ps : Images) (i : ℕ) (d : Pair) (old new : Images) (added : Bool) → RiseFrom 0 ps → i < length ps → IsAdded old (get_or ps i d).1 (get_or ps i d).0 new added → added ≡ true → Turns ps i old → Turns ps (i + 1) new
turns_more ps i d old new added r l a e t = turns_by ps i d old new r l (subst (λ (z : Bool). IsAdded old (get_or ps i d).1 (get_or ps i d).0 new z) e a) t

pub clashes : (ps : Images) (i : ℕ) (d : Pair) (old new : Images) (added : Bool) → RiseFrom 0 ps → i < length ps → IsAdded old (get_or ps i d).1 (get_or ps i d).0 new added → added ≡ false → Turns ps i old → IsInjective ps → ⊥
clashes ps i d old new added r l a e t inj = clashes_by ps i d old new r l (subst (λ (z : Bool). IsAdded old (get_or ps i d).1 (get_or ps i d).0 new z) e a) t inj

pub all_turned : (ps back : Images) (i : ℕ) → length ps ≤ i → Turns ps i back → IsInverse ps back
all_turned ps back i l t m n = ((λ e. (let p = place_of_image ps m n e in t.done p.0 m n (inside p.0 p.1) p.1)), t.from n m)
  where
    inside : (k : ℕ) → slice_get ps k ≡ Some (m, n) → k < i
    inside k e = let w = slice_get_within ps k (m, n) e in omega arith

pub injective_by : (ps back : Images) → IsInverse ps back → IsInjective ps
injective_by ps back h m n to e f =
    let x : Some m ≡ Some n = sym ((h m to).0 e) ∙ (h n to).0 f in
    cc

-- what both renamings say of what stands at a place
pub both_at : (ps first after : Images) (i : ℕ) (d : Pair) (o : Option NodeId) → ps ≡ first → RiseFrom 0 first → i < length ps → image_of after (get_or ps i d).1 ≡ o → both_images first after (get_or ps i d).0 ≡ o
both_at ps first after i d o e r l h =
    ap (λ (z : Option NodeId). image_after after z)
    (ap (λ (z : Images). image_of z (get_or ps i d).0) (sym e) ∙ image_at_place ps i d (subst (λ (z : Images). RiseFrom 0 z) (sym e) r) l)
    ∙ h
