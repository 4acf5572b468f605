-- Looking images up.
use Rattle.std.proofs.Common.{◌≡◌, ◌≢◌, ℕ, zero, suc, ◌<◌, ◌≤◌, ◌+◌, ◌⊎◌, [], ◌∷◌, Option, Some, None, slice_get, get_or, length, refl, sym, ◌∙◌, ap, subst, inl, inr, arith}
use Rattle.std.proofs.lemmas.Option.{slice_get_within, slice_get-get_or}
use Rattle.mc_base.specs.declared.ids.NodeId.{NodeId}
use Rattle.mc_pure_ops.specs.Renaming.Images.{Images, image_of, RiseFrom, DoRise, IsPlace}
use Rattle.mc_pure.proofs.Changing.{no, number, same_false, same_node, same_true}

same : (a b : ℕ) → (a ≡ b) ⊎ (a ≢ b)
same a b = grind arith

pub decide : (a b : NodeId) → (a ≡ b) ⊎ (a ≢ b)
decide a b = elim (same a.0 b.0) [ inl x ↦ inl (same_node a b x) | inr x ↦ inr (λ e. x (number e)) ]

abbrev pub Pair : Type 0
Pair = NodeId × NodeId

pub some_pair : (x y : Pair) → Some x ≡ Some y → x ≡ y
some_pair x y e = cc

pub here_image : (p : Pair) (ps : Images) (n : NodeId) → p.0 ≡ n → image_of (p ∷ ps) n ≡ Some p.1
here_image p ps n e = rw (same_true p.0 n e) refl

pub later_image : (p : Pair) (ps : Images) (n : NodeId) → p.0 ≢ n → image_of (p ∷ ps) n ≡ image_of ps n
later_image p ps n e = rw (same_false p.0 n e) refl

-- what stands at a place
pub image_there : (low : ℕ) (ps : Images) → RiseFrom low ps → (i : ℕ) (n to : NodeId) → slice_get ps i ≡ Some (n, to) → (image_of ps n ≡ Some to) × (low ≤ n.0)
image_there low [] r i n to e = cc
image_there low (p ∷ ps) r zero n to e =
    let s = some_pair p (n, to) e in
    let a : p.0 ≡ n = ap (λ (z : Pair). z.0) s in
    let b : p.1 ≡ to = ap (λ (z : Pair). z.1) s in
    (here_image p ps n a ∙ ap (λ (z : NodeId). Some z) b, subst (λ (z : NodeId). low ≤ z.0) a r.0)
image_there low (p ∷ ps) r (suc i) n to e =
    let h = image_there (suc p.0.0) ps r.1 i n to e in
    let x = r.0 in
    let y = h.1 in
    (later_image p ps n (λ z. let w = number z in omega arith) ∙ h.0, omega arith)

-- where an image stands
pub place_of_image : (ps : Images) (n to : NodeId) → image_of ps n ≡ Some to → (i : ℕ) × (slice_get ps i ≡ Some (n, to))
place_of_image [] n to e = cc
place_of_image (p ∷ ps) n to e = elim (decide p.0 n) [
  | inl x ↦
      let h : Some p.1 ≡ Some to = sym (here_image p ps n x) ∙ e in
      let same : p.1 ≡ to = cc in
      (zero, pair p.0 n p.1 to x same)
  | inr x ↦ (let h = place_of_image ps n to (sym (later_image p ps n x) ∙ e) in (suc h.0, h.1))
]
  where
    pair : (a b c d : NodeId) → a ≡ b → c ≡ d → (let x : Pair = (a, c) in let y : Pair = (b, d) in Some x ≡ Some y)
    pair a b c d p q = rw (p, q)

-- the nodes rise
rise_at : (low : ℕ) (ps : Images) → RiseFrom low ps → (i : ℕ) (p : Pair) → slice_get ps i ≡ Some p → low ≤ p.0.0
rise_at low ps r i p e = (image_there low ps r i p.0 p.1 e).1

pub do_rise : (low : ℕ) (ps : Images) → RiseFrom low ps → DoRise ps
do_rise low [] r i j a b l e f = cc
do_rise low (p ∷ ps) r i zero a b l e f = absurd (omega arith)
do_rise low (p ∷ ps) r zero (suc j) a b l e f =
    let s : p ≡ a = some_pair p a e in
    let n : p.0.0 ≡ a.0.0 = ap (λ (z : Pair). z.0.0) s in
    let h = rise_at (suc p.0.0) ps r.1 j b f in
    omega arith
do_rise low (p ∷ ps) r (suc i) (suc j) a b l e f = do_rise (suc p.0.0) ps r.1 i j a b (omega arith) e f

get_pair : (ps : Images) (i : ℕ) (x y : Pair) → slice_get ps i ≡ Some x → slice_get ps i ≡ Some y → x ≡ y
get_pair ps i x y e f = cc

-- the search
pub low_more : (ps : Images) (n : NodeId) (middle : ℕ) (d : Pair) → DoRise ps → middle < length ps → (get_or ps middle d).0.0 < n.0 → (i : ℕ) (a : Pair) → i < middle + 1 → slice_get ps i ≡ Some a → a.0.0 < n.0
low_more ps n middle d r lt less i a l e =
    let m = slice_get-get_or ps middle d lt in
    elim (split i middle l) [
      | inl x ↦ (let h = r i middle a (get_or ps middle d) x e m in omega arith)
      | inr x ↦ (let s = get_pair ps middle (get_or ps middle d) a m (subst (λ (z : ℕ). slice_get ps z ≡ Some a) x e) in let k : (get_or ps middle d).0.0 ≡ a.0.0 = ap (λ (z : Pair). z.0.0) s in omega arith)
    ]
  where
    split : (i m : ℕ) → i < m + 1 → (i < m) ⊎ (i ≡ m)
    split i m l = grind arith

pub high_less : (ps : Images) (n : NodeId) (middle : ℕ) (d : Pair) → DoRise ps → middle < length ps → n.0 ≤ (get_or ps middle d).0.0 → (i : ℕ) (a : Pair) → middle ≤ i → slice_get ps i ≡ Some a → n.0 ≤ a.0.0
high_less ps n middle d r lt less i a l e =
    let m = slice_get-get_or ps middle d lt in
    elim (split i middle l) [
      | inl x ↦ (let h = r middle i (get_or ps middle d) a x m e in omega arith)
      | inr x ↦ (let s = get_pair ps middle (get_or ps middle d) a m (subst (λ (z : ℕ). slice_get ps z ≡ Some a) (sym x) e) in let k : (get_or ps middle d).0.0 ≡ a.0.0 = ap (λ (z : Pair). z.0.0) s in omega arith)
    ]
  where
    split : (i m : ℕ) → m ≤ i → (m < i) ⊎ (m ≡ i)
    split i m l = grind arith

-- a node whose pair is not at its place has no image
abbrev pub IsNotAt : Images → NodeId → ℕ → Type 0
IsNotAt ps n place = (to : NodeId) → slice_get ps place ≡ Some (n, to) → ⊥

pub not_there : (ps : Images) (n : NodeId) (place : ℕ) → DoRise ps → IsPlace ps n place → IsNotAt ps n place → image_of ps n ≡ None
not_there ps n place r p other = cases (image_of ps n) refl
  where
    sides : (i p : ℕ) → (i < p) ⊎ ((i ≡ p) ⊎ (p < i))
    sides i p = grind arith

    past : (to : NodeId) (i : ℕ) → place < i → slice_get ps i ≡ Some (n, to) → ⊥
    past to i l e =
        let w = slice_get_within ps i (n, to) e in
        let lt : place < length ps = omega arith in
        let m = slice_get-get_or ps place (n, n) lt in
        let x : (get_or ps place (n, n)).0.0 < n.0 = r place i (get_or ps place (n, n)) (n, to) l m e in
        let y : n.0 ≤ (get_or ps place (n, n)).0.0 = p.1 place (get_or ps place (n, n)) (omega arith) m in
        omega arith

    at : (to : NodeId) (i : ℕ) → slice_get ps i ≡ Some (n, to) → ⊥
    at to i e = elim (sides i place) [
      | inl x ↦ (let l : n.0 < n.0 = p.0 i (n, to) x e in omega arith)
      | inr x ↦ elim x [
        | inl y ↦ other to (subst (λ (z : ℕ). slice_get ps z ≡ Some (n, to)) y e)
        | inr y ↦ past to i y e
      ]
    ]

    cases : (o : Option NodeId) → image_of ps n ≡ o → image_of ps n ≡ None
    cases None e = e
    cases (Some to) e = (let k = place_of_image ps n to e in absurd (at to k.0 k.1))
