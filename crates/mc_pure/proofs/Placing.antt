-- Places of nodes.
use Rattle.std.proofs.Common.{◌≡◌, ◌≢◌, ℕ, zero, suc, ◌<◌, ◌≤◌, ◌+◌, ◌-◌, ◌⊎◌, List, [], ◌∷◌, Option, Some, None, slice_get, get_or, length, map, nat_lt, true, false, refl, sym, ◌∙◌, ap, subst, inl, inr, arith}
use Rattle.std.proofs.lemmas.Bool.Decides.{nat_tests}
use Rattle.std.proofs.lemmas.Option.{slice_get_within, slice_get-get_or}
use Rattle.std.specs.List.{insert}
use Rattle.mc_base.specs.declared.ids.NodeId.{NodeId}
use Rattle.mc_base.specs.declared.plain.Kind.{Kind}
use Rattle.mc_base.specs.declared.plain.Kind.TheVariants.{Int}
use Rattle.mc_base.specs.Nodes.{null}
use Rattle.mc_pure.specs.Pure.{Kinds, IsNode, HasKind, AreOfOneKind, kind_of}
use Rattle.mc_pure.specs.Rows.{nodes_of}
use Rattle.mc_pure.specs.Nodes.{RiseFrom, DoRise, IsPlace, with_kind}
use Rattle.mc_pure.proofs.Changing.{same_node, number, decide, same_true, same_false}

pub get_node : {X : Type 0} (xs : List X) (i : ℕ) (x y : X) → slice_get xs i ≡ Some x → slice_get xs i ≡ Some y → x ≡ y
get_node xs i x y e f = cc

abbrev pub Entry : Type 0
Entry = NodeId × Kind

first_of : (k n : NodeId) (a b : Kind) → (let x : Entry = (k, a) in let y : Entry = (n, b) in x ≡ y) → (k ≡ n) × (a ≡ b)
first_of k n a b e = (ap (λ (z : Entry). z.0) e, ap (λ (z : Entry). z.1) e)

some_entry : (x y : Entry) → Some x ≡ Some y → x ≡ y
some_entry x y e = cc

pub here_kind : (k : Entry) (kinds : Kinds) (n : NodeId) → k.0 ≡ n → kind_of (k ∷ kinds) n ≡ Some k.1
here_kind k kinds n e = rw (same_true k.0 n e) refl

pub later_kind : (k : Entry) (kinds : Kinds) (n : NodeId) → k.0 ≢ n → kind_of (k ∷ kinds) n ≡ kind_of kinds n
later_kind k kinds n e = rw (same_false k.0 n e) refl

-- what stands at a place
pub kind_at : (low : ℕ) (kinds : Kinds) → RiseFrom low kinds → (i : ℕ) (n : NodeId) (kind : Kind) → slice_get kinds i ≡ Some (n, kind) → (kind_of kinds n ≡ Some kind) × (low ≤ n.0)
kind_at low [] r i n kind e = cc
kind_at low (k ∷ kinds) r zero n kind e =
    let s = some_entry k (n, kind) e in
    let a : k.0 ≡ n = ap (λ (z : Entry). z.0) s in
    let b : k.1 ≡ kind = ap (λ (z : Entry). z.1) s in
    (here_kind k kinds n a ∙ ap (λ (z : Kind). Some z) b, subst (λ (z : NodeId). low ≤ z.0) a r.0)
kind_at low (k ∷ kinds) r (suc i) n kind e =
    let h = kind_at (suc k.0.0) kinds r.1 i n kind e in
    let x = r.0 in
    let y = h.1 in
    (later_kind k kinds n (λ z. let w = number z in omega arith) ∙ h.0, omega arith)

pub place_of_kind : (kinds : Kinds) (n : NodeId) (kind : Kind) → kind_of kinds n ≡ Some kind → (i : ℕ) × (slice_get kinds i ≡ Some (n, kind))
place_of_kind [] n kind e = cc
place_of_kind (k ∷ kinds) n kind e = elim (decide k.0 n) [
  | inl x ↦
      let h : Some k.1 ≡ Some kind = sym (here_kind k kinds n x) ∙ e in
      let same : k.1 ≡ kind = cc in
      (zero, entry k.0 n k.1 kind x same)
  | inr x ↦ (let h = place_of_kind kinds n kind (sym (later_kind k kinds n x) ∙ e) in (suc h.0, h.1))
]
  where
    entry : (a b : NodeId) (c d : Kind) → a ≡ b → c ≡ d → (let x : Entry = (a, c) in let y : Entry = (b, d) in Some x ≡ Some y)
    entry a b c d p q = rw (p, q)

node_of_map : (kinds : Kinds) (i : ℕ) (n : NodeId) → slice_get (map (λ k. k.0) kinds) i ≡ Some n → (kind : Kind) × (slice_get kinds i ≡ Some (n, kind))
node_of_map [] i n e = cc
node_of_map (k ∷ kinds) zero n e =
    let s : k.0 ≡ n = cc in
    (k.1, subst (λ (z : NodeId). let x : Entry = (z, k.1) in Some k ≡ Some x) s refl)
node_of_map (k ∷ kinds) (suc i) n e = node_of_map kinds i n e

map_of_node : (kinds : Kinds) (i : ℕ) (n : NodeId) (kind : Kind) → slice_get kinds i ≡ Some (n, kind) → slice_get (map (λ k. k.0) kinds) i ≡ Some n
map_of_node [] i n kind e = cc
map_of_node (k ∷ kinds) zero n kind e = let s = some_entry k (n, kind) e in ap (λ (z : Entry). Some z.0) s
map_of_node (k ∷ kinds) (suc i) n kind e = map_of_node kinds i n kind e

pub is_node : (low : ℕ) (kinds : Kinds) → RiseFrom low kinds → (i : ℕ) (n : NodeId) → slice_get (nodes_of kinds) i ≡ Some n → IsNode kinds n
is_node low kinds r zero n e = let s : null ≡ n = cc in (Int, inl (sym s))
is_node low kinds r (suc i) n e = let h = node_of_map kinds i n e in (h.0, inr (kind_at low kinds r i n h.0 h.1).0)

pub node_place : (kinds : Kinds) (n : NodeId) → IsNode kinds n → (i : ℕ) × (slice_get (nodes_of kinds) i ≡ Some n)
node_place kinds n h = elim h.1 [
  | inl e ↦ (zero, ap (λ (z : NodeId). Some z) (sym e))
  | inr e ↦ (let p = place_of_kind kinds n h.0 e in (suc p.0, map_of_node kinds p.0 n h.0 p.1))
]

-- the nodes rise
rise_at : (low : ℕ) (kinds : Kinds) → RiseFrom low kinds → (i : ℕ) (n : NodeId) → slice_get (map (λ k. k.0) kinds) i ≡ Some n → low ≤ n.0
rise_at low kinds r i n e = let h = node_of_map kinds i n e in (kind_at low kinds r i n h.0 h.1).1

rise_pair : (low : ℕ) (kinds : Kinds) → RiseFrom low kinds → DoRise (map (λ k. k.0) kinds)
rise_pair low [] r i j a b l e f = cc
rise_pair low (k ∷ kinds) r i zero a b l e f = absurd (omega arith)
rise_pair low (k ∷ kinds) r zero (suc j) a b l e f =
    let s : k.0 ≡ a = cc in
    let n = number s in
    let h = rise_at (suc k.0.0) kinds r.1 j b f in
    omega arith
rise_pair low (k ∷ kinds) r (suc i) (suc j) a b l e f = rise_pair (suc k.0.0) kinds r.1 i j a b (omega arith) e f

pub do_rise : (kinds : Kinds) → RiseFrom 1 kinds → DoRise (nodes_of kinds)
do_rise kinds r i zero a b l e f = absurd (omega arith)
do_rise kinds r zero (suc j) a b l e f =
    let s : null ≡ a = cc in
    let n : 0 ≡ a.0 = number s in
    let h = rise_at 1 kinds r j b f in
    omega arith
do_rise kinds r (suc i) (suc j) a b l e f = rise_pair 1 kinds r i j a b (omega arith) e f

-- the search
pub low_more : (nodes : List NodeId) (n : NodeId) (middle : ℕ) (d : NodeId) → DoRise nodes → middle < length nodes → (get_or nodes middle d).0 < n.0 → (i : ℕ) (a : NodeId) → i < middle + 1 → slice_get nodes i ≡ Some a → a.0 < n.0
low_more nodes n middle d r lt less i a l e =
    let m = slice_get-get_or nodes middle d lt in
    elim (split i middle l) [
      | inl x ↦ (let h = r i middle a (get_or nodes middle d) x e m in omega arith)
      | inr x ↦ (let s = get_node nodes middle (get_or nodes middle d) a m (subst (λ (z : ℕ). slice_get nodes z ≡ Some a) x e) in let k = number s in omega arith)
    ]
  where
    split : (i m : ℕ) → i < m + 1 → (i < m) ⊎ (i ≡ m)
    split i m l = grind arith

pub high_less : (nodes : List NodeId) (n : NodeId) (middle : ℕ) (d : NodeId) → DoRise nodes → middle < length nodes → n.0 ≤ (get_or nodes middle d).0 → (i : ℕ) (a : NodeId) → middle ≤ i → slice_get nodes i ≡ Some a → n.0 ≤ a.0
high_less nodes n middle d r lt less i a l e =
    let m = slice_get-get_or nodes middle d lt in
    elim (split i middle l) [
      | inl x ↦ (let h = r middle i (get_or nodes middle d) a x m e in omega arith)
      | inr x ↦ (let s = get_node nodes middle (get_or nodes middle d) a m (subst (λ (z : ℕ). slice_get nodes z ≡ Some a) (sym x) e) in let k = number s in omega arith)
    ]
  where
    split : (i m : ℕ) → m ≤ i → (m < i) ⊎ (m ≡ i)
    split i m l = grind arith

-- a node that is not at its place is not there
pub not_there : (kinds : Kinds) (n : NodeId) (place : ℕ) → DoRise (nodes_of kinds) → IsPlace (nodes_of kinds) n place → (slice_get (nodes_of kinds) place ≡ Some n → ⊥) → IsNode kinds n → ⊥
not_there kinds n place r p other h =
    let k = node_place kinds n h in
    elim (sides k.0 place) [
      | inl x ↦ (let l = p.0 k.0 n x k.1 in omega arith)
      | inr x ↦ elim x [
        | inl y ↦ other (subst (λ (z : ℕ). slice_get (nodes_of kinds) z ≡ Some n) y k.1)
        | inr y ↦ past (nodes_of kinds) n place r p k.0 y k.1
      ]
    ]
  where
    sides : (i p : ℕ) → (i < p) ⊎ ((i ≡ p) ⊎ (p < i))
    sides i p = grind arith

    past : (nodes : List NodeId) (n : NodeId) (place : ℕ) → DoRise nodes → IsPlace nodes n place → (i : ℕ) → place < i → slice_get nodes i ≡ Some n → ⊥
    past nodes n place r p i l e =
        let w = slice_get_within nodes i n e in
        let m = slice_get-get_or nodes place n (omega arith) in
        let x = r place i (get_or nodes place n) n l m e in
        let y = p.1 place (get_or nodes place n) (omega arith) m in
        omega arith

pub no_kind : (kinds : Kinds) (n : NodeId) → (IsNode kinds n → ⊥) → kind_of kinds n ≡ None
no_kind kinds n h = cases (kind_of kinds n) refl
  where
    cases : (k : Option Kind) → kind_of kinds n ≡ k → kind_of kinds n ≡ None
    cases None e = e
    cases (Some k) e = absurd (h (k, inr e))

pub null_kind : (low : ℕ) (kinds : Kinds) → 0 < low → RiseFrom low kinds → kind_of kinds null ≡ None
null_kind low [] p r = refl
null_kind low (k ∷ kinds) p r =
    let x = r.0 in
    later_kind k kinds null (λ e. let z = number e in omega arith) ∙ null_kind (suc k.0.0) kinds (omega arith) r.1

pub kind_is : (kinds : Kinds) (place : ℕ) (n : NodeId) (d : Entry) → RiseFrom 1 kinds → place ≢ 0 → place - 1 < length kinds → slice_get (nodes_of kinds) place ≡ Some n → Some (get_or kinds (place - 1) d).1 ≡ kind_of kinds n
kind_is kinds zero n d r ne l e = absurd (ne refl)
kind_is kinds (suc j) n d r ne l e =
    let same : suc j - 1 ≡ j = omega arith in
    let h = node_of_map kinds j n e in
    let k = kind_at 1 kinds r j n h.0 h.1 in
    let m : slice_get kinds j ≡ Some (get_or kinds j d) = slice_get-get_or kinds j d (omega arith) in
    let x : get_or kinds j d ≡ (n, h.0) = some_entry (get_or kinds j d) (n, h.0) (sym m ∙ h.1) in
    rw same (ap (λ (z : Entry). Some z.1) x ∙ sym k.0)

-- one more node
abbrev Absent : Kinds → NodeId → Type 0
Absent kinds n = (i : ℕ) (x : NodeId) → slice_get (map (λ k. k.0) kinds) i ≡ Some x → x.0 ≢ n.0

pub less_or : (a b : ℕ) → (a < b) ⊎ (b ≤ a)
less_or a b = grind arith

test_yes : (a b : ℕ) → a < b → nat_lt a b ≡ true
test_yes a b l = grind (arith, nat_tests)

test_no : (a b : ℕ) → b ≤ a → nat_lt a b ≡ false
test_no a b l = grind (arith, nat_tests)

pub first_kind : (k : Entry) (kinds : Kinds) (n : NodeId) (kind : Kind) → n.0 < k.0.0 → with_kind (k ∷ kinds) n kind ≡ (n, kind) ∷ k ∷ kinds
first_kind k kinds n kind l = rw (test_yes n.0 k.0.0 l) refl

pub next_kind : (k : Entry) (kinds : Kinds) (n : NodeId) (kind : Kind) → k.0.0 ≤ n.0 → with_kind (k ∷ kinds) n kind ≡ k ∷ with_kind kinds n kind
next_kind k kinds n kind l = rw (test_no n.0 k.0.0 l) refl

insert_is : (kinds : Kinds) (n : NodeId) (kind : Kind) (j : ℕ) → j ≤ length kinds → IsPlace (map (λ k. k.0) kinds) n j → Absent kinds n → insert kinds j (n, kind) ≡ with_kind kinds n kind
insert_is [] n kind zero le p a = refl
insert_is [] n kind (suc j) le p a = absurd (omega arith)
insert_is (k ∷ kinds) n kind zero le p a =
    let l = p.1 0 k.0 (omega arith) refl in
    let ne = a 0 k.0 refl in
    sym (first_kind k kinds n kind (omega arith))
insert_is (k ∷ kinds) n kind (suc j) le p a =
    let l = p.0 0 k.0 (omega arith) refl in
    let rest = insert_is kinds n kind j (omega arith) ((λ i x m e. p.0 (suc i) x (omega arith) e), (λ i x m e. p.1 (suc i) x (omega arith) e)) (λ i x e. a (suc i) x e) in
    ap (λ (z : Kinds). k ∷ z) rest ∙ sym (next_kind k kinds n kind (omega arith))

rise_with : (low : ℕ) (kinds : Kinds) (n : NodeId) (kind : Kind) → RiseFrom low kinds → low ≤ n.0 → Absent kinds n → RiseFrom low (with_kind kinds n kind)
rise_with low [] n kind r l a = (l, tt)
rise_with low (k ∷ kinds) n kind r l a = elim (less_or n.0 k.0.0) [
  | inl x ↦ subst (λ (z : Kinds). RiseFrom low z) (sym (first_kind k kinds n kind x)) (l, (omega arith, r.1))
  | inr x ↦ (let ne = a 0 k.0 refl in subst (λ (z : Kinds). RiseFrom low z) (sym (next_kind k kinds n kind x)) (r.0, rise_with (suc k.0.0) kinds n kind r.1 (omega arith) (λ i y e. a (suc i) y e)))
]

map_insert : (kinds : Kinds) (j : ℕ) (e : Entry) → map (λ k. k.0) (insert kinds j e) ≡ insert (map (λ k. k.0) kinds) j e.0
map_insert [] zero e = refl
map_insert [] (suc j) e = refl
map_insert (k ∷ kinds) zero e = refl
map_insert (k ∷ kinds) (suc j) e = ap (λ (z : List NodeId). k.0 ∷ z) (map_insert kinds j e)

absent_of : (kinds : Kinds) (n : NodeId) → RiseFrom 1 kinds → (IsNode kinds n → ⊥) → Absent kinds n
absent_of kinds n r h i x e z = h (subst (λ (w : NodeId). IsNode kinds w) (same_node x n z) (is_node 1 kinds r (suc i) x e))

not_null : (kinds : Kinds) (n : NodeId) → (IsNode kinds n → ⊥) → 0 < n.0
not_null kinds n h = positive n.0 (λ e. h (Int, inl (same_node n null e)))
  where
    positive : (a : ℕ) → a ≢ 0 → 0 < a
    positive a ne = omega arith

length_map : (kinds : Kinds) → length (map (λ k. k.0) kinds) ≡ length kinds
length_map [] = refl
length_map (k ∷ kinds) = let h = length_map kinds in omega arith

module _ (kinds : Kinds) (n : NodeId) (kind : Kind) (r : RiseFrom 1 kinds) (h : IsNode kinds n → ⊥) (place : ℕ) (p : IsPlace (nodes_of kinds) n place) (le : place ≤ length (nodes_of kinds)) where
  pub place_positive : 0 < place
  place_positive = elim (less_or 0 place) [ inl x ↦ x | inr x ↦ (let k = p.1 0 null x refl in let z = not_null kinds n h in absurd (omega arith)) ]

  behind : (j : ℕ) → place ≡ suc j → (insert kinds j (n, kind) ≡ with_kind kinds n kind) × (nodes_of (insert kinds j (n, kind)) ≡ insert (nodes_of kinds) (suc j) n)
  behind j e =
      let m = length_map kinds in
      let l : suc j ≤ length (nodes_of kinds) = subst (λ (z : ℕ). z ≤ length (nodes_of kinds)) e le in
      let q : IsPlace (nodes_of kinds) n (suc j) = subst (λ (z : ℕ). IsPlace (nodes_of kinds) n z) e p in
      (insert_is kinds n kind j (omega arith) ((λ i x w g. q.0 (suc i) x (omega arith) g), (λ i x w g. q.1 (suc i) x (omega arith) g)) (absent_of kinds n r h), ap (λ (z : List NodeId). null ∷ z) (map_insert kinds j (n, kind)))

  one_less : place ≡ suc (place - 1)
  one_less = let x = place_positive in omega arith

  pub added_kinds : insert kinds (place - 1) (n, kind) ≡ with_kind kinds n kind
  added_kinds = (behind (place - 1) one_less).0

  pub added_nodes : insert (nodes_of kinds) place n ≡ nodes_of (insert kinds (place - 1) (n, kind))
  added_nodes = ap (λ (z : ℕ). insert (nodes_of kinds) z n) one_less ∙ sym (behind (place - 1) one_less).1

  pub added_rise : RiseFrom 1 (insert kinds (place - 1) (n, kind))
  added_rise = subst (λ (z : Kinds). RiseFrom 1 z) (sym added_kinds) (rise_with 1 kinds n kind r (not_null kinds n h) (absent_of kinds n r h))

-- two nodes of one kind
pub one_left : (kinds : Kinds) (a b : NodeId) → a.0 ≡ 0 → IsNode kinds b → AreOfOneKind kinds a b
one_left kinds a b z h = (h.0, inl (same_node a null z), h.1)

pub one_right : (kinds : Kinds) (a b : NodeId) → b.0 ≡ 0 → IsNode kinds a → AreOfOneKind kinds a b
one_right kinds a b z h = (h.0, h.1, inl (same_node b null z))

pub first_node : (kinds : Kinds) (a b : NodeId) → AreOfOneKind kinds a b → IsNode kinds a
first_node kinds a b h = (h.0, h.1)

pub second_node : (kinds : Kinds) (a b : NodeId) → AreOfOneKind kinds a b → IsNode kinds b
second_node kinds a b h = (h.0, h.2)

pub one_kind : (kinds : Kinds) (a b : NodeId) (k l : Kind) → Some k ≡ kind_of kinds a → Some l ≡ kind_of kinds b → k ≡ l → AreOfOneKind kinds a b
one_kind kinds a b k l p q e = (k, inr (sym p), inr (sym q ∙ ap (λ (z : Kind). Some z) (sym e)))

has_some : (kinds : Kinds) (a : NodeId) (m : Kind) → (a.0 ≡ 0 → ⊥) → HasKind kinds m a → kind_of kinds a ≡ Some m
has_some kinds a m n (inl e) = absurd (n (number e))
has_some kinds a m n (inr e) = e

pub other_kinds : (kinds : Kinds) (a b : NodeId) (k l : Kind) → (a.0 ≡ 0 → ⊥) → (b.0 ≡ 0 → ⊥) → Some k ≡ kind_of kinds a → Some l ≡ kind_of kinds b → (k ≡ l → ⊥) → AreOfOneKind kinds a b → ⊥
other_kinds kinds a b k l na nb p q ne h =
    let x : Some k ≡ Some h.0 = p ∙ has_some kinds a h.0 na h.1 in
    let y : Some l ≡ Some h.0 = q ∙ has_some kinds b h.0 nb h.2 in
    let z : k ≡ l = cc in
    ne z

pub no_first : (kinds : Kinds) (a b : NodeId) → (a.0 ≡ 0 → ⊥) → None ≡ kind_of kinds a → AreOfOneKind kinds a b → ⊥
no_first kinds a b na p h = let x : None ≡ Some h.0 = p ∙ has_some kinds a h.0 na h.1 in cc

pub no_second : (kinds : Kinds) (a b : NodeId) → (b.0 ≡ 0 → ⊥) → None ≡ kind_of kinds b → AreOfOneKind kinds a b → ⊥
no_second kinds a b nb p h = let x : None ≡ Some h.0 = p ∙ has_some kinds b h.0 nb h.2 in cc
