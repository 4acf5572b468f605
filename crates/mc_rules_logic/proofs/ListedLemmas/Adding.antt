-- Atoms that can be put into every list in order.
use Rattle.std.proofs.Common.{◌≡◌, ◌⊎◌, inl, inr, ℕ, zero, suc, ◌<◌, ◌≤◌, ℤ, ◌<ℤ◌, List, [], ◌∷◌, ◌++◌, take, drop, length, Option, Some, None, slice_get, refl, sym, ap, subst, arith}
use Rattle.std.proofs.lemmas.Int.{ints}
use Rattle.mc_base.specs.declared.plain.Atom.{Atom}
use Rattle.mc_pure_ops.specs.declared.canon.order.Key.{Key}
use Rattle.mc_pure_ops.specs.Canon.Order.{Among, KeyBefore, IsBefore, FitsAfter, FitsBefore, Added, GivesAtMost, key}
use Rattle.mc_pure_ops.proofs.CanonLemmas.Lists.{key_same, put_added, there_added, added_both, added_as, added_none}

-- whatever the list is, these atoms can be put in
abbrev pub Addable : (Atom → Type 0) → Type 0
Addable P = (a : List Atom) → (b : List Atom) × Added P a b

order : (m n : ℕ) → (m < n) ⊎ ((m ≡ n) ⊎ (n < m))
order m n = grind arith

order_ℤ : (a b : ℤ) → (a <ℤ b) ⊎ ((a ≡ b) ⊎ (b <ℤ a))
order_ℤ a b = grind (arith, ints)

-- two keys are the same, all four parts
record AreSame (p q : Key) : Type 0 where
  pub rank : p.rank ≡ q.rank
  pub node : p.node ≡ q.node
  pub second : p.second ≡ q.second
  pub third : p.third ≡ q.third

compare : (p q : Key) → KeyBefore p q ⊎ (AreSame p q ⊎ KeyBefore q p)
compare p q = elim (order p.rank q.rank) [
  | inl x ↦ inl (inl x)
  | inr x ↦ elim x [
    | inr y ↦ inr (inr (inl y))
    | inl e ↦ elim (order p.node q.node) [
      | inl y ↦ inl (inr (e, inl y))
      | inr y ↦ elim y [
        | inr z ↦ inr (inr (inr (sym e, inl z)))
        | inl f ↦ elim (order_ℤ p.second q.second) [
          | inl z ↦ inl (inr (e, inr (f, inl z)))
          | inr z ↦ elim z [
            | inr w ↦ inr (inr (inr (sym e, inr (sym f, inl w))))
            | inl g ↦ elim (order_ℤ p.third q.third) [
              | inl w ↦ inl (inr (e, inr (f, inr (g, w))))
              | inr w ↦ elim w [
                | inr v ↦ inr (inr (inr (sym e, inr (sym f, inr (sym g, v)))))
                | inl h ↦ inr (inl (record { rank = e; node = f; second = g; third = h }))
              ]
            ]
          ]
        ]
      ]
    ]
  ]
]

-- a place for an atom in a list
record Gap (fs : List Atom) (f : Atom) : Type 0 where
  pub place : ℕ
  pub within : place ≤ length fs
  pub after : FitsAfter fs f place
  pub before : FitsBefore fs f place

some_same : (f g : Atom) → Some f ≡ Some g → f ≡ g
some_same f g e = cc

later : (g : Atom) (fs : List Atom) (f : Atom) → IsBefore g f → Among fs f ⊎ Gap fs f → Among (g ∷ fs) f ⊎ Gap (g ∷ fs) f
later g fs f b (inl m) = inl (suc m.0, m.1)
later g fs f b (inr gap) =
    inr (record {
      place = suc gap.place;
      within = (let l = gap.within in omega arith);
      after = behind;
      before = gap.before;
    })
  where
    behind : FitsAfter (g ∷ fs) f (suc gap.place)
    behind zero h e here = subst (λ (z : Atom). IsBefore z f) (some_same g h here) b
    behind (suc k) h e here = gap.after k h (omega arith) here

spot : (fs : List Atom) (f : Atom) → Among fs f ⊎ Gap fs f
spot [] f = inr (record { place = 0; within = omega arith; after = λ k g e here. absurd (omega arith); before = λ g here. cc })
spot (g ∷ fs) f = elim (compare (key g) (key f)) [
  | inl b ↦ later g fs f b (spot fs f)
  | inr x ↦ elim x [
    | inl s ↦ inl (0, ap (λ (z : Atom). Some z) (key_same g f s.rank s.node s.second s.third))
    | inr a ↦ inr (record {
      place = 0;
      within = omega arith;
      after = λ k h e here. absurd (omega arith);
      before = λ h here. subst (λ (z : Atom). IsBefore f z) (some_same g h here) a;
    })
  ]
]

put : (f : Atom) → Addable (λ g. g ≡ f)
put f a = elim (spot a f) [
  | inl m ↦ (a, there_added a f m)
  | inr gap ↦ (take gap.place a ++ f ∷ drop gap.place a, put_added a gap.place f gap.within gap.after gap.before)
]

-- no atom
pub none_addable : (P : Atom → Type 0) → ((g : Atom) → P g → ⊥) → Addable P
none_addable P never a = (a, added_none P a never)

-- exactly this one, or none
pub at_most_addable : (P : Atom → Type 0) (o : Option Atom) → GivesAtMost P o → Addable P
at_most_addable P None m = none_addable P m
at_most_addable P (Some f) m = λ a. let b = put f a in (b.0, added_as (λ g. g ≡ f) P a b.0 (λ g p. m.1 g p) (λ g e. subst P (sym e) m.0) b.1)

-- those of two kinds
pub both_addable : (P Q R : Atom → Type 0) → ((g : Atom) → R g → P g ⊎ Q g) → ((g : Atom) → P g ⊎ Q g → R g) → Addable P → Addable Q → Addable R
both_addable P Q R split join p q a =
    let b = p a in
    let c = q b.0 in
    (c.0, added_both P Q R a b.0 c.0 split join b.1 c.1)

pub addable_as : (P Q : Atom → Type 0) → ((g : Atom) → Q g → P g) → ((g : Atom) → P g → Q g) → Addable P → Addable Q
addable_as P Q to from p a = let b = p a in (b.0, added_as P Q a b.0 to from b.1)

-- those of the elements of a list
abbrev pub OfSome : {X : Type 0} → (X → Atom → Type 0) → List X → Atom → Type 0
OfSome {X} R xs g = (x : X) × ((k : ℕ) × (slice_get xs k ≡ Some x)) × R x g

pub listed_addable : {X : Type 0} (R : X → Atom → Type 0) (xs : List X) → ((k : ℕ) (x : X) → slice_get xs k ≡ Some x → Addable (R x)) → Addable (OfSome R xs)
listed_addable {X} R [] each = none_addable (OfSome R []) (λ g u. let e = u.1.1 in cc)
listed_addable {X} R (y ∷ ys) each =
    both_addable (R y) (OfSome R ys) (OfSome R (y ∷ ys)) split join (each zero y refl) (listed_addable R ys (λ k x e. each (suc k) x e))
  where
    some_one : (x : X) → Some y ≡ Some x → y ≡ x
    some_one x e = cc

    at : (x : X) (k : ℕ) (g : Atom) → slice_get (y ∷ ys) k ≡ Some x → R x g → R y g ⊎ OfSome R ys g
    at x zero g e r = inl (subst (λ (z : X). R z g) (sym (some_one x e)) r)
    at x (suc k) g e r = inr (x, (k, e), r)

    split : (g : Atom) → OfSome R (y ∷ ys) g → R y g ⊎ OfSome R ys g
    split g u = at u.0 u.1.0 g u.1.1 u.2

    join : (g : Atom) → R y g ⊎ OfSome R ys g → OfSome R (y ∷ ys) g
    join g (inl r) = (y, (zero, refl), r)
    join g (inr u) = (u.0, (suc u.1.0, u.1.1), u.2)

-- those of numbers
abbrev pub OfNumber : (ℕ → Atom → Type 0) → Atom → Type 0
OfNumber R g = (k : ℕ) × R k g

abbrev OfLess : (ℕ → Atom → Type 0) → ℕ → Atom → Type 0
OfLess R n g = (k : ℕ) × (k < n) × R k g

last : (k n : ℕ) → k < suc n → (k < n) ⊎ (k ≡ n)
last k n l = grind arith

less_addable : (R : ℕ → Atom → Type 0) → ((k : ℕ) → Addable (R k)) → (n : ℕ) → Addable (OfLess R n)
less_addable R each zero = none_addable (OfLess R 0) (λ g u. let l = u.1 in omega arith)
less_addable R each (suc n) =
    both_addable (OfLess R n) (R n) (OfLess R (suc n))
    (λ g u. elim (last u.0 n u.1) [ inl l ↦ inl (u.0, l, u.2) | inr e ↦ inr (subst (λ (z : ℕ). R z g) e u.2) ])
    (λ g s. elim s [ inl u ↦ (let l = u.1 in (u.0, omega arith, u.2)) | inr r ↦ (n, omega arith, r) ])
    (less_addable R each n) (each n)

within : (n k : ℕ) → (k < n) ⊎ (n ≤ k)
within n k = grind arith

pub numbers_addable : (R : ℕ → Atom → Type 0) (n : ℕ) → ((k : ℕ) (g : Atom) → n ≤ k → R k g → ⊥) → ((k : ℕ) → Addable (R k)) → Addable (OfNumber R)
numbers_addable R n never each =
    addable_as (OfLess R n) (OfNumber R)
    (λ g u. elim (within n u.0) [ inl l ↦ (u.0, l, u.1) | inr l ↦ absurd (never u.0 g l u.1) ])
    (λ g u. (u.0, u.2))
    (less_addable R each n)
