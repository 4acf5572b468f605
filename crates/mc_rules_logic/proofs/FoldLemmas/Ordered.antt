-- Atoms in order: two lists of the same atoms are one.
use Rattle.std.proofs.Common.{◌≡◌, ◌<◌, ◌⊎◌, inl, inr, ℕ, zero, suc, List, [], ◌∷◌, length, get_or, Contains, refl, sym, ◌∙◌, ap₂, subst, arith, ◌<ℤ◌}
use Rattle.std.proofs.lemmas.Int.{ints}
use Rattle.mc_base.specs.declared.plain.Atom.{Atom}
use Rattle.mc_base.specs.declared.plain.Atom.TheVariants.{Eq, Ne, In}
use Rattle.mc_pure.specs.Canonical.{ComesBefore, AreInOrder, AreListed}

-- ---- what a list has

module _ {X : Type 0} where
  pub among_cases : (x : X) (xs : List X) (y : X) → Contains (x ∷ xs) y → (x ≡ y) ⊎ Contains xs y
  among_cases x xs y c = at c.0 c.1 c.2
    where
      at : (k : ℕ) → k < length (x ∷ xs) → get_or (x ∷ xs) k y ≡ y → (x ≡ y) ⊎ Contains xs y
      at zero less e = inl e
      at (suc k) less e = inr (k, omega arith, e)

  pub among_here : (x : X) (xs : List X) → Contains (x ∷ xs) x
  among_here x xs = (0, omega arith, refl)

  pub among_same : (x : X) (xs : List X) (y : X) → x ≡ y → Contains (x ∷ xs) y
  among_same x xs y e = (0, omega arith, e)

  pub among_there : (x : X) (xs : List X) (y : X) → Contains xs y → Contains (x ∷ xs) y
  among_there x xs y c = let less = c.1 in (suc c.0, omega arith, c.2)

  pub among_none : (y : X) → Contains {X = X} [] y → ⊥
  among_none y c = let less = c.1 in omega arith

-- ---- the order of atoms

before_itself : (f : Atom) → ComesBefore f f → ⊥
before_itself (Eq a b c) h = omega arith
before_itself (Ne a b c) h = elim h [
  | inl less ↦ omega arith
  | inr rest ↦ elim rest.1 [
    | inl less ↦ omega arith
    | inr more ↦ let less = more.1 in omega (arith, ints)
  ]
]
before_itself (In a lo hi) h = omega arith

before_before : (f g h : Atom) → ComesBefore f g → ComesBefore g h → ComesBefore f h
before_before (Eq a b c) (Eq i j k) (Eq l m n) p q = omega arith
before_before (Eq a b c) (Eq i j k) (Ne l m n) p q = absurd q
before_before (Eq a b c) (Eq i j k) (In l m n) p q = absurd q
before_before (Eq a b c) (Ne i j k) h p q = absurd p
before_before (Eq a b c) (In i j k) h p q = absurd p
before_before (Ne a b c) (Eq i j k) h p q = absurd p
before_before (Ne a b c) (In i j k) h p q = absurd p
before_before (Ne a b c) (Ne i j k) (Eq l m n) p q = absurd q
before_before (Ne a b c) (Ne i j k) (In l m n) p q = absurd q
before_before (Ne a b c) (Ne i j k) (Ne l m n) p q = elim p [
  | inl less ↦ elim q [
    | inl more ↦ inl (omega arith)
    | inr same ↦ let is = same.0 in inl (omega arith)
  ]
  | inr eq ↦ elim q [
    | inl more ↦ let is = eq.0 in inl (omega arith)
    | inr same ↦ inr (eq.0 ∙ same.0, second b.0 j.0 m.0 eq.1 same.1)
  ]
] where
  second : (b j m : ℕ) → (b < j) ⊎ ((b ≡ j) × (c <ℤ k)) → (j < m) ⊎ ((j ≡ m) × (k <ℤ n)) → (b < m) ⊎ ((b ≡ m) × (c <ℤ n))
  second b j m x y = elim x [
    | inl less ↦ elim y [
      | inl more ↦ inl (omega arith)
      | inr same ↦ let is = same.0 in inl (omega arith)
    ]
    | inr eq ↦ elim y [
      | inl more ↦ let is = eq.0 in inl (omega arith)
      | inr same ↦ let first = eq.1 in let last = same.1 in inr (eq.0 ∙ same.0, omega (arith, ints))
    ]
  ]
before_before (In a b c) (Eq i j k) h p q = absurd p
before_before (In a b c) (Ne i j k) h p q = absurd p
before_before (In a b c) (In i j k) (Eq l m n) p q = absurd q
before_before (In a b c) (In i j k) (Ne l m n) p q = absurd q
before_before (In a b c) (In i j k) (In l m n) p q = omega arith

-- ---- lists in order

order_rest : (x : Atom) (xs : List Atom) → AreInOrder (x ∷ xs) → AreInOrder xs
order_rest x [] o = tt
order_rest x (y ∷ ys) o = o.1

before_all : (x : Atom) (xs : List Atom) → AreInOrder (x ∷ xs) → (z : Atom) → Contains xs z → ComesBefore x z
before_all x [] o z c = absurd (among_none z c)
before_all x (y ∷ ys) o z c = elim (among_cases y ys z c) [
  | inl e ↦ subst (ComesBefore x) e o.0
  | inr more ↦ before_before x y z o.0 (before_all y ys o.1 z more)
]

-- the first atoms of two lists of the same atoms
first_same : (x y : Atom) (xs ys : List Atom) → AreInOrder (x ∷ xs) → AreInOrder (y ∷ ys) → Contains (y ∷ ys) x → Contains (x ∷ xs) y → x ≡ y
first_same x y xs ys o p c d = elim (among_cases y ys x c) [
  | inl e ↦ sym e
  | inr later ↦ elim (among_cases x xs y d) [
    | inl e ↦ e
    | inr after ↦ absurd (before_itself x (before_before x y x (before_all x xs o y after) (before_all y ys p x later)))
  ]
]

-- what one list has after its first atom, the other has after the same
rest_same : (x y : Atom) (xs ys : List Atom) → x ≡ y → AreInOrder (x ∷ xs) → (z : Atom) → Contains xs z → Contains (y ∷ ys) z → Contains ys z
rest_same x y xs ys same o z c d = elim (among_cases y ys z d) [
  | inl e ↦ absurd (before_itself z (subst (λ w. ComesBefore w z) (same ∙ e) (before_all x xs o z c)))
  | inr later ↦ later
]

pub one_list : (xs ys : List Atom) → AreInOrder xs → AreInOrder ys → ((z : Atom) → Contains xs z → Contains ys z) → ((z : Atom) → Contains ys z → Contains xs z) → xs ≡ ys
one_list [] [] o p to back = refl
one_list [] (y ∷ ys) o p to back = absurd (among_none y (back y (among_here y ys)))
one_list (x ∷ xs) [] o p to back = absurd (among_none x (to x (among_here x xs)))
one_list (x ∷ xs) (y ∷ ys) o p to back =
    let same : x ≡ y = first_same x y xs ys o p (to x (among_here x xs)) (back y (among_here y ys)) in
    let rest =
    one_list xs ys (order_rest x xs o) (order_rest y ys p)
    (λ z c. rest_same x y xs ys same o z c (to z (among_there x xs z c)))
    (λ z d. rest_same y x ys xs (sym same) p z d (back z (among_there y ys z d))) in
    ap₂ (λ z zs. z ∷ zs) same rest

-- two lists of what two properties say are one, where the properties say the same
pub same_listed : (P Q : Atom → Type 0) → ((f : Atom) → P f → Q f) → ((f : Atom) → Q f → P f) → (xs ys : List Atom) → AreListed P xs → AreListed Q ys → xs ≡ ys
same_listed P Q to back xs ys l m =
    one_list xs ys l.order m.order (λ z c. (m.exact z).1 (to z ((l.exact z).0 c))) (λ z d. (l.exact z).1 (back z ((m.exact z).0 d)))
