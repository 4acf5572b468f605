-- Insertion into a list that is in order, and what lists gain.
use Rattle.std.proofs.Common.{◌≡◌, ℕ, zero, suc, ◌⊎◌, ◌≤◌, ◌<◌, ◌+◌, List, [], ◌∷◌, ◌++◌, Option, Some, None, Result, Ok, Err, IfOk, slice_get, get_or, length, take, drop, refl, sym, ◌∙◌, ap, subst, inl, inr, arith}
use Rattle.std.proofs.lemmas.Int.{ints}
use Rattle.std.proofs.lemmas.Option.{slice_get_within, slice_get-get_or}
use Rattle.mc_base.specs.declared.plain.Atom.{Atom}
use Rattle.mc_base.specs.declared.plain.Atom.TheVariants.{Eq, Ne, In}
use Rattle.mc_pure.proofs.Changing.{same_node}
use Rattle.mc_pure_ops.specs.Canon.Order.{Among, key, IsBefore, AreSorted, FitsAfter, FitsBefore, Added, IsSomeOf, GivesAtMost}

-- keys that are the same are of one atom
pub key_same : (f g : Atom) → (key f).rank ≡ (key g).rank → (key f).node ≡ (key g).node → (key f).second ≡ (key g).second → (key f).third ≡ (key g).third → f ≡ g
key_same (In a l h) (In b m k) p q r s = let e = same_node a b q in cc
key_same (Eq a b c) (Eq x y z) p q r s = let d = same_node a x q in let n : b.0 ≡ y.0 = omega (arith, ints) in let e = same_node b y n in cc
key_same (Ne a b c) (Ne x y z) p q r s = let d = same_node a x q in let n : b.0 ≡ y.0 = omega (arith, ints) in let e = same_node b y n in cc
key_same (In a l h) (Eq x y z) p q r s = absurd (omega arith)
key_same (In a l h) (Ne x y z) p q r s = absurd (omega arith)
key_same (Eq a b c) (In x l h) p q r s = absurd (omega arith)
key_same (Eq a b c) (Ne x y z) p q r s = absurd (omega arith)
key_same (Ne a b c) (In x l h) p q r s = absurd (omega arith)
key_same (Ne a b c) (Eq x y z) p q r s = absurd (omega arith)

-- an atom put between those before it and those after it
pub in_order : (fs : List Atom) (i : ℕ) (f : Atom) → i ≤ length fs → AreSorted fs → FitsAfter fs f i → FitsBefore fs f i → AreSorted (take i fs ++ f ∷ drop i fs)
in_order [] zero f l o b a = tt
in_order [] (suc i) f l o b a = tt
in_order (g ∷ fs) zero f l o b a = (a g refl, o)
in_order (g ∷ []) (suc zero) f l o b a = (b zero g refl refl, tt)
in_order (g ∷ []) (suc (suc i)) f l o b a = absurd (omega arith)
in_order (g ∷ h ∷ fs) (suc zero) f l o b a = (b zero g refl refl, (a h refl, o.1))
in_order (g ∷ h ∷ fs) (suc (suc i)) f l o b a = (o.0, in_order (h ∷ fs) (suc i) f (omega arith) o.1 (λ k x e m. b (suc k) x (ap suc e) m) a)

-- what the longer list has
among_put : (fs : List Atom) (i : ℕ) (f : Atom) → Among (take i fs ++ f ∷ drop i fs) f
among_put [] zero f = (zero, refl)
among_put [] (suc i) f = (zero, refl)
among_put (g ∷ fs) zero f = (zero, refl)
among_put (g ∷ fs) (suc i) f = let k = among_put fs i f in (suc k.0, k.1)

among_kept : (fs : List Atom) (i : ℕ) (f g : Atom) → Among fs g → Among (take i fs ++ f ∷ drop i fs) g
among_kept fs i f g m = kept fs i m.0 m.1
  where
    kept : (fs : List Atom) (i k : ℕ) → slice_get fs k ≡ Some g → Among (take i fs ++ f ∷ drop i fs) g
    kept [] i k e = cc
    kept (x ∷ fs) zero k e = (suc k, e)
    kept (x ∷ fs) (suc i) zero e = (zero, e)
    kept (x ∷ fs) (suc i) (suc k) e = let m = kept fs i k e in (suc m.0, m.1)

among_from : (fs : List Atom) (i : ℕ) (f g : Atom) → Among (take i fs ++ f ∷ drop i fs) g → Among fs g ⊎ (g ≡ f)
among_from fs i f g m = from fs i m.0 m.1
  where
    later : (x : Atom) (fs : List Atom) → Among fs g ⊎ (g ≡ f) → Among (x ∷ fs) g ⊎ (g ≡ f)
    later x fs (inl k) = inl (suc k.0, k.1)
    later x fs (inr k) = inr k

    from : (fs : List Atom) (i k : ℕ) → slice_get (take i fs ++ f ∷ drop i fs) k ≡ Some g → Among fs g ⊎ (g ≡ f)
    from [] zero zero e = inr cc
    from [] zero (suc k) e = cc
    from [] (suc i) zero e = inr cc
    from [] (suc i) (suc k) e = cc
    from (x ∷ fs) zero zero e = inr cc
    from (x ∷ fs) zero (suc k) e = inl (k, e)
    from (x ∷ fs) (suc i) zero e = inl (zero, e)
    from (x ∷ fs) (suc i) (suc k) e = later x fs (from fs i k e)

pub put_added : (fs : List Atom) (i : ℕ) (f : Atom) → i ≤ length fs → FitsAfter fs f i → FitsBefore fs f i → Added (λ g. g ≡ f) fs (take i fs ++ f ∷ drop i fs)
put_added fs i f l b a = record {
  order = λ o. in_order fs i f l o b a;
  from = among_from fs i f;
  kept = among_kept fs i f;
  added = λ g e. subst (λ (x : Atom). Among (take i fs ++ f ∷ drop i fs) x) (sym e) (among_put fs i f);
}

pub there_added : (fs : List Atom) (f : Atom) → Among fs f → Added (λ g. g ≡ f) fs fs
there_added fs f m = record {
  order = λ o. o;
  from = λ g k. inl k;
  kept = λ g k. k;
  added = λ g e. subst (λ (x : Atom). Among fs x) (sym e) m;
}

-- one after the other
pub added_both : (P Q R : Atom → Type 0) (a b c : List Atom) → ((g : Atom) → R g → P g ⊎ Q g) → ((g : Atom) → P g ⊎ Q g → R g) → Added P a b → Added Q b c → Added R a c
added_both P Q R a b c split join p q = record {
  order = λ o. q.order (p.order o);
  from = λ g m. elim (q.from g m) [
    | inl x ↦ elim (p.from g x) [ inl y ↦ inl y | inr y ↦ inr (join g (inl y)) ]
    | inr x ↦ inr (join g (inr x))
  ];
  kept = λ g m. q.kept g (p.kept g m);
  added = λ g r. elim (split g r) [ inl x ↦ q.kept g (p.added g x) | inr x ↦ q.added g x ];
}

pub added_as : (P Q : Atom → Type 0) (a b : List Atom) → ((g : Atom) → Q g → P g) → ((g : Atom) → P g → Q g) → Added P a b → Added Q a b
added_as P Q a b to from p = record {
  order = p.order;
  from = λ g m. elim (p.from g m) [ inl x ↦ inl x | inr x ↦ inr (from g x) ];
  kept = p.kept;
  added = λ g q. p.added g (to g q);
}

pub added_none : (P : Atom → Type 0) (a : List Atom) → ((g : Atom) → P g → ⊥) → Added P a a
added_none P a never = record { order = λ o. o; from = λ g m. inl m; kept = λ g m. m; added = λ g p. absurd (never g p) }

pub some_added : (P : Atom → Type 0) (o : Option Atom) (a b : List Atom) → GivesAtMost P o → Added (IsSomeOf o) a b → Added P a b
some_added P None a b m x = added_as (IsSomeOf None) P a b (λ g p. m g p) (λ g k. absurd k) x
some_added P (Some f) a b m x = added_as (IsSomeOf (Some f)) P a b (λ g p. m.1 g p) (λ g e. subst P (sym e) m.0) x

-- what those below a number give
abbrev pub Below : (ℕ → Atom → Type 0) → ℕ → Atom → Type 0
Below R n g = (k : ℕ) × (k < n) × R k g

split : (k n : ℕ) → k < n + 1 → (k < n) ⊎ (k ≡ n)
split k n l = grind arith

pub below_none : (R : ℕ → Atom → Type 0) (a : List Atom) → Added (Below R 0) a a
below_none R a = added_none (Below R 0) a (λ g u. let l = u.1 in omega arith)

pub below_more : (R : ℕ → Atom → Type 0) (n : ℕ) (a b c : List Atom) → Added (Below R n) a b → Added (R n) b c → Added (Below R (n + 1)) a c
below_more R n a b c p q =
    added_both (Below R n) (R n) (Below R (n + 1)) a b c
    (λ g u. elim (split u.0 n u.1) [ inl l ↦ inl (u.0, l, u.2) | inr e ↦ inr (subst (λ (z : ℕ). R z g) e u.2) ])
    (λ g s. elim s [ inl u ↦ (let l = u.1 in (u.0, omega arith, u.2)) | inr r ↦ (n, omega arith, r) ])
    p q

-- the same of the elements of a list
abbrev pub Upto : {X : Type 0} → (X → Atom → Type 0) → List X → ℕ → Atom → Type 0
Upto {X} R xs = Below (λ k g. (x : X) × (slice_get xs k ≡ Some x) × R x g)

some_same : {X : Type 0} (x y : X) → Some x ≡ Some y → x ≡ y
some_same x y e = cc

pub upto_more : {X : Type 0} (R : X → Atom → Type 0) (xs : List X) (i : ℕ) (d : X) (a b c : List Atom) → i < length xs → Added (Upto R xs i) a b → Added (R (get_or xs i d)) b c → Added (Upto R xs (i + 1)) a c
upto_more {X} R xs i d a b c l p q =
    let e = slice_get-get_or xs i d l in
    let S : ℕ → Atom → Type 0 = λ k g. (x : X) × (slice_get xs k ≡ Some x) × R x g in
    below_more S i a b c p
    (added_as (R (get_or xs i d)) (S i) b c
    (λ g s. subst (λ (z : X). R z g) (some_same s.0 (get_or xs i d) (sym s.1 ∙ e)) s.2)
    (λ g r. (get_or xs i d, e, r))
    q)

pub upto_all : {X : Type 0} (R : X → Atom → Type 0) (xs : List X) (i : ℕ) (a b : List Atom) → length xs ≤ i → Added (Upto R xs i) a b → Added (λ g. (x : X) × ((k : ℕ) × (slice_get xs k ≡ Some x)) × R x g) a b
upto_all {X} R xs i a b l p =
    added_as (Upto R xs i) (λ g. (x : X) × ((k : ℕ) × (slice_get xs k ≡ Some x)) × R x g) a b
    (λ g u. (let h = slice_get_within xs u.1.0 u.0 u.1.1 in (u.1.0, omega arith, (u.0, u.1.1, u.2))))
    (λ g u. (u.2.0, (u.0, u.2.1), u.2.2))
    p

-- the places beside an atom of the list
pub after_here : (fs : List Atom) (f d : Atom) (i : ℕ) → i < length fs → IsBefore (get_or fs i d) f → FitsAfter fs f (i + 1)
after_here fs f d i l b k g e m =
    let s : k ≡ i = omega arith in
    let h : slice_get fs i ≡ Some g = subst (λ (z : ℕ). slice_get fs z ≡ Some g) s m in
    let q = some_same (get_or fs i d) g (sym (slice_get-get_or fs i d l) ∙ h) in
    subst (λ (z : Atom). IsBefore z f) q b

pub before_here : (fs : List Atom) (f d : Atom) (i : ℕ) → i < length fs → IsBefore f (get_or fs i d) → FitsBefore fs f i
before_here fs f d i l b g m =
    let q = some_same (get_or fs i d) g (sym (slice_get-get_or fs i d l) ∙ m) in
    subst (λ (z : Atom). IsBefore f z) q b

pub there_here : (fs : List Atom) (f d : Atom) (i : ℕ) → i < length fs → (key (get_or fs i d)).rank ≡ (key f).rank → (key (get_or fs i d)).node ≡ (key f).node → (key (get_or fs i d)).second ≡ (key f).second → (key (get_or fs i d)).third ≡ (key f).third → Among fs f
there_here fs f d i l p q r s =
    let e = key_same (get_or fs i d) f p q r s in
    (i, subst (λ (z : Atom). slice_get fs i ≡ Some z) e (slice_get-get_or fs i d l))

pub if_ok : {A E : Type 0} (r : Result A E) (P Q : A → Type 0) → ((a : A) → P a → Q a) → IfOk r P → IfOk r Q
if_ok (Ok a) P Q f p = f a p
if_ok (Err e) P Q f p = p

pub at_most_as : (P Q : Atom → Type 0) (o : Option Atom) → ((g : Atom) → P g → Q g) → ((g : Atom) → Q g → P g) → GivesAtMost P o → GivesAtMost Q o
at_most_as P Q None to from m = λ g q. m g (from g q)
at_most_as P Q (Some f) to from m = (to f m.0, λ g q. m.1 g (from g q))
