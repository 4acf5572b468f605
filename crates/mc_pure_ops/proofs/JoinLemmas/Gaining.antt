-- What is written down besides, step by step.
use Rattle.std.proofs.Common.{◌≡◌, ℕ, zero, suc, ◌⊎◌, ◌<◌, ◌+◌, ◌++◌, List, [], ◌∷◌, Option, Some, None, slice_get, get_or, length, refl, sym, ◌∙◌, subst, inl, inr, arith}
use Rattle.std.proofs.lemmas.Option.{slice_get-get_or}
use Rattle.mc_base.specs.declared.plain.Atom.{Atom}
use Rattle.mc_pure.specs.Pure.{Pure, Kinds, IsWellFormed}
use Rattle.mc_pure.specs.Known.{with_atom}
use Rattle.mc_pure_ops.specs.Canon.Order.{Among, IsSomeOf, GivesAtMost}
use Rattle.mc_pure_ops.specs.Join.Gains.{Gains}
use Rattle.mc_pure_ops.specs.Join.Parts.{Below, AtPlace}

-- after a list
last_among : (fs : List Atom) (f : Atom) → Among (fs ++ f ∷ []) f
last_among [] f = (zero, refl)
last_among (g ∷ fs) f = let h = last_among fs f in (suc h.0, h.1)

kept_among : (fs : List Atom) (f : Atom) (i : ℕ) (g : Atom) → slice_get fs i ≡ Some g → slice_get (fs ++ f ∷ []) i ≡ Some g
kept_among [] f i g e = cc
kept_among (h ∷ fs) f zero g e = e
kept_among (h ∷ fs) f (suc i) g e = kept_among fs f i g e

some_atom : {x y : Atom} → Some x ≡ Some y → x ≡ y
some_atom e = cc

from_among : (fs : List Atom) (f : Atom) (i : ℕ) (g : Atom) → slice_get (fs ++ f ∷ []) i ≡ Some g → Among fs g ⊎ (g ≡ f)
from_among [] f zero g e = inr (sym (some_atom e))
from_among [] f (suc i) g e = cc
from_among (h ∷ fs) f zero g e = inl (zero, e)
from_among (h ∷ fs) f (suc i) g e = later (from_among fs f i g e)
  where
    later : Among fs g ⊎ (g ≡ f) → Among (h ∷ fs) g ⊎ (g ≡ f)
    later (inl x) = inl (suc x.0, x.1)
    later (inr x) = inr x

pub gains_one : (old new : Pure) (atom : Atom) → IsWellFormed old.kinds atom → new ≡ with_atom old atom → Gains (λ f. f ≡ atom) old new
gains_one old new atom w e = subst (λ (z : Pure). Gains (λ f. f ≡ atom) old z) (sym e) (record {
  kinds = refl;
  starts = refl;
  from = λ f m. elim (from_among old.written atom m.0 f m.1) [
    | inl x ↦ inl x
    | inr x ↦ inr (subst (λ (z : Atom). IsWellFormed old.kinds z) (sym x) w, x)
  ];
  kept = λ f m. (m.0, kept_among old.written atom m.0 f m.1);
  added = λ f v x. subst (λ (z : Atom). Among (old.written ++ atom ∷ []) z) (sym x) (last_among old.written atom);
})

pub gains_nothing : (P : Atom → Type 0) (old : Pure) → ((f : Atom) → IsWellFormed old.kinds f → P f → ⊥) → Gains P old old
gains_nothing P old never = record {
  kinds = refl;
  starts = refl;
  from = λ f m. inl m;
  kept = λ f m. m;
  added = λ f w p. absurd (never f w p);
}

pub gains_none : (old : Pure) (atom : Atom) → (IsWellFormed old.kinds atom → ⊥) → Gains (λ f. f ≡ atom) old old
gains_none old atom h = gains_nothing (λ f. f ≡ atom) old (λ f w e. h (subst (λ (z : Atom). IsWellFormed old.kinds z) e w))

-- one after the other
pub gains_both : (P Q R : Atom → Type 0) (a b c : Pure) → ((f : Atom) → R f → P f ⊎ Q f) → ((f : Atom) → P f ⊎ Q f → R f) → Gains P a b → Gains Q b c → Gains R a c
gains_both P Q R a b c split join p q = record {
  kinds = q.kinds ∙ p.kinds;
  starts = q.starts ∙ p.starts;
  from = λ f m. elim (q.from f m) [
    | inl x ↦ elim (p.from f x) [ inl y ↦ inl y | inr y ↦ inr (y.0, join f (inl y.1)) ]
    | inr x ↦ inr (subst (λ (z : Kinds). IsWellFormed z f) p.kinds x.0, join f (inr x.1))
  ];
  kept = λ f m. q.kept f (p.kept f m);
  added = λ f w r. elim (split f r) [
    | inl x ↦ q.kept f (p.added f w x)
    | inr x ↦ q.added f (subst (λ (z : Kinds). IsWellFormed z f) (sym p.kinds) w) x
  ];
}

pub gains_as : (P Q : Atom → Type 0) (a b : Pure) → ((f : Atom) → Q f → P f) → ((f : Atom) → P f → Q f) → Gains P a b → Gains Q a b
gains_as P Q a b to from p = record {
  kinds = p.kinds;
  starts = p.starts;
  from = λ f m. elim (p.from f m) [ inl x ↦ inl x | inr x ↦ inr (x.0, from f x.1) ];
  kept = p.kept;
  added = λ f w q. p.added f w (to f q);
}

pub gains_some : (P : Atom → Type 0) (o : Option Atom) (a b : Pure) → GivesAtMost P o → Gains (IsSomeOf o) a b → Gains P a b
gains_some P None a b m x = gains_as (IsSomeOf None) P a b (λ f p. m f p) (λ f k. absurd k) x
gains_some P (Some g) a b m x = gains_as (IsSomeOf (Some g)) P a b (λ f p. m.1 f p) (λ f e. subst P (sym e) m.0) x

pub gains_some_of : (atom : Atom) (o : Option Atom) (a b : Pure) → o ≡ Some atom → Gains (λ f. f ≡ atom) a b → Gains (IsSomeOf o) a b
gains_some_of atom o a b e g = subst (λ (z : Option Atom). Gains (IsSomeOf z) a b) (sym e) g

pub gains_none_of : (o : Option Atom) (a : Pure) → o ≡ None → Gains (IsSomeOf o) a a
gains_none_of o a e = subst (λ (z : Option Atom). Gains (IsSomeOf z) a a) (sym e) (gains_nothing (IsSomeOf None) a (λ f w x. x))

-- loops
split : (k n : ℕ) → k < n + 1 → (k < n) ⊎ (k ≡ n)
split k n l = grind arith

pub below_none : (R : ℕ → Atom → Type 0) (a : Pure) → Gains (Below R 0) a a
below_none R a = gains_nothing (Below R 0) a (λ f w u. let l = u.1 in omega arith)

pub below_more : (R : ℕ → Atom → Type 0) (n : ℕ) (a b c : Pure) → Gains (Below R n) a b → Gains (R n) b c → Gains (Below R (n + 1)) a c
below_more R n a b c p q =
    gains_both (Below R n) (R n) (Below R (n + 1)) a b c
    (λ f u. elim (split u.0 n u.1) [ inl l ↦ inl (u.0, l, u.2) | inr e ↦ inr (subst (λ (z : ℕ). R z f) e u.2) ])
    (λ f s. elim s [ inl u ↦ (let l = u.1 in (u.0, omega arith, u.2)) | inr r ↦ (n, omega arith, r) ])
    p q

pub below_all : (R : ℕ → Atom → Type 0) (n m : ℕ) (a b : Pure) → n ≡ m → Gains (Below R n) a b → Gains (Below R m) a b
below_all R n m a b e g = subst (λ (z : ℕ). Gains (Below R z) a b) e g

some_same : {X : Type 0} (x y : X) → Some x ≡ Some y → x ≡ y
some_same x y e = cc

pub place_more : {X : Type 0} (R : X → Atom → Type 0) (xs : List X) (i : ℕ) (d : X) (a b c : Pure) → i < length xs → Gains (Below (AtPlace R xs) i) a b → Gains (R (get_or xs i d)) b c → Gains (Below (AtPlace R xs) (i + 1)) a c
place_more {X} R xs i d a b c l p q =
    let e = slice_get-get_or xs i d l in
    below_more (AtPlace R xs) i a b c p
    (gains_as (R (get_or xs i d)) (AtPlace R xs i) b c
    (λ f s. subst (λ (z : X). R z f) (some_same s.0 (get_or xs i d) (sym s.1 ∙ e)) s.2)
    (λ f r. (get_or xs i d, e, r))
    q)
