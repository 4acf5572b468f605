-- Tests of what is known, and what is entailed.
use Rattle.std.proofs.Common.{◌≡◌, inl, inr, List, [], ◌∷◌, Bool, true, false, not, ◌&&◌, Option, Some, None, pos, refl, ap, sym, ◌∙◌, eqb-true}
use Rattle.std.specs.Prelude.{◌==◌, if◌then◌else◌}
use Rattle.std.specs.List.{list_all, AllByRecursion}
use Rattle.mc_base.specs.declared.ids.NodeId.{NodeId}
use Rattle.mc_base.specs.declared.plain.Kind.{Kind}
use Rattle.mc_base.specs.declared.plain.Kind.TheVariants.{Int, Ptr}
use Rattle.mc_base.specs.declared.plain.Atom.TheVariants.{Eq, Ne}
use Rattle.mc_base.specs.Nodes.{null}
use Rattle.mc_pure.specs.Pure.{Kinds, HasKind, kind_of}
use Rattle.mc_pure.specs.Derived as pure
use Rattle.mc_state.specs.State.{State}
use Rattle.mc_state.specs.Facts.{IsFalse, AreEqual, AreAllEqual}
use Rattle.mc_state.specs.Known.{Test, Tells, is_false, equal, all_equal, same_kind, is_kind, has_kind}
use Rattle.mc_state.specs.Told.{FalseIsTold, EqualIsTold, AllEqualIsTold, KindIsTold}

-- both tests of an `&&` hold
pub and_both : (a b : Bool) → (a && b) ≡ true → (a ≡ true) × (b ≡ true)
and_both true b e = (refl, e)
and_both false b e = absurd (cc e)

pub and_yes : (a b : Bool) → a ≡ true → b ≡ true → (a && b) ≡ true
and_yes a b p q = ap (λ a. a && b) p ∙ q

pub not_yes : (b : Bool) → (b ≡ true → ⊥) → not b ≡ true
not_yes true no' = absurd (no' refl)
not_yes false no' = refl

module _ (know : Test) (s : State) (tells : Tells know s) where
  -- a state that passes the second premise is not false
  pub not_false : not (is_false know) ≡ true → IsFalse s → ⊥
  not_false e wrong =
      let shown : is_false know ≡ true = (tells (Ne null null (pos 0))).1 (inr wrong) in
      let other : not true ≡ true = ap not (sym shown) ∙ e in
      cc other

  -- and one that is not false passes it
  pub is_sound : (IsFalse s → ⊥) → not (is_false know) ≡ true
  is_sound sound =
      not_yes (is_false know) (λ e. elim ((tells (Ne null null (pos 0))).0 e) [ inl f ↦ sound (pure.IsFalse.apart f) | inr wrong ↦ sound wrong ])

  pub equal_from : (a b : NodeId) → equal know a b ≡ true → AreEqual s a b
  equal_from a b e = (tells (Eq a b (pos 0))).0 e

  pub equal_to : (a b : NodeId) → AreEqual s a b → equal know a b ≡ true
  equal_to a b e = (tells (Eq a b (pos 0))).1 e

  pub all_equal_from : (xs ys : List NodeId) → all_equal know xs ys ≡ true → AreAllEqual s xs ys
  all_equal_from [] [] e = tt
  all_equal_from [] (y ∷ ys) e = absurd (cc e)
  all_equal_from (x ∷ xs) [] e = absurd (cc e)
  all_equal_from (x ∷ xs) (y ∷ ys) e =
      let both = and_both (equal know x y) (all_equal know xs ys) e in
      (equal_from x y both.0, all_equal_from xs ys both.1)

  pub all_equal_to : (xs ys : List NodeId) → AreAllEqual s xs ys → all_equal know xs ys ≡ true
  all_equal_to [] [] a = refl
  all_equal_to [] (y ∷ ys) a = absurd a
  all_equal_to (x ∷ xs) [] a = absurd a
  all_equal_to (x ∷ xs) (y ∷ ys) a = and_yes (equal know x y) (all_equal know xs ys) (equal_to x y a.0) (all_equal_to xs ys a.1)

pub not_no : (b : Bool) → not b ≡ true → b ≡ false
not_no true e = absurd (cc e)
not_no false e = refl

-- what a test says of each of a list
pub each_from : {X : Type 0} (test : X → Bool) (P : X → Type 0) → ((x : X) → test x ≡ true → P x) → (xs : List X) → list_all test xs ≡ true → AllByRecursion P xs
each_from test P f [] e = tt
each_from test P f (x ∷ xs) e = let both = and_both (test x) (list_all test xs) e in (f x both.0, each_from test P f xs both.1)

pub each_to : {X : Type 0} (test : X → Bool) (P : X → Type 0) → ((x : X) → P x → test x ≡ true) → (xs : List X) → AllByRecursion P xs → list_all test xs ≡ true
each_to test P f [] a = refl
each_to test P f (x ∷ xs) a = and_yes (test x) (list_all test xs) (f x a.0) (each_to test P f xs a.1)

same_kind_from : (a b : Kind) → same_kind a b ≡ true → a ≡ b
same_kind_from Int Int e = refl
same_kind_from Int Ptr e = absurd (cc e)
same_kind_from Ptr Int e = absurd (cc e)
same_kind_from Ptr Ptr e = refl

same_kind_self : (a : Kind) → same_kind a a ≡ true
same_kind_self Int = refl
same_kind_self Ptr = refl

pub has_kind_from : (kinds : Kinds) (kind : Kind) (n : NodeId) → has_kind kinds kind n ≡ true → HasKind kinds kind n
unfolding has_kind
has_kind_from kinds kind n e = at (n.0 == 0) refl e
  where
    some : (o : Option Kind) → is_kind kind o ≡ true → o ≡ Some kind
    some None e = absurd (cc e)
    some (Some own) e = ap (λ k. Some k) (same_kind_from own kind e)

    at : (b : Bool) → (n.0 == 0) ≡ b → (if b then true else is_kind kind (kind_of kinds n)) ≡ true → HasKind kinds kind n
    at true is e = inl (ap (λ k. record { 0 = k }) (eqb-true n.0 0 is))
    at false is e = inr (some (kind_of kinds n) e)

pub has_kind_to : (kinds : Kinds) (kind : Kind) (n : NodeId) → HasKind kinds kind n → has_kind kinds kind n ≡ true
unfolding has_kind
has_kind_to kinds kind n (inl e) = ap (λ (m : NodeId). if m.0 == 0 then true else is_kind kind (kind_of kinds m)) e
has_kind_to kinds kind n (inr e) = at (n.0 == 0)
  where
    at : (b : Bool) → (if b then true else is_kind kind (kind_of kinds n)) ≡ true
    at true = refl
    at false = ap (is_kind kind) e ∙ same_kind_self kind

pub false_told : FalseIsTold
false_told know s tells =
    (λ e. elim ((tells (Ne null null (pos 0))).0 e) [ inl f ↦ pure.IsFalse.apart f | inr wrong ↦ wrong ], λ wrong. (tells (Ne null null (pos 0))).1 (inr wrong))

pub equal_told : EqualIsTold
equal_told know s a b tells = (equal_from know s tells a b, equal_to know s tells a b)

pub all_equal_told : AllEqualIsTold
all_equal_told know s xs ys tells = (all_equal_from know s tells xs ys, all_equal_to know s tells xs ys)

pub kind_told : KindIsTold
kind_told kinds kind n = (has_kind_from kinds kind n, has_kind_to kinds kind n)
