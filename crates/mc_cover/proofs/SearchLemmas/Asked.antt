-- What is asked of what is known of the nodes, a test tells.
use Rattle.std.proofs.Common.{◌≡◌, ◌+◌, ◌≤◌, arith, ℕ, ℤ, inl, inr, Bool, true, false, refl, sym, ◌∙◌}
use Rattle.std.specs.Prelude.{◌↔◌, ◌-ℤ◌, IsTrue}
use mathlib.Core.Bool.{Bool-set}
use mathlib.Core.HLevel.{→_set}
use mathlib.Core.Logic.{∥∥₁_elim}
use Rattle.std.proofs.Common.{subst}
use Rattle.mc_base.specs.declared.ids.NodeId.{NodeId}
use Rattle.mc_base.specs.declared.plain.Atom.{Atom}
use Rattle.mc_base.specs.declared.plain.Atom.TheVariants.{Eq, Ne, In}
use Rattle.mc_pure.specs.declared.ask.Term.{Term as Asking}
use Rattle.mc_pure.specs.Pure.{Pure}
use Rattle.mc_pure.specs.Derived.{Follows, Derived, IsFalse}
use Rattle.mc_pure.specs.Classes.{TellsDerived}
use Rattle.mc_state.specs.declared.terms.Term.{Term}
use Rattle.mc_state.specs.State.{State, pure_of}
use Rattle.mc_state.specs.Known.{Test, Tells}
use Rattle.mc_cover.specs.Terms.{equal_terms}
use Rattle.mc_cover.specs.Search.Told.{same_tests}

same : {D : Type 0} (b c : Bool) → (IsTrue b ↔ D) → ((c ≡ true) ↔ D) → b ≡ c
same true true p q = refl
same true false p q = let w : false ≡ true = q.1 (p.0 refl) in absurd (cc w)
same false true p q = let w : false ≡ true = p.1 (q.0 refl) in absurd (cc w)
same false false p q = refl

module _ (s : State) (p : Pure) (follows : (f : Atom) → Follows p f ↔ Follows (pure_of s) f) (is_false : IsFalse p ↔ IsFalse (pure_of s)) where
  derived : (f : Atom) → Derived p f ↔ Derived (pure_of s) f
  derived f =
      ((λ d. elim d [ inl x ↦ inl ((follows f).0 x) | inr x ↦ inr (is_false.0 x) ]), (λ d. elim d [ inl x ↦ inl ((follows f).1 x) | inr x ↦ inr (is_false.1 x) ]))

  -- a test of what is entailed from the one tells what is entailed in the other
  pub is_tell : (know : Test) → TellsDerived p know → Tells know s
  is_tell know t f = ((λ e. (derived f).0 ((t f).0 e)), (λ d. (t f).1 ((derived f).1 d)))

  pub told : (know : Test) → Tells know s → (f : Atom) (b : Bool) → (IsTrue b ↔ Derived p f) → b ≡ know f
  told know t f b h = same b (know f) ((λ e. (derived f).0 (h.0 e)), (λ d. h.1 ((derived f).1 d))) (t f)

  pub told_equal : (know : Test) → Tells know s → (t u : Term) (a b : Asking) (r : Bool) → a.node ≡ t.node → a.add ≡ t.add → b.node ≡ u.node → b.add ≡ u.add
      → (IsTrue r ↔ Derived p (Eq a.node b.node (b.add -ℤ a.add))) → r ≡ equal_terms know t u
  told_equal know tells t u a b r n1 a1 n2 a2 h = rw (n1, a1, n2, a2) at (told know tells (Eq a.node b.node (b.add -ℤ a.add)) r h)

  pub told_differ : (know : Test) → Tells know s → (t u : Term) (a b : Asking) (r : Bool) → a.node ≡ t.node → a.add ≡ t.add → b.node ≡ u.node → b.add ≡ u.add
      → (IsTrue r ↔ Derived p (Ne a.node b.node (b.add -ℤ a.add))) → r ≡ know (Ne t.node u.node (u.add -ℤ t.add))
  told_differ know tells t u a b r n1 a1 n2 a2 h = rw (n1, a1, n2, a2) at (told know tells (Ne a.node b.node (b.add -ℤ a.add)) r h)

  pub told_within : (know : Test) → Tells know s → (t : Term) (a : Asking) (lo hi : ℤ) (r : Bool) → a.node ≡ t.node → a.add ≡ t.add
      → (IsTrue r ↔ Derived p (In a.node (lo -ℤ a.add) (hi -ℤ a.add))) → r ≡ know (In t.node (lo -ℤ t.add) (hi -ℤ t.add))
  told_within know tells t a lo hi r n1 a1 h = rw (n1, a1) at (told know tells (In a.node (lo -ℤ a.add) (hi -ℤ a.add)) r h)

-- where there is such a test, the one that is known to be one tells what is entailed
pub settled : (s : State) → ((k : Test) × Tells k s) → (know : Test) → ∥ Tells know s ∥₁ → Tells know s
settled s k know t = subst (λ x. Tells x s) (∥∥₁_elim t (→_set Bool-set k.0 know) (λ own. same_tests k.0 know s k.1 own)) k.1

pub le_left : (a b : ℕ) → a ≤ a + b
le_left a b = omega arith

pub le_right : (a b : ℕ) → b ≤ a + b
le_right a b = omega arith
