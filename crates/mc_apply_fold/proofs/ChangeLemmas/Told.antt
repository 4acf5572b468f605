-- What is known of a state's nodes says what the state entails.
use Rattle.std.proofs.Common.{◌↔◌, inl, inr}
use Rattle.mc_base.specs.declared.plain.Atom.{Atom}
use Rattle.mc_pure.specs.Pure.{Pure}
use Rattle.mc_pure.specs.Derived.{Derived, Follows}
use Rattle.mc_pure.specs.Derived.{IsFalse as IsFalsePure}
use Rattle.mc_state.specs.Facts.{Derives, IsFalse}
use Rattle.mc_state.specs.State.{State, pure_of}

-- where the same follows, the same is entailed
pub same_derived : (p : Pure) (s : State) → ((f : Atom) → Follows p f ↔ Follows (pure_of s) f) → (IsFalsePure p ↔ IsFalse s) → (f : Atom) → Derived p f ↔ Derives s f
same_derived p s follows wrong f = (
  λ h. elim h [
    | inl g ↦ inl ((follows f).0 g)
    | inr w ↦ inr (wrong.0 w)
  ],
  λ h. elim h [
    | inl g ↦ inl ((follows f).1 g)
    | inr w ↦ inr (wrong.1 w)
  ],
)
