-- The one test that tells what is entailed in a state.
use Rattle.std.specs.Prelude.{◌≡◌, ◌↔◌, Bool, true, false}
use mathlib.Core.Path.{refl, sym}
use mathlib.Core.Bool.{Bool-set}
use mathlib.Core.HLevel.{→_set, Σ_prop_path}
use mathlib.Core.Logic.{∥∥₁_elim, ∥∥₁_prop}
use mathlib.Core.Path.{fun_ext}
use Rattle.mc_state.specs.State.{State}
use Rattle.mc_state.specs.Known.{Test, Tells}

-- a test, of which it is known that it tells what is entailed in the state
abbrev pub IsTold : State → Type 0
IsTold s = (know : Test) × ∥ Tells know s ∥₁

same_test : (a b : Bool) → (a ≡ true → b ≡ true) → (b ≡ true → a ≡ true) → a ≡ b
same_test true b f g = sym (f refl)
same_test false true f g = g refl
same_test false false f g = refl

-- tests that tell what is entailed are one
pub same_tests : (know other : Test) (s : State) → Tells know s → Tells other s → know ≡ other
same_tests know other s one two = fun_ext (λ f. same_test (know f) (other f) (λ e. (two f).1 ((one f).0 e)) (λ e. (one f).1 ((two f).0 e)))

-- there is no other such test
pub told_once : (s : State) → IsProp (IsTold s)
told_once s u v =
    Σ_prop_path (λ know. ∥∥₁_prop)
    (∥∥₁_elim u.1 (→_set Bool-set u.0 v.0) (λ one. ∥∥₁_elim v.1 (→_set Bool-set u.0 v.0) (λ two. same_tests u.0 v.0 s one two)))
