-- Premises with numbers.
use Rattle.std.proofs.Common.{◌≡◌, ◌⊎◌, inl, inr, ℕ, Bool, true, false, Option, Some, None, refl, ap}
use Rattle.std.specs.Prelude.{Ok, Err}
use Rattle.mc_state.specs.Premises.{Judged, IsJudged, need, have, then_give}

module _ {A : Type 0} where
  -- what is given came past a test that held
  pub need_ok : (k : ℕ) (b : Bool) (rest : Judged A) (a : A) → need k b rest ≡ Ok a → (b ≡ true) × (rest ≡ Ok a)
  need_ok k true rest a e = (refl, e)
  need_ok k false rest a e = absurd (cc e)

  -- what is refused is refused by a test that failed, or after one that held
  pub need_err : (k : ℕ) (b : Bool) (rest : Judged A) (j : ℕ) → need k b rest ≡ Err j → ((b ≡ false) × (k ≡ j)) ⊎ ((b ≡ true) × (rest ≡ Err j))
  need_err k true rest j e = inr (refl, e)
  need_err k false rest j e = inl (refl, cc e)

  -- and a test that holds is passed
  pub need_yes : (k : ℕ) (b : Bool) (rest : Judged A) → b ≡ true → need k b rest ≡ rest
  need_yes k b rest e = ap (λ b. need k b rest) e

  -- what is given is given once
  pub given_once : (j : Judged A) (a b : A) → j ≡ Ok a → j ≡ Ok b → a ≡ b
  given_once j a b p q = cc (p, q)

  -- nothing is both given and refused
  pub given_not_unmet : (j : Judged A) (a : A) (k : ℕ) → j ≡ Ok a → j ≡ Err k → ⊥
  given_not_unmet j a k p q = cc (p, q)

  -- one of the two is the case
  pub given_or_unmet : (j : Judged A) → ((a : A) × (j ≡ Ok a)) ⊎ ((k : ℕ) × (j ≡ Err k))
  given_or_unmet (Ok a) = inl (a, refl)
  given_or_unmet (Err k) = inr (k, refl)

module _ {W A : Type 0} where
  -- what is given came from a witness
  pub have_ok : (k : ℕ) (o : Option W) (rest : W → Judged A) (a : A) → have k o rest ≡ Ok a → (w : W) × (o ≡ Some w) × (rest w ≡ Ok a)
  have_ok k None rest a e = absurd (cc e)
  have_ok k (Some w) rest a e = (w, refl, e)

  -- what is refused lacks a witness, or is refused after it
  pub have_err : (k : ℕ) (o : Option W) (rest : W → Judged A) (j : ℕ) → have k o rest ≡ Err j → ((o ≡ None) × (k ≡ j)) ⊎ ((w : W) × (o ≡ Some w) × (rest w ≡ Err j))
  have_err k None rest j e = inl (refl, cc e)
  have_err k (Some w) rest j e = inr (w, refl, e)

  -- and a witness is passed on
  pub have_yes : (k : ℕ) (o : Option W) (rest : W → Judged A) (w : W) → o ≡ Some w → have k o rest ≡ rest w
  have_yes k o rest w e = ap (λ o. have k o rest) e

  -- what comes of what is given
  pub then_ok : (f : W → A) (j : Judged W) (a : A) → then_give f j ≡ Ok a → (w : W) × (j ≡ Ok w) × (a ≡ f w)
  then_ok f (Ok w) a e = (w, refl, cc e)
  then_ok f (Err k) a e = absurd (cc e)

-- a rule that is judged by its instances has one list of successors at most
pub judged_once : {A : Type 0} (j : Judged A) (Instance : A → Type 0) → IsJudged j Instance → (a b : A) → Instance a → Instance b → a ≡ b
judged_once j Instance tie a b p q = given_once j a b ((tie a).1 p) ((tie b).1 q)

-- and where a premise is unmet it has none
pub judged_unmet : {A : Type 0} (j : Judged A) (Instance : A → Type 0) → IsJudged j Instance → (k : ℕ) → j ≡ Err k → (a : A) → Instance a → ⊥
judged_unmet j Instance tie k e a p = given_not_unmet j a k ((tie a).1 p) e
