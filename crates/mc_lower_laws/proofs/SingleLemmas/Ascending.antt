-- Ascending lists with the same items are the same.
use Rattle.std.proofs.Common.{◌≡◌, ◌<◌, ◌⊎◌, ℕ, zero, suc, List, [], ◌∷◌, refl, sym, ap, ◌∙◌, subst, inl, inr, arith}
use Rattle.std.proofs.lemmas.List.Elements.{All-contains}
use Rattle.std.specs.Prelude.{AllPairs, Contains}
use Rattle.mc_base.specs.declared.ids.VarId.{VarId}
use Rattle.mc_base.specs.declared.text.place.Place.{Place}
use Rattle.mc_lower_spec.specs.Graphs.{Graph, local, Stage, IsMade, AreMade, Leaves, leaves}
use Rattle.mc_lower_laws.proofs.SingleLemmas.Alike.{Meets, Goes}
use Rattle.mc_lower_laws.proofs.SingleLemmas.Variables.{meets_turned, local_over, undefined}

first_or_later : {X : Type 0} (R : X → X → Type 0) (x y : X) (ys : List X) → Contains (y ∷ ys) x → AllPairs R (y ∷ ys) → (y ≡ x) ⊎ R y x
first_or_later R x y ys (zero, within, is) pairs = inl is
first_or_later R x y ys (suc k, within, is) pairs = inr (subst (λ z. R y z) is (pairs 0 (suc k) x (omega arith) within))

in_tail : {X : Type 0} (R : X → X → Type 0) → ((x y : X) → R x y → R y x → ⊥) → (x y z : X) (xs ys : List X) → AllPairs R (x ∷ xs) → x ≡ y → Contains xs z → Contains (y ∷ ys) z → Contains ys z
in_tail R apart x y z xs ys pairs same (k, within, is) (zero, less, there) =
    let one : z ≡ x = sym there ∙ sym same in
    let e : R x z = subst (λ w. R x w) is (pairs 0 (suc k) z (omega arith) (omega (arith, within))) in
    let d : R x x = subst (λ w. R x w) one e in
    absurd (apart x x d d)
in_tail R apart x y z xs ys pairs same among (suc k, less, there) = (k, omega (arith, less), there)

tail : {X : Type 0} (R : X → X → Type 0) (x : X) (xs : List X) → AllPairs R (x ∷ xs) → AllPairs R xs
tail R x xs pairs = λ i j d less within. pairs (suc i) (suc j) d (omega (arith, less)) (omega (arith, within))

none_among : {X : Type 0} (x : X) → Contains [] x → ⊥
none_among x (k, within, is) = omega (arith, within)

pub ascending_same : {X : Type 0} (R : X → X → Type 0) → ((x y : X) → R x y → R y x → ⊥) → (xs ys : List X) → AllPairs R xs → AllPairs R ys
    → ((x : X) → Contains xs x → Contains ys x) → ((x : X) → Contains ys x → Contains xs x) → xs ≡ ys
ascending_same R apart [] [] pairs others to from = refl
ascending_same R apart [] (y ∷ ys) pairs others to from = absurd (none_among y (from y (0, omega arith, refl)))
ascending_same R apart (x ∷ xs) [] pairs others to from = absurd (none_among x (to x (0, omega arith, refl)))
ascending_same R apart (x ∷ xs) (y ∷ ys) pairs others to from =
    let one : x ≡ y = elim (first_or_later R x y ys (to x (0, omega arith, refl)) others) [
      | inl same ↦ sym same
      | inr below ↦ elim (first_or_later R y x xs (from y (0, omega arith, refl)) pairs) [
        | inl same ↦ same
        | inr above ↦ absurd (apart x y above below)
      ]
    ] in
    let more : xs ≡ ys = ascending_same R apart xs ys (tail R x xs pairs) (tail R y ys others)
    (λ z (k, within, is). in_tail R apart x y z xs ys pairs one (k, within, is) (to z (suc k, omega (arith, within), is)))
    (λ z (k, within, is). in_tail R apart y x z ys xs others (sym one) (k, within, is) (from z (suc k, omega (arith, within), is))) in
    ap (λ z. z ∷ xs) one ∙ ap (λ z. y ∷ z) more

-- the variables of an occurrence that are made by then
pub made_same : {g h : Graph} {out left : ℕ} {Meant : ℕ → Type 0} {s r : Stage} {vs us : List VarId} → Meets g h out left s r → AreMade g out Meant s vs → AreMade h left Meant r us → vs ≡ us
made_same {g = g} {h = h} {out = out} {left = left} {Meant = Meant} {s = s} {r = r} {vs = vs} {us = us} m a b =
    ascending_same (λ v w. v.0 < w.0) (λ v w below above. omega (arith, below, above)) vs us a.ascending b.ascending
    (λ v among. let (x, meant, made) = All-contains (λ v. (x : ℕ) × Meant x × IsMade g (local out x) v s) vs v a.only among in b.all x v meant (local_over m made))
    (λ v among. let (x, meant, made) = All-contains (λ v. (x : ℕ) × Meant x × IsMade h (local left x) v r) us v b.only among in a.all x v meant (local_over (meets_turned m) made))

pub left_alike : {g h : Graph} {out left : ℕ} {Same : Type 0} {place : Place} {xs : List ℕ} {s u r w : Stage} → Meets g h out left s r → Leaves g out place xs s u → Leaves h left place xs r w → Goes g h out left Same s u r w
left_alike m (leaves made undone) (leaves made_too undone_too) = undefined m (made_same m made made_too) undone undone_too
