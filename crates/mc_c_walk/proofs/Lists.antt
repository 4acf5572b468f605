-- What is known part by part of parts in a row.
use Rattle.std.proofs.Common.{◌≡◌, List, [], ◌∷◌, ◌++◌, flat_map, refl, ap, sym, ◌∙◌, append_assoc}
use Rattle.std.proofs.lemmas.List.{append-nil}

pub flat_joined : {V X : Type 0} (f : V → List X) (vs ws : List V) → flat_map f (vs ++ ws) ≡ flat_map f vs ++ flat_map f ws
flat_joined f [] ws = refl
flat_joined f (v ∷ vs) ws = ap (λ xs. f v ++ xs) (flat_joined f vs ws) ∙ sym (append_assoc (f v) (flat_map f vs) (flat_map f ws))

-- two parts in a row
pub joined : {V X : Type 0} (f : V → List X) (vs ws : List V) (xs ys : List X) → xs ≡ flat_map f vs → ys ≡ flat_map f ws → xs ++ ys ≡ flat_map f (vs ++ ws)
joined f vs ws xs ys is is' = ap (λ zs. zs ++ ys) is ∙ ap (λ zs. flat_map f vs ++ zs) is' ∙ sym (flat_joined f vs ws)

-- one, alone, before others, and after them
pub alone : {V X : Type 0} (f : V → List X) (v : V) → f v ≡ flat_map f (v ∷ [])
alone f v = sym (append-nil (f v))

pub behind_one : {V X : Type 0} (f : V → List X) (v : V) (vs : List V) (xs : List X) → xs ≡ flat_map f vs → f v ++ xs ≡ flat_map f (v ∷ vs)
behind_one f v vs xs is = ap (λ zs. f v ++ zs) is

pub behind_two : {V X : Type 0} (f : V → List X) (v w : V) (vs : List V) (xs : List X) → xs ≡ flat_map f vs → f v ++ f w ++ xs ≡ flat_map f (v ∷ w ∷ vs)
behind_two f v w vs xs is = append_assoc (f v) (f w) xs ∙ ap (λ zs. f v ++ (f w ++ zs)) is

pub one_and_two : {V X : Type 0} (f : V → List X) (v : V) (vs ws : List V) (xs ys : List X) → xs ≡ flat_map f vs → ys ≡ flat_map f ws → f v ++ xs ++ ys ≡ flat_map f (v ∷ (vs ++ ws))
one_and_two f v vs ws xs ys is is' = append_assoc (f v) xs ys ∙ ap (λ zs. f v ++ zs) (joined f vs ws xs ys is is')

pub before_one : {V X : Type 0} (f : V → List X) (v : V) (vs : List V) (xs : List X) → xs ≡ flat_map f vs → xs ++ f v ≡ flat_map f (vs ++ v ∷ [])
before_one f v vs xs is = joined f vs (v ∷ []) xs (f v) is (alone f v)
