-- Lists of small numbers.
use Rattle.std.proofs.Common.{◌≤◌, ℕ, List, [], ◌∷◌, ◌++◌, flat_map, All, sym, subst}
use Rattle.std.proofs.lemmas.List.Elements.{All-nil, All-cons}
use Rattle.std.proofs.lemmas.Grind.{flat_map-append}
use Rattle.mc_base.specs.Text.Numbers.{max_number}

-- the numbers are at most 2147483647
pub data AreSmall : List ℕ → Type 0 where
  no_number : AreSmall []
  one_small : {n : ℕ} {numbers : List ℕ} → n ≤ max_number → AreSmall numbers → AreSmall (n ∷ numbers)

pub all_small : {numbers : List ℕ} → AreSmall numbers → All (λ n. n ≤ max_number) numbers
all_small no_number = All-nil (λ n. n ≤ max_number)
all_small (one_small {n = n} {numbers = numbers} small rest) = All-cons (λ n. n ≤ max_number) n numbers small (all_small rest)

-- those of two parts
pub and_small : {one other : List ℕ} → AreSmall one → AreSmall other → AreSmall (one ++ other)
and_small no_number more = more
and_small (one_small small rest) more = one_small small (and_small rest more)

-- those of a list of one
pub alone_small : {one : List ℕ} → AreSmall one → AreSmall (one ++ [])
alone_small one = and_small one no_number

-- those of a list with one more after
pub behind_small : {X : Type 0} (numbers : X → List ℕ) (xs : List X) (x : X) → AreSmall (flat_map numbers xs) → AreSmall (numbers x) → AreSmall (flat_map numbers (xs ++ x ∷ []))
behind_small numbers xs x before one = subst AreSmall (sym (flat_map-append numbers xs (x ∷ []))) (and_small before (alone_small one))
