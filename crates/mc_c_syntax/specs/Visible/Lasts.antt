-- The last places of names.
use Rattle.std.specs.Prelude.{ℕ, suc, List, [], ◌∷◌, ◌==◌, Bool, cond, Option, Some, None, map, option_map}
use Rattle.std.specs.Option.{option_or}
use lib.Pointwise.{pointwise}
use denote.Bor.{Bor}

-- two names are the same
abbrev pub is_same : List ℕ → List ℕ → Bool
is_same = pointwise ◌==◌

-- the last place of a name in a list, from 0 on, if it is there
abbrev pub last_place : List (List ℕ) → List ℕ → Option ℕ
last_place [] name = None
last_place (n ∷ names) name = option_or (option_map (λ i. suc i) (last_place names name)) (cond (is_same n name) (Some 0) None)

-- what is after references
abbrev pub names_held : List (Bor (List ℕ)) → List (List ℕ)
names_held names = map (λ n. n.now) names
