-- What is pushed for a mark.
use Rattle.std.specs.Prelude.{◌≡◌, ℕ, Bool, true, false, List, Option, Some, None, reverse}
use Rattle.mc_shape_search.specs.declared.tries.Cell.{Cell}
use Rattle.mc_shape_search.specs.Tries.Stack.{Pushes}
use Rattle.mc_cover.specs.declared.goals.Goal.{Goal}

-- nothing where the mark does not fit, and else the goals that it leaves
abbrev pub IsPushed : Bool → List Goal → List (Cell Goal) → List (Cell Goal) → ℕ → Option ℕ → Type 0
IsPushed fits calls old new rest None = (fits ≡ false) × (new ≡ old)
IsPushed fits calls old new rest (Some top) = (fits ≡ true) × Pushes calls (reverse old) (reverse new) rest top
