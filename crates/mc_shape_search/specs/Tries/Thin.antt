-- Tries that are left out of a search, since earlier ones find whatever they do.
use Rattle.std.specs.Prelude.{◌≡◌, ◌≤◌, ◌<◌, ◌-◌, ◌++◌, ◌∷◌, ℕ, List, true, Option, None, length}
use Rattle.mc_shape_search.specs.Search.Met.{IsIn}
use Rattle.mc_shape_search.specs.declared.tries.Cell.{Cell}
use Rattle.mc_shape_search.specs.declared.tries.Pending.{Pending}
use Rattle.mc_shape_search.specs.Search.Search.{Space, applies, is_free, tries, first}
use Rattle.mc_shape_search.specs.Tries.Stack.{tries_of, branch}

-- the list has the first of the other, and is no longer
pub record Thins {X : Type 0} (thin all : List (Option X)) : Type 0 where
  pub first : first thin ≡ first all
  pub count : length thin ≤ length all

-- one mark stands for another: where the other applies and what the one takes is unused, the one applies as well; and
-- where no try after the one meets the goals, none after the other does
abbrev pub StandsFor : {G M : Type 0} → Space G M → M → M → Type 0
StandsFor {G} {M} w one other =
    (n : ℕ) (g : G) (gs : List G) (log : List M) → is_free w.takes log one ≡ true → applies w g log other ≡ true
    → (applies w g log one ≡ true) × (first (branch w n g gs log one) ≡ None → first (branch w n g gs log other) ≡ None)

-- the mark may be left out after these marks: one of them stands for it, and what that one takes is unused
pub record IsSpare {G M : Type 0} (w : Space G M) (earlier log : List M) (m : M) : Type 0 where
  pub one : M
  pub listed : IsIn one earlier
  pub stands : StandsFor w one m
  pub free : is_free w.takes log one ≡ true

-- where the log leaves room, a failure and what is left to try have the first of the tries of these goals and of what
-- was left before, and are no more
abbrev pub Opens :
    {G M : Type 0} → Space G M → List G → List M → List (Cell G) → List (Pending M) → List (Cell G) → List (Pending M) → Type 0
Opens w goals log cells before more now =
    (limit : ℕ) → length log < limit
    → Thins (None ∷ tries_of w limit more log now) (tries w (limit - length log) goals log ++ tries_of w limit cells log before)
