-- The stack of a search, read as tries. The arena of goals and the stack stand newest first.
use Rattle.std.specs.Prelude.{◌≡◌, ℕ, suc, ◌-◌, ◌≤◌, ◌^◌, List, [], ◌∷◌, ◌++◌, true, false, nat_eq, Option, length, take}
use Rattle.std.specs.List.{flat_map}
use Rattle.mc_shape_search.specs.Search.Search.{Space, tries, is_free}
use Rattle.mc_shape_search.specs.declared.tries.Cell.{Cell}
use Rattle.mc_shape_search.specs.declared.tries.Pending.{Pending}

-- more marks than any log has
unfoldable pub enough : ℕ
enough = 2 ^ 64

-- the goals that a pointer stands for: 0 for none, and else the cell of that number, from 1 on, and what it points to
abbrev pub goals_at : {G : Type 0} → List (Cell G) → ℕ → List G
goals_at [] p = []
goals_at (c ∷ cs) p = elim (nat_eq p (suc (length cs))) [ true ↦ c.goal ∷ goals_at cs c.next | false ↦ goals_at cs p ]

-- each cell points to an older one
abbrev pub IsArena : {G : Type 0} → List (Cell G) → Type 0
IsArena [] = Unit {0}
IsArena (c ∷ cs) = (c.next ≤ length cs) × IsArena cs

-- an arena with more cells, in which the pointers into the old one stand for the same goals
pub record Grows {G : Type 0} (old new : List (Cell G)) : Type 0 where
  pub arena : IsArena new
  pub more : length old ≤ length new
  pub same : (p : ℕ) → p ≤ length old → goals_at new p ≡ goals_at old p

-- goals are pushed before those of a pointer
pub record Pushes {G : Type 0} (pushed : List G) (old new : List (Cell G)) (rest top : ℕ) : Type 0 where
  pub grows : Grows old new
  pub within : top ≤ length new
  pub goals : goals_at new top ≡ pushed ++ goals_at old rest

-- the entry's mark takes nothing that the front of the log, on which the entry stands, has taken
abbrev pub IsReady : {M : Type 0} → (M → Option ℕ) → List M → Pending M → Type 0
IsReady takes log p = is_free takes (take p.height log) p.mark ≡ true

-- each entry stands on a front of the log that is no longer than that of the entry above it, and points into the arena
abbrev pub IsStack : {M : Type 0} → (M → Option ℕ) → List M → ℕ → ℕ → List (Pending M) → Type 0
IsStack takes log cells height [] = Unit {0}
IsStack takes log cells height (p ∷ ps) =
    (p.goals ≤ cells) × (p.height ≤ height) × IsReady takes log p × IsStack takes log cells p.height ps

-- the tries of an entry
unfoldable pub tries_of_one :
    {G M : Type 0} → Space G M → ℕ → List (Cell G) → List M → Pending M → List (Option (List M))
tries_of_one w limit cells log p =
    tries w (limit - suc p.height) (goals_at cells p.goals) (take p.height log ++ p.mark ∷ [])

-- and of a stack
unfoldable pub tries_of :
    {G M : Type 0} → Space G M → ℕ → List (Cell G) → List M → List (Pending M) → List (Option (List M))
tries_of w limit cells log ps = flat_map (tries_of_one w limit cells log) ps

-- the tries after one mark of a goal
abbrev pub branch : {G M : Type 0} → Space G M → ℕ → G → List G → List M → M → List (Option (List M))
branch w n g gs log m = tries w n (w.calls g m ++ gs) (log ++ m ∷ [])
