-- How many trees stand in a tree, and how much is left to do while one is dropped.
use Rattle.std.specs.Prelude.{◌≡◌, ℕ, ◌+◌, ◌*◌, Option, Some, None, box_value}
use Rattle.std.specs.List.{sum_by}
use Rattle.mc_base.specs.declared.trees.Parts.{Parts}
use Rattle.mc_base.specs.declared.trees.Parts.TheVariants.{Nothing, One, Several as several}
use Rattle.mc_base.specs.declared.trees.Several.{Several}
use Rattle.mc_base.specs.declared.trees.Several.TheVariants.{Two, Many}

-- how many trees stand in several trees, themselves among them
abbrev pub several_size : {T R : Type 0} → (T → ℕ) → Several T R → ℕ
several_size size (Two s t) = size (box_value s) + size (box_value t)
several_size size (Many rest ts) = sum_by size ts.items

-- a tree that holds these, and nothing else, is one more
abbrev pub Holds : {T R : Type 0} → (T → ℕ) → T → Several T R → Type 0
Holds size tree trees = size tree ≡ several_size size trees + 1

-- and in the parts of a tree
abbrev pub parts_size : {T R : Type 0} → (T → ℕ) → Parts T R → ℕ
parts_size size Nothing = 0
parts_size size (One t) = size (box_value t)
parts_size size (several ts) = several_size size ts

-- and in what waits
abbrev pub waiting_size : {T : Type 0} → (T → ℕ) → Option T → ℕ
waiting_size size None = 0
waiting_size size (Some t) = size t

-- falls with each step: where there are as many trees in all, fewer stand in the one at hand
abbrev pub work : (here waiting : ℕ) → ℕ
work here waiting = let all = here + waiting in all * all + here

-- the work on a tree while another may wait
abbrev pub work_on : {T : Type 0} → (T → ℕ) → T → Option T → ℕ
work_on size tree waiting = work (size tree) (waiting_size size waiting)

-- the work on what is left, if anything is
abbrev pub work_left : {T : Type 0} → (T → ℕ) → Option (T × Option T) → ℕ
work_left size None = 0
work_left size (Some both) = work_on size both.0 both.1 + 1
