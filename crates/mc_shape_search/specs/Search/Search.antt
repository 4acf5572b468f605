-- A search over a list of goals, which are met from the first on; it knows nothing of what goals and their marks are.
use Rattle.std.specs.Prelude.{◌==◌, ◌&&◌, ◌||◌, ◌++◌, not, ℕ, zero, suc, List, [], ◌∷◌, Bool, true, false, Option, Some, None}
use Rattle.std.specs.List.{filter, flat_map}

-- how goals are met: the marks of a goal in their order, which of them fit, the goals that each leaves, what each takes,
-- and with which marks a search may end
pub record Space (G M : Type 0) : Type 0 where
  pub marks : G → List M
  pub fits : G → M → Bool
  pub calls : G → M → List G
  pub takes : M → Option ℕ
  pub ends : List M → Bool

-- this number is taken, if it is what is taken
abbrev pub takes_this : Option ℕ → ℕ → Bool
takes_this None id = false
takes_this (Some own) id = own == id

-- a mark of the log has taken the number
abbrev pub uses : {M : Type 0} → (M → Option ℕ) → List M → ℕ → Bool
uses takes [] id = false
uses takes (m ∷ ms) id = takes_this (takes m) id || uses takes ms id

-- what is to be taken, if anything, was not taken before
abbrev pub is_unused : {M : Type 0} → (M → Option ℕ) → List M → Option ℕ → Bool
is_unused takes log None = true
is_unused takes log (Some id) = not (uses takes log id)

-- what the mark takes was not taken before
abbrev pub is_free : {M : Type 0} → (M → Option ℕ) → List M → M → Bool
is_free takes log m = is_unused takes log (takes m)

-- the goal can be met by the mark now
abbrev pub applies : {G M : Type 0} → Space G M → G → List M → M → Bool
applies w g log m = w.fits g m && is_free w.takes log m

-- the marks by which the goal can be met now, in order
unfoldable pub options : {G M : Type 0} → Space G M → G → List M → List M
options w g log = filter (applies w g log) (w.marks g)

-- all goals are met: the log, if the search may end with it
abbrev pub ended : {M : Type 0} → Bool → List M → Option (List M)
ended true log = Some log
ended false log = None

-- what is tried, in order: None at a goal and at a log that may not end the search, the log where no goal is left;
-- so many marks at most
unfoldable pub tries : {G M : Type 0} → Space G M → ℕ → List G → List M → List (Option (List M))
tries w n [] log = ended (w.ends log) log ∷ []
tries w zero (g ∷ gs) log = None ∷ []
tries w (suc n) (g ∷ gs) log = None ∷ flat_map (λ m. tries w n (w.calls g m ++ gs) (log ++ m ∷ [])) (options w g log)

-- the first that is there
abbrev pub first : {X : Type 0} → List (Option X) → Option X
first [] = None
first (None ∷ xs) = first xs
first (Some x ∷ xs) = Some x

-- the marks of the first try that meets the goal
abbrev pub first_try : {G M : Type 0} → Space G M → ℕ → G → Option (List M)
first_try w limit g = first (tries w limit (g ∷ []) [])
