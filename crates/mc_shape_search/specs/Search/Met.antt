-- What meets goals, in any choice of marks: as trees of marks, and as marks one after the other.
use Rattle.std.specs.Prelude.{◌≡◌, ◌⊎◌, ◌≤◌, ◌+◌, ℕ, zero, suc, List, [], ◌∷◌, ◌++◌, Bool, true, false, Option, Some, None, length}
use Rattle.mc_shape_search.specs.Search.Search.{Space, applies, uses}

-- the item is one of the list
abbrev pub IsIn : {X : Type 0} → X → List X → Type 0
IsIn x [] = ⊥
IsIn x (y ∷ ys) = (x ≡ y) ⊎ IsIn x ys

-- goals are met one after the other, by marks that the log has afterwards
abbrev pub AreMetBy : {G M : Type 0} → (G → List M → List M → Type 0) → List G → List M → List M → Type 0
AreMetBy R [] log after = after ≡ log
AreMetBy {G} {M} R (g ∷ gs) log after = (mid : List M) × R g log mid × AreMetBy R gs mid after

-- a goal is met by a mark and the goals that the mark leaves; at most so many marks stand one within the other
abbrev pub IsMet : {G M : Type 0} → Space G M → ℕ → G → List M → List M → Type 0
IsMet w zero g log after = ⊥
IsMet {G} {M} w (suc k) g log after =
    (m : M) × (applies w g log m ≡ true) × AreMetBy (IsMet w k) (w.calls g m) (log ++ m ∷ []) after

-- marks one after the other meet the goals, at most so many, and the search may end
abbrev pub Leads : {G M : Type 0} → Space G M → ℕ → List G → List M → List M → Type 0
Leads w n [] log after = (after ≡ log) × (w.ends log ≡ true)
Leads w zero (g ∷ gs) log after = ⊥
Leads {G} {M} w (suc n) (g ∷ gs) log after =
    (m : M) × IsIn m (w.marks g) × (applies w g log m ≡ true) × Leads w n (w.calls g m ++ gs) (log ++ m ∷ []) after

-- one where a number is unused
abbrev pub one_if_unused : Bool → ℕ
one_if_unused true = 0
one_if_unused false = 1

-- how many of the numbers are unused
abbrev pub count_unused : {M : Type 0} → (M → Option ℕ) → List M → List ℕ → ℕ
count_unused takes log [] = 0
count_unused takes log (id ∷ ids) = one_if_unused (uses takes log id) + count_unused takes log ids

-- only what takes a number of these leaves goals, and at most so many
abbrev pub LeavesFew : {G : Type 0} → ℕ → List ℕ → Option ℕ → List G → Type 0
LeavesFew most ids None calls = calls ≡ []
LeavesFew most ids (Some id) calls = IsIn id ids × (length calls ≤ most)

-- each mark that fits leaves few goals
abbrev pub AllLeaveFew : {G M : Type 0} → Space G M → ℕ → List ℕ → Type 0
AllLeaveFew {G} {M} w most ids = (g : G) (m : M) → w.fits g m ≡ true → LeavesFew most ids (w.takes m) (w.calls g m)
