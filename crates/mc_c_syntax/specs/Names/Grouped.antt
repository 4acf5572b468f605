-- Which items of a name a map holds.
use Rattle.std.specs.Prelude.{◌≡◌, ℕ, List, [], ◌∷◌, ◌++◌, cond, Option, Some, None, filter}
use Rattle.std.specs.declared.vec.Vec.{Vec}
use denote.Bor.{Bor}
use Rattle.indexmap.specs.IndexMap.{IndexMap, get_by}
use Rattle.mc_c_syntax.specs.Ast.Names.{is_same}

-- the items of a group, and none without one
abbrev pub items_of : {X Z : Type 0} → Option (Vec X Z) → List X
items_of None = []
items_of (Some group) = group.items

-- the items that a map has for a name
abbrev pub items_at : {X Z S : Type 0} → IndexMap (Bor (List ℕ)) (Vec X Z) S → List ℕ → List X
items_at groups name = items_of (get_by (λ key. is_same name key.now) groups)

-- the map has for each name exactly the items of that name, in their order
abbrev pub AreGroups : {X Z S : Type 0} → (X → List ℕ) → List X → IndexMap (Bor (List ℕ)) (Vec X Z) S → Type 0
AreGroups name_of items groups = (name : List ℕ) → items_at groups name ≡ filter (λ x. is_same (name_of x) name) items

-- each name keeps its items
abbrev pub Stays : {X Z S : Type 0} → IndexMap (Bor (List ℕ)) (Vec X Z) S → IndexMap (Bor (List ℕ)) (Vec X Z) S → Type 0
Stays before after = (name : List ℕ) → items_at after name ≡ items_at before name

-- a name has one item more, at the end, and each other name keeps its items
abbrev pub Adds : {X Z S : Type 0} → IndexMap (Bor (List ℕ)) (Vec X Z) S → IndexMap (Bor (List ℕ)) (Vec X Z) S → List ℕ → X → Type 0
Adds before after named item = (name : List ℕ) → items_at after name ≡ items_at before name ++ cond (is_same named name) (item ∷ []) []
