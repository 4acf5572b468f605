-- What a stack of names holds.
use Rattle.std.specs.Prelude.{◌≡◌, ℕ, List, [], ◌∷◌, cond, Option, Some, None, map, slice_get, take}
use denote.Bor.{Bor}
use Rattle.indexmap.specs.IndexMap.{IndexMap, get_by}
use Rattle.mc_c_syntax.specs.Visible.Lasts.{is_same, last_place}
use Rattle.mc_c_syntax.specs.declared.visible.stack.Entry.{Entry}

-- the names of entries
abbrev pub names_in : List Entry → List (List ℕ)
names_in entries = map (λ e. e.name.now) entries

-- what a map has for a name, and nothing without the name
abbrev pub at_most : Option (Option ℕ) → Option ℕ
at_most None = None
at_most (Some last) = last

-- the place that a map has for a name
abbrev pub last_in : {S : Type 0} → IndexMap (Bor (List ℕ)) (Option ℕ) S → List ℕ → Option ℕ
last_in lasts name = at_most (get_by (λ key. is_same name key.now) lasts)

-- the map has for each name its last place in the list
abbrev pub AreLasts : {S : Type 0} → List (List ℕ) → IndexMap (Bor (List ℕ)) (Option ℕ) S → Type 0
AreLasts names lasts = (name : List ℕ) → last_in lasts name ≡ last_place names name

-- the map has this place for the name, and for each other name what it had
abbrev pub Places : {S : Type 0} → IndexMap (Bor (List ℕ)) (Option ℕ) S → IndexMap (Bor (List ℕ)) (Option ℕ) S → List ℕ → Option ℕ → Type 0
Places before after name place = (other : List ℕ) → last_in after other ≡ cond (is_same name other) place (last_in before other)

-- each entry has the last place of its name among the entries before it
abbrev pub HideRight : List Entry → Type 0
HideRight entries = (i : ℕ) (e : Entry) → slice_get entries i ≡ Some e → e.hidden ≡ last_place (take i (names_in entries)) e.name.now

-- the map and the entries tell the last places of names
pub record TellLasts {S : Type 0} (entries : List Entry) (lasts : IndexMap (Bor (List ℕ)) (Option ℕ) S) : Type 0 where
  pub places : AreLasts (names_in entries) lasts
  pub hidden : HideRight entries
