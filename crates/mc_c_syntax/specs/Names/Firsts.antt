-- Which places of names a map holds.
use Rattle.std.specs.Prelude.{◌≡◌, ℕ, List, map, position}
use denote.Bor.{Bor}
use Rattle.indexmap.specs.IndexMap.{IndexMap, get_by}
use Rattle.mc_c_syntax.specs.Ast.Names.{is_same}

-- what is after references
abbrev pub behind : List (Bor (List ℕ)) → List (List ℕ)
behind names = map (λ n. n.now) names

-- the map has for each name its first place in the list, and no other names
abbrev pub AreFirsts : {S : Type 0} → List (List ℕ) → IndexMap (Bor (List ℕ)) ℕ S → Type 0
AreFirsts names firsts = (name : List ℕ) → get_by (λ key. is_same name key.now) firsts ≡ position (λ n. is_same n name) names
