-- Texts that come in pieces: the lines that are whole, and the one that is open.
use Rattle.std.specs.Prelude.{◌≡◌, ℕ, ◌++◌, List, [], ◌∷◌, Contains}
use Rattle.std.specs.List.{AllByRecursion}

-- no line feed stands in the bytes
abbrev pub HasNoFeed : List ℕ → Type 0
HasNoFeed bytes = Contains bytes 10 → ⊥

-- the lines, each with a line feed after it, and then these bytes
abbrev pub with_feeds : List (List ℕ) → List ℕ → List ℕ
with_feeds [] rest = rest
with_feeds (line ∷ lines) rest = line ++ (10 ∷ with_feeds lines rest)

-- the text has these whole lines, and after them this open one
pub record IsCut (text : List ℕ) (lines : List (List ℕ)) (rest : List ℕ) : Type 0 where
  pub spelled : text ≡ with_feeds lines rest
  pub whole : AllByRecursion HasNoFeed lines
  pub no_feed : HasNoFeed rest
