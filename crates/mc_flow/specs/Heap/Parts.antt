-- Regions in disjoint parts.
use Rattle.std.specs.Prelude.{◌≡◌, ◌≢◌, ℕ, zero, suc, Option, Some, None, List, [], ◌∷◌}
use Rattle.mc_flow.specs.Heap.Heap.{Block, Region}

-- what an address holds, where at most one of two parts holds something there
abbrev pub Joins : Option Block → Option Block → Option Block → Type 0
Joins whole None right = whole ≡ right
Joins whole (Some block) None = whole ≡ Some block
Joins whole (Some block) (Some other) = ⊥

-- the region is two parts, and no address is in both
pub record Split (whole left right : Region) : Type 0 where
  pub joins : (at : ℕ) → Joins (whole at) (left at) (right at)

-- nothing is allocated
pub record IsEmpty (region : Region) : Type 0 where
  pub none : (at : ℕ) → region at ≡ None

-- this block at this address, and nothing else
pub record IsCell (region : Region) (at : ℕ) (block : Block) : Type 0 where
  pub here : region at ≡ Some block
  pub only : (other : ℕ) → other ≢ at → region other ≡ None

-- one address now holds this, and every other what it held
pub record Changes (before after : Region) (at : ℕ) (there : Option Block) : Type 0 where
  pub here : after at ≡ there
  pub others : (other : ℕ) → other ≢ at → after other ≡ before other

-- each of the things has a part of its own, and the parts are the whole region
abbrev pub Star : {A : Type 0} → (A → Region → Type 0) → List A → Region → Type 0
Star M [] region = IsEmpty region
Star M (x ∷ xs) region = (part : Region) × (rest : Region) × Split region part rest × M x part × Star M xs rest

-- the same, with the thing at a place by another meaning
abbrev pub StarAt : {A : Type 0} → (A → Region → Type 0) → (A → Region → Type 0) → ℕ → List A → Region → Type 0
StarAt M S place [] region = ⊥
StarAt M S zero (x ∷ xs) region = (part : Region) × (rest : Region) × Split region part rest × S x part × Star M xs rest
StarAt M S (suc place) (x ∷ xs) region = (part : Region) × (rest : Region) × Split region part rest × M x part × StarAt M S place xs rest
