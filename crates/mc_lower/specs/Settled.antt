-- The points of labels, found on the ways that lead from label to label.
use Rattle.std.specs.Prelude.{◌≡◌, ◌<◌, ◌+◌, ◌⊎◌, ℕ, List, Some, Contains, length, slice_get, slice_index_or}
use Rattle.mc_lower.specs.declared.builder.Label.{Label}
use Rattle.mc_lower.specs.declared.builder.Mark.{Mark}
use Rattle.mc_lower.specs.declared.settling.Way.{Way}
use Rattle.mc_lower.specs.Lines.{subject}

-- the way of a label of which this is known
abbrev pub way_of : Mark → Way
way_of (Mark.At l n) = Way.Point n
way_of (Mark.Same l m) = Way.On m

-- the way of a label; one that is not there has the point 0
abbrev pub way_at : List Way → ℕ → Way
way_at ways l = slice_index_or ways l (Way.Point 0)

-- the point that a way ends at
abbrev pub point_of_way : Way → ℕ
point_of_way (Way.On l) = 0
point_of_way Way.Met = 0
point_of_way (Way.Point n) = n

-- so many labels, of which nothing is known
pub record AreOpen (count labels : ℕ) (ways : List Way) : Type 0 where
  pub size : length ways ≡ labels
  pub points : (l : ℕ) → l < labels → way_at ways l ≡ Way.Point (count + l)

-- the ways of so many labels, of which this is known
pub record AreWays (count labels : ℕ) (marks : List Mark) (ways : List Way) : Type 0 where
  pub marked : (k : ℕ) (m : Mark) → slice_get marks k ≡ Some m → way_at ways (subject m).0 ≡ way_of m
  pub others : (l : ℕ) → l < labels → (way_at ways l ≡ Way.Point (count + l))
      ⊎ ((k : ℕ) × (m : Mark) × (slice_get marks k ≡ Some m) × ((subject m).0 ≡ l) × (way_at ways l ≡ way_of m))
  pub size : length ways ≡ labels

-- no label has been met on a walk
abbrev pub AreNoneMet : List Way → Type 0
AreNoneMet ways = (l : ℕ) → way_at ways l ≡ Way.Met → ⊥

-- a walk from one label to another has met the labels of a path, each of which leads on to one of them or to where the walk is
pub record Walks (old new : List Way) (path : List ℕ) (start at : ℕ) : Type 0 where
  pub each : (l : ℕ) → (way_at new l ≡ way_at old l)
      ⊎ ((m : Label) × (way_at old l ≡ Way.On m) × (way_at new l ≡ Way.Met) × ((m.0 ≡ at) ⊎ (way_at new m.0 ≡ Way.Met)))
  pub only : (l : ℕ) → way_at new l ≡ Way.Met → Contains path l
  pub met : (l : ℕ) → Contains path l → way_at new l ≡ Way.Met
  pub first : (start ≡ at) ⊎ (way_at new start ≡ Way.Met)
  pub size : length new ≡ length old

-- a walk ends here, at a point or at a label that it has met
abbrev pub IsEnd : Way → ℕ → Type 0
IsEnd (Way.On l) point = ⊥
IsEnd Way.Met point = Unit {0}
IsEnd (Way.Point n) point = n ≡ point

-- a whole walk
abbrev pub WalksTo : List Way → List Way → List ℕ → ℕ → ℕ → Type 0
WalksTo old new path start point = (at : ℕ) × Walks old new path start at × IsEnd (way_at new at) point

-- the labels of a path have a point, and others are as they were
pub record IsFilled (old new : List Way) (path : List ℕ) (point : ℕ) : Type 0 where
  pub there : (l : ℕ) → Contains path l → l < length old → way_at new l ≡ Way.Point point
  pub others : (l : ℕ) → (Contains path l → ⊥) → way_at new l ≡ way_at old l
  pub size : length new ≡ length old

-- some labels that were the points of others have these points
pub record Settles (old new : List Way) : Type 0 where
  pub each : (l : ℕ) → (way_at new l ≡ way_at old l)
      ⊎ ((m : Label) × (n : ℕ) × (way_at old l ≡ Way.On m) × (way_at new l ≡ Way.Point n) × (way_at new m.0 ≡ Way.Point n))
  pub size : length new ≡ length old

-- a label has its point
abbrev pub HasPoint : List Way → ℕ → Type 0
HasPoint ways l = (n : ℕ) × (way_at ways l ≡ Way.Point n)
