-- What is known of labels while a flow graph is made: each is the point of one thing at most.
use Rattle.std.specs.Prelude.{◌≡◌, ◌==◌, ◌<◌, ◌≤◌, ◌++◌, ◌∷◌, ℕ, List, Option, Some, None, count_by, filter_map, length, map}
use Rattle.std.specs.Prelude.{slice_get, slice_index_or}
use Rattle.mc_lower.specs.declared.builder.Label.{Label}
use Rattle.mc_lower.specs.declared.builder.Mark.{Mark}
use Rattle.mc_lower.specs.declared.lines.Awaited.{Awaited}

-- the label that something is known of
abbrev pub subject : Mark → Label
subject (Mark.At l n) = l
subject (Mark.Same l m) = l

-- the label that waits
abbrev pub label_of : List Label → Awaited → Label
label_of outs (Awaited.Goal l) = l
label_of outs (Awaited.Out i) = slice_index_or outs i (record { 0 = 0 })

-- the labels of which something is known, the goal, and the labels that wait
abbrev pub used : List Mark → List Label → List Awaited → Label → List ℕ
used marks outs waiting goal = map (λ m. (subject m).0) marks ++ goal.0 ∷ map (λ a. (label_of outs a).0) waiting

-- a label that is the point of another
abbrev pub joined : Mark → Option ℕ
joined (Mark.At l n) = None
joined (Mark.Same l m) = Some l.0

-- a label that waits and is not where a `return` goes
abbrev pub awaited_goal : Awaited → Option ℕ
awaited_goal (Awaited.Goal l) = Some l.0
awaited_goal (Awaited.Out i) = None

-- the labels that are or may become the points of others, and those where a `return` goes
abbrev pub joined_or_out : List Mark → List Label → List Awaited → Label → List ℕ
joined_or_out marks outs waiting goal =
    filter_map joined marks ++ goal.0 ∷ filter_map awaited_goal waiting ++ map (λ l. l.0) outs

-- a point that is known
abbrev pub known_point : Mark → Option ℕ
known_point (Mark.At l n) = Some n
known_point (Mark.Same l m) = None

-- no number is there twice, and each is below another
pub record AreFew (numbers : List ℕ) (bound : ℕ) : Type 0 where
  pub once : (n : ℕ) → count_by (λ m. m == n) numbers ≤ 1
  pub below : (n : ℕ) → bound ≤ n → count_by (λ m. m == n) numbers ≡ 0

-- of so many labels one thing is known of each at most, no two have one of so many points by a mark, and where a `return` goes is never
-- the point of another label
pub record AreLined (count : ℕ) (marks : List Mark) (outs : List Label) (waiting : List Awaited) (labels : ℕ) (goal : Label) : Type 0 where
  pub used : AreFew (used marks outs waiting goal) labels
  pub apart : AreFew (joined_or_out marks outs waiting goal) labels
  pub points : AreFew (filter_map known_point marks) count
  pub there : (k i : ℕ) → slice_get waiting k ≡ Some (Awaited.Out i) → i < length outs
