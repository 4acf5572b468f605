-- What a stage has: the point that is next, and how many points and variables there are.
use Rattle.std.proofs.Common.{ℕ}
use Rattle.mc_lower_spec.specs.Graphs.{Stage, stage}

abbrev pub goal_of : Stage → ℕ
goal_of (stage a n k) = a

abbrev pub points_of : Stage → ℕ
points_of (stage a n k) = n

abbrev pub variables_of : Stage → ℕ
variables_of (stage a n k) = k
