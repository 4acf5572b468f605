-- Joins whose states are good.
use Rattle.mc_replay.specs.declared.joining.Joining.{Joining as Kept}
use Rattle.mc_replay.specs.Named.{IsGood}

-- both states are
pub record AreGood (j : Kept) : Type 0 where
  pub left : IsGood j.left.state
  pub right : IsGood j.right.state
