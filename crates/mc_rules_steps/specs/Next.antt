-- What comes of an instruction.
use Rattle.std.specs.Prelude.{Option}
use Rattle.mc_base.specs.declared.ids.PointId.{PointId}
use Rattle.mc_state.specs.declared.goal.Goal.{Goal}
use Rattle.mc_state.specs.State.{State}

-- a branch that comes of an instruction: where it goes on, what is known there, and what it has to show where it is a
-- side branch
pub record Next : Type 0 where
  pub point : PointId
  pub goal : Option Goal
  pub state : State
