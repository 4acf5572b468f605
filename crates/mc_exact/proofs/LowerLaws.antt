-- The laws of lower crates that are used.
use Rattle.mc_flow.specs.Heap.PartLaws.{InsertChanges, RemoveChanges}
use Rattle.mc_pure.specs.Laws.{DerivedIsTrue}
use Rattle.mc_state.specs.Laws.{UnknownIsBounded}
use Rattle.mc_rules_steps.specs.JudgedLaws.{LeastRangeHasNumber, StepsAreWellMade}

-- of heaps and of what is entailed
pub record RunLaws : Type 0 where
  pub insert : InsertChanges
  pub remove : RemoveChanges
  pub derived : DerivedIsTrue

-- of states
pub record StateLaws : Type 0 where
  pub made : StepsAreWellMade
  pub unknown : UnknownIsBounded
  pub ranged : LeastRangeHasNumber
