-- The laws on which following a chain stands.
use Rattle.mc_cover.specs.Laws.{FirstIsCover, NoFirstNoCover}
use Rattle.mc_kernel.specs.Oracle.Judges.{JudgesAreThere}
use Rattle.mc_kernel.specs.Progress.Asked.{CodeLinesAreRight, FirstLinesAreRight}
use Rattle.mc_kernel.specs.Progress.Progress.{LinesStayInside, LinesStayOpen}
use Rattle.mc_kernel.specs.Reading.Laws.{BegunIsKept, ChainsAreRead, LinesAreAdded, LinesKeep, RulesAreRead}
use Rattle.mc_rules_steps.specs.JudgedLaws.{StepsAreWellMade}

-- documents are read line by line by a right judge, which is there, and one that has ended is a chain of one pass
pub record DocumentsAreFollowed : Type 0 where
  pub judges : JudgesAreThere
  pub begun : BegunIsKept
  pub keep : LinesKeep
  pub rules : RulesAreRead
  pub added : LinesAreAdded
  pub chains : ChainsAreRead

-- the line that a branch asks for is an instance, and what comes of branches stays inside the flow graph and open
pub record BranchesAreFollowed : Type 0 where
  pub first : FirstLinesAreRight
  pub code : CodeLinesAreRight
  pub inside : LinesStayInside
  pub still_open : LinesStayOpen

-- what an instruction asserts fits the state of its side branch, and of covers there the first is found, if there is any
pub record AssertionsAreCovered : Type 0 where
  pub made : StepsAreWellMade
  pub found : FirstIsCover
  pub missed : NoFirstNoCover
