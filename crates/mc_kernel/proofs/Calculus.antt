-- The laws that the soundness of documents rests on.
use Rattle.mc_flow.specs.Heap.PartLaws.{EmptyHeapIsEmpty}
use Rattle.mc_state.specs.Laws.{NoneStandsForFalse, UnknownStands, UnknownIsBounded}
use Rattle.mc_rules_logic.specs.Unfold.Laws.{LawOfInd, LawOfSeg}
use Rattle.mc_rules_logic.specs.Back.Laws.{LawOfBack}
use Rattle.mc_rules_logic.specs.Fold.Laws.{LawOfFoldInd, LawOfFoldSeg, LawOfCloseSeg, LawOfJoinSegs, LawOfEmptySeg, LawOfSpare, LawOfMerge, LawOfDrop, LawOfForget, LawOfGoal}
use Rattle.mc_rules_steps.specs.Laws.{StepsAreSound, StepsStayBounded}
use Rattle.mc_kernel.specs.JumpLaws.{JumpsAreSound}

pub record CalculusLaws : Type 0 where
  pub empty : EmptyHeapIsEmpty
  pub unknown : UnknownIsBounded
  pub beginning : UnknownStands
  pub not_false : NoneStandsForFalse
  pub steps : StepsAreSound
  pub bounded : StepsStayBounded
  pub unfold_ind : LawOfInd
  pub unfold_seg : LawOfSeg
  pub unfold_back : LawOfBack
  pub fold_ind : LawOfFoldInd
  pub fold_seg : LawOfFoldSeg
  pub close : LawOfCloseSeg
  pub join : LawOfJoinSegs
  pub empty_seg : LawOfEmptySeg
  pub spare : LawOfSpare
  pub merge : LawOfMerge
  pub drop_edge : LawOfDrop
  pub forget : LawOfForget
  pub goal : LawOfGoal
  pub jump : JumpsAreSound
