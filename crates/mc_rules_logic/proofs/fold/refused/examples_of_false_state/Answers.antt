use Rattle.std.proofs.Common.{refl}
use Rattle.mc_rules_logic.proofs.FoldLemmas.Refusing.{stopped}
use Rattle.mc_rules_logic.proofs.fold.refused.examples_of_false_state.Goals as goal

pub returns : goal.returns
returns c =
    record {
      fold_ind = λ know tells. rw (stopped know tells) refl;
      fold_seg = λ know tells. rw (stopped know tells) refl;
      close = λ know tells. rw (stopped know tells) refl;
      join = λ know tells. rw (stopped know tells) refl;
      make = λ know tells. rw (stopped know tells) refl;
      spare = λ know tells. rw (stopped know tells) refl;
      merge = λ know tells. rw (stopped know tells) refl;
      drop_edge = λ know tells. rw (stopped know tells) refl;
      forget = λ atoms know tells. rw (stopped know tells) refl;
      goal = λ know tells. rw (stopped know tells) refl;
    }
