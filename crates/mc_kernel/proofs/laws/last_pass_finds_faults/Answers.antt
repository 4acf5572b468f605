use Rattle.mc_kernel.proofs.Calculus.{CalculusLaws}
use Rattle.mc_kernel.proofs.Induction.{last_pass_finds_faults}
use Rattle.mc_kernel.proofs.laws.last_pass_finds_faults.Goals as goal

pub returns : goal.returns
returns c =
    let laws : CalculusLaws = record {
      empty = c.heaps_change_one_address.ensures.empty;
      unknown = c.numbers_stay_bounded.ensures.unknown;
      beginning = c.nothing_is_allocated.ensures.unknown;
      not_false = c.derived_is_true.ensures.not_false;
      steps = c.steps_are_sound.ensures;
      bounded = c.steps_stay_bounded.ensures;
      unfold_ind = c.unfolding_is_sound.ensures.ind;
      unfold_seg = c.unfolding_is_sound.ensures.seg;
      unfold_back = c.back_is_sound.ensures;
      fold_ind = c.folding_is_sound.ensures.ind;
      fold_seg = c.folding_is_sound.ensures.seg;
      close = c.segments_are_closed.ensures.close;
      join = c.segments_are_closed.ensures.join;
      empty_seg = c.segments_are_closed.ensures.empty;
      spare = c.naming_is_sound.ensures.spare;
      merge = c.naming_is_sound.ensures.merge;
      drop_edge = c.naming_is_sound.ensures.drop_edge;
      forget = c.naming_is_sound.ensures.forget;
      goal = c.goals_are_met.ensures;
      jump = c.jumps_are_sound.ensures;
    } in
    last_pass_finds_faults laws
