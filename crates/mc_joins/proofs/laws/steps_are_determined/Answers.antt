use Rattle.mc_joins.proofs.Steady.{steps_are_determined, steps_keep_made, prefixes_are_determined}
use Rattle.mc_joins.proofs.laws.steps_are_determined.Goals as goal

pub returns : goal.returns
returns c =
    let judged = c.naming_is_judged.ensures.spare in
    let stays = c.naming_makes_well.ensures.spare in
    record {
      step = steps_are_determined judged stays;
      made = steps_keep_made judged stays;
      steps = prefixes_are_determined judged stays;
    }
