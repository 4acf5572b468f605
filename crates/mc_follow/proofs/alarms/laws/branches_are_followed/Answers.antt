use Rattle.mc_follow.proofs.alarms.laws.branches_are_followed.Goals as goal

pub returns : goal.returns
returns c = record {
  first = c.asked_lines_are_right.ensures.first;
  code = c.asked_lines_are_right.ensures.code;
  inside = c.branches_stay_inside.ensures.inside;
  still_open = c.branches_stay_inside.ensures.still_open;
}
