use Rattle.mc_follow.proofs.alarms.laws.documents_are_followed.Goals as goal

pub returns : goal.returns
returns c = record {
  judges = c.judges_are_there.ensures;
  begun = c.lines_are_read.ensures.begun;
  keep = c.lines_are_read.ensures.kept;
  rules = c.lines_are_read.ensures.rules;
  added = c.documents_go_on.ensures.added;
  chains = c.documents_are_read.ensures.chains;
}
