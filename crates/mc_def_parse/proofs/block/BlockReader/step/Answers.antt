use Rattle.mc_def_parse.proofs.block.BlockReader.step.Goals as goal

pub returns-in-Contents : goal.returns-in-Contents
returns-in-Contents c = rw c.in-Contents.is c.behind_content.ensures

pub returns-in-Whole : goal.returns-in-Whole
returns-in-Whole c = rw c.in-Whole.is c.before_stop.ensures
