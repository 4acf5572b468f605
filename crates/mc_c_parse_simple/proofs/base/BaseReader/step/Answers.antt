use Rattle.mc_c_parse_simple.proofs.base.BaseReader.step.Goals as goal

pub returns-in-Start : goal.returns-in-Start
returns-in-Start c = λ aliases e. rw c.in-Start.is (c.start.ensures aliases e)

pub returns-in-Struct : goal.returns-in-Struct
returns-in-Struct c = λ aliases e. rw c.in-Struct.is (c.behind_struct.ensures aliases)
