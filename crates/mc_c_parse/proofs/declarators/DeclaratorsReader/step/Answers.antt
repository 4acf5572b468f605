use Rattle.mc_c_parse.proofs.declarators.DeclaratorsReader.step.Goals as goal

pub returns-in-None : goal.returns-in-None
returns-in-None c = rw c.in-None.is (c.behind_declarator.ensures _ c.requires)
