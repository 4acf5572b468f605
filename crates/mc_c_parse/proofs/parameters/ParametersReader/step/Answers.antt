use Rattle.mc_c_parse.proofs.parameters.ParametersReader.step.Goals as goal

pub returns-in-Void : goal.returns-in-Void
returns-in-Void c = λ aliases known. rw c.in-Void.is (c.behind_void.ensures aliases _ c.requires)

pub returns-in-Parameter : goal.returns-in-Parameter
returns-in-Parameter c = rw c.in-Parameter.is c.within_parameter.ensures

pub returns-in-Behind : goal.returns-in-Behind
returns-in-Behind c = λ aliases known. rw c.in-Behind.is (c.behind_parameter.ensures aliases _ c.requires)
