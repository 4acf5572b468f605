use Rattle.mc_c_parse.proofs.fields.FieldsReader.step.Goals as goal

pub returns-in-Some : goal.returns-in-Some
returns-in-Some c = rw c.in-Some.is c.within_field.ensures

pub returns-in-None : goal.returns-in-None
returns-in-None c = rw c.in-None.is c.behind_field.ensures
