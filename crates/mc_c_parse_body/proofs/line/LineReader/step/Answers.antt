use Rattle.mc_c_parse_body.proofs.line.LineReader.step.Goals as goal

pub returns-in-Start : goal.returns-in-Start
returns-in-Start c = λ aliases e. rw c.in-Start.is (c.at_line.ensures aliases e)

pub returns-in-Struct : goal.returns-in-Struct
returns-in-Struct c = λ aliases e. rw c.in-Struct.is (c.behind_struct.ensures aliases)

pub returns-in-Alias : goal.returns-in-Alias
returns-in-Alias c = λ aliases e. c.behind_alias.ensures c.in-Alias.field-0 c.in-Alias.is aliases e

pub returns-in-Declaration : goal.returns-in-Declaration
returns-in-Declaration c = λ aliases e. rw c.in-Declaration.is (rw c.deref_mut.ensures.value at (c.in_declaration.ensures aliases e))

pub returns-in-Simple : goal.returns-in-Simple
returns-in-Simple c = λ aliases e. rw c.in-Simple.is (rw c.deref_mut-in-Simple.ensures.value at (c.in_simple.ensures aliases e))
