use Rattle.mc_c_parse_body.proofs.state.BodyReader.step.Goals as goal

pub returns-in-Some : goal.returns-in-Some
returns-in-Some c = λ aliases e. rw c.in-Some.is (c.expect.ensures aliases)

pub returns-in-None : goal.returns-in-None
returns-in-None c = λ aliases e. rw c.in-None.is (c.at_state.ensures aliases e)
