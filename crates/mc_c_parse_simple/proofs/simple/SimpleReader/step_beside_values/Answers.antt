use Rattle.mc_c_parse_simple.proofs.simple.SimpleReader.step_beside_values.Goals as goal

pub moved-requires : goal.moved-requires
moved-requires c = record { class = c.requires.class; beside = rw c.replace-reader.ensures.value c.requires.beside }

pub returns-in-Taken : goal.returns-in-Taken
returns-in-Taken c = λ aliases e. rw c.in-Taken.is at (rw c.replace-reader.ensures.value at (c.in_ok-step.ensures aliases))

pub returns-in-Found : goal.returns-in-Found
returns-in-Found c = λ aliases e. rw c.in-Found.is at (rw c.replace-reader.ensures.value at (c.in_ok-step.ensures aliases))

pub returns-in-Stuck : goal.returns-in-Stuck
returns-in-Stuck c = λ aliases e. rw c.in-Stuck.is at (rw c.replace-reader.ensures.value at (c.in_ok-step.ensures aliases))
