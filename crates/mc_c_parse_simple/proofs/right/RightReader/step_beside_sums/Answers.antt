use Rattle.mc_c_parse_simple.proofs.right.RightReader.step_beside_sums.Goals as goal

pub moved-requires : goal.moved-requires
moved-requires c = record { class = c.requires.class; beside = rw c.replace-reader.ensures.value c.requires.beside }
