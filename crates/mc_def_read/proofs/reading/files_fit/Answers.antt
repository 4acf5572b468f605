use Rattle.mc_def_read.proofs.Whole.{whole_file}
use Rattle.mc_def_read.proofs.Fits.{judged_fits}
use Rattle.mc_def_read.proofs.reading.files_fit.Goals as goal

pub returns : goal.returns
returns c = λ structs file tokens defs spells said. judged_fits structs file defs (whole_file spells) said
