use Rattle.mc_def_parse.proofs.FileLemmas.{outside_end}
use Rattle.mc_def_parse.proofs.file.FileReader.outside.Goals as goal

pub returns-in-End : goal.returns-in-End
returns-in-End c = (outside_end _ c.in-End.is, c.in-End.is)
