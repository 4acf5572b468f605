use Rattle.mc_c_parse_simple.proofs.Simples.{simple_behind_name}
use Rattle.mc_c_parse_simple.proofs.simple.SimpleReader.behind_name.Goals as goal

pub returns : goal.returns
returns c = λ aliases token is e. simple_behind_name aliases c.args.name token is e
