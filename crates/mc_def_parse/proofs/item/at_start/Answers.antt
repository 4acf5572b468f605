use Rattle.std.proofs.Common.{◌∙◌, sym}
use Rattle.mc_def_parse.proofs.ItemLemmas.{start_int, start_name}
use Rattle.mc_def_parse.proofs.item.at_start.Goals as goal

pub returns-in-Int : goal.returns-in-Int
returns-in-Int c = start_int (sym c.requires ∙ c.in-Int.is)

pub returns-in-Name : goal.returns-in-Name
returns-in-Name c = start_name (sym c.requires ∙ c.in-Name.is)
