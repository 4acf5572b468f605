use Rattle.mc_c_parse.proofs.DeclaratorLemmas.{pointed_name, pointed_stuck}
use Rattle.mc_c_parse.proofs.declarator.declarator_name.Goals as goal

pub returns-in_ok-name-in-Name : goal.returns-in_ok-name-in-Name
returns-in_ok-name-in-Name c = rw c.in_ok-name-in-Name.ensures (pointed_name (rw c.in-Name.is at c.requires))

pub returns-in_default : goal.returns-in_default
returns-in_default c = pointed_stuck _ c.requires c.in_default.not-Name
