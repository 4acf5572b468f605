use Rattle.mc_c_parse.proofs.DeclaratorLemmas.{declarator_star, declarator_name, declarator_stuck}
use Rattle.mc_c_parse.proofs.declarator.declarator_start.Goals as goal

pub returns-in-Star : goal.returns-in-Star
returns-in-Star c = declarator_star (rw c.in-Star.is at c.requires)

pub returns-in_ok-name-in-Name : goal.returns-in_ok-name-in-Name
returns-in_ok-name-in-Name c = rw c.in_ok-name-in-Name.ensures (declarator_name (rw c.in-Name.is at c.requires))

pub returns-in_default : goal.returns-in_default
returns-in_default c = declarator_stuck _ c.requires c.in_default.not-Star c.in_default.not-Name
