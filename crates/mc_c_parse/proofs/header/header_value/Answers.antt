use Rattle.mc_c_parse.proofs.HeaderLemmas.{header_star, header_name, value_stuck}
use Rattle.mc_c_parse.proofs.header.header_value.Goals as goal

pub returns-in-Star : goal.returns-in-Star
returns-in-Star c = λ aliases. header_star _ (rw c.in-Star.is at c.requires)

pub returns-in_ok-name-in-Name : goal.returns-in_ok-name-in-Name
returns-in_ok-name-in-Name c = λ aliases. rw c.in_ok-name-in-Name.ensures (header_name _ (rw c.in-Name.is at c.requires))

pub returns-in_default : goal.returns-in_default
returns-in_default c = λ aliases. value_stuck _ _ c.requires c.in_default.not-Star c.in_default.not-Name
