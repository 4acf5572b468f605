use Rattle.mc_c_parse.proofs.HeaderLemmas.{returned_name, returned_stuck}
use Rattle.mc_c_parse.proofs.header.header_name.Goals as goal

pub returns-in_ok-name-in-Name : goal.returns-in_ok-name-in-Name
returns-in_ok-name-in-Name c = λ aliases. rw c.in_ok-name-in-Name.ensures (returned_name _ (rw c.in-Name.is at c.requires))

pub returns-in_default : goal.returns-in_default
returns-in_default c = λ aliases. returned_stuck _ _ c.requires c.in_default.not-Name
