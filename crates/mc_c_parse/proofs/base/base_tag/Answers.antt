use Rattle.mc_c_parse.proofs.Bases.{tag_name, tag_stuck}
use Rattle.mc_c_parse.proofs.base.base_tag.Goals as goal

pub returns-in_ok-name-in-Name : goal.returns-in_ok-name-in-Name
returns-in_ok-name-in-Name c = λ aliases. rw c.in_ok-name-in-Name.ensures (tag_name aliases (rw c.in-Name.is at c.requires))

pub returns-in_default : goal.returns-in_default
returns-in_default c = λ aliases. tag_stuck aliases _ c.requires c.in_default.not-Name
