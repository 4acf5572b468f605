use Rattle.mc_c_parse_body.proofs.Ends.{body_ends}
use Rattle.mc_c_parse_body.proofs.state.bodies_can_end.Goals as goal

pub returns : goal.returns
returns c = λ aliases reader. body_ends c.expressions_can_end.ensures c.conditions_can_end.ensures c.rights_can_end.ensures c.simples_can_end.ensures c.declarations_can_end.ensures aliases reader
