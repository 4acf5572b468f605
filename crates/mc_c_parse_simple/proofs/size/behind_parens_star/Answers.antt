use Rattle.mc_c_syntax.specs.Ast.Names.{IsName}
use Rattle.mc_c_parse_simple.proofs.Phrases.{next_takes, next_stuck}
use Rattle.mc_c_parse_simple.proofs.Tokens.{only_name}
use Rattle.mc_c_parse_simple.proofs.size.behind_parens_star.Goals as goal

pub returns-in_ok-name-in-Name : goal.returns-in_ok-name-in-Name
returns-in_ok-name-in-Name c = λ aliases. let is : IsName c.args.token.now = rw c.in-Name.is at c.requires in rw c.in_ok-name-in-Name.ensures (next_takes is)

pub returns-in_default : goal.returns-in_default
returns-in_default c = λ aliases. next_stuck (λ i. c.in_default.not-Name (only_name _ _ c.requires i))
