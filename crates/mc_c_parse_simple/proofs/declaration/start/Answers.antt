use Rattle.std.proofs.Common.{codes}
use Rattle.mc_c_syntax.specs.Ast.Names.{IsMark, IsName}
use Rattle.mc_c_parse_simple.proofs.Tokens.{only_name, only_star}
use Rattle.mc_c_parse_simple.proofs.Declarations.{comma_star, comma_name, comma_stuck}
use Rattle.mc_c_parse_simple.proofs.declaration.start.Goals as goal

pub returns-in-Star : goal.returns-in-Star
returns-in-Star c = λ aliases. let is : IsMark (codes "*") c.args.token.now = rw c.in-Star.is at c.requires in comma_star aliases _ _ is

pub returns-in_ok-name-in-Name : goal.returns-in_ok-name-in-Name
returns-in_ok-name-in-Name c = λ aliases. let is : IsName c.args.token.now = rw c.in-Name.is at c.requires in rw c.in_ok-name-in-Name.ensures (comma_name aliases _ _ is)

pub returns-in_default : goal.returns-in_default
returns-in_default c = λ aliases. comma_stuck aliases _ _ (λ i. c.in_default.not-Star (only_star _ _ c.requires i)) (λ i. c.in_default.not-Name (only_name _ _ c.requires i))
