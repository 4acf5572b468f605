use Rattle.std.proofs.Common.{◌≡◌, ap, ◌∙◌}
use Rattle.mc_c_syntax.specs.Ast.Names.{IsName, name_of}
use Rattle.mc_c_syntax.specs.Ast.Views.{left_of}
use Rattle.mc_c_parse_simple.specs.Simples.{just}
use Rattle.mc_c_parse_simple.proofs.Phrases.{takes_more, next_takes, next_stuck}
use Rattle.mc_c_parse_simple.proofs.Tokens.{only_name}
use Rattle.mc_c_parse_simple.proofs.simple.first.Goals as goal

pub returns-in_ok-name-in-Name : goal.returns-in_ok-name-in-Name
returns-in_ok-name-in-Name c = λ aliases. let is : IsName c.args.token.now = rw c.in-Name.is at c.requires in let l : left_of c.just-left.result ≡ just (name_of c.args.token.now) = c.just-left.ensures ∙ ap just c.in_ok-name-in-Name.ensures in rw l (takes_more (next_takes is))

pub returns-in_default : goal.returns-in_default
returns-in_default c = λ aliases. next_stuck (λ i. c.in_default.not-Name (only_name _ _ c.requires i))
