use Rattle.std.proofs.Common.{◌≡◌, ap, ◌∙◌}
use Rattle.mc_c_syntax.specs.Ast.Names.{IsName, name_of}
use Rattle.mc_c_syntax.specs.Ast.Views.{left_of}
use Rattle.mc_c_parse_simple.specs.Simples.{with_field}
use Rattle.mc_c_parse_simple.proofs.Phrases.{takes_more, next_takes, next_stuck}
use Rattle.mc_c_parse_simple.proofs.Tokens.{only_name}
use Rattle.mc_c_parse_simple.proofs.simple.behind_arrow.Goals as goal

pub returns-in_ok-longer-in-Name : goal.returns-in_ok-longer-in-Name
returns-in_ok-longer-in-Name c = λ aliases. let is : IsName c.args.token.now = rw c.in-Name.is at c.requires in let l : left_of c.in_ok-longer-in-Name.longer ≡ with_field (left_of c.args.left) (name_of c.args.token.now) = c.in_ok-longer-in-Name.ensures ∙ ap (with_field (left_of c.args.left)) c.in_ok-name-in-Name.ensures in rw l (takes_more (next_takes is))

pub returns-in_default : goal.returns-in_default
returns-in_default c = λ aliases. next_stuck (λ i. c.in_default.not-Name (only_name _ _ c.requires i))
