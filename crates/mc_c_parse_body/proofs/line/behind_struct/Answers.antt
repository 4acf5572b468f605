use Rattle.mc_c_syntax.specs.declared.ast.class.Class.TheVariants as Class
use Rattle.mc_c_parse_simple.proofs.Phrases.{takes_to, next_takes, next_stuck}
use Rattle.mc_c_parse_body.proofs.Unique.{class_of_name}
use Rattle.mc_c_parse_body.proofs.Tokens.{of_class}
use Rattle.mc_c_parse_body.proofs.line.behind_struct.Goals as goal

pub returns-in_ok-line-in-Name : goal.returns-in_ok-line-in-Name
returns-in_ok-line-in-Name c = λ aliases. takes_to (next_takes (of_class c.args.token.now Class.Name c.in-Name.is c.requires)) (rw c.in_ok-name-in-Name.ensures at (c.in_ok-line-in-Name.ensures aliases))

pub returns-in_default : goal.returns-in_default
returns-in_default c = λ aliases. next_stuck (λ n. c.in_default.not-Name (class_of_name c.args.class c.args.token.now c.requires n))
