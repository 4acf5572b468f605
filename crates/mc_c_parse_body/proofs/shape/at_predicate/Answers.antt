use Rattle.mc_c_syntax.specs.declared.ast.class.Class.TheVariants as Class
use Rattle.mc_c_parse_simple.proofs.Phrases.{next_takes, next_stuck}
use Rattle.mc_c_parse_body.proofs.Unique.{class_of_name}
use Rattle.mc_c_parse_body.proofs.Tokens.{of_class}
use Rattle.mc_c_parse_body.proofs.shape.at_predicate.Goals as goal

pub returns-in_ok-predicate-in-Name : goal.returns-in_ok-predicate-in-Name
returns-in_ok-predicate-in-Name c = rw c.in_ok-predicate-in-Name.ensures (next_takes (of_class c.args.token.now Class.Name c.in-Name.is c.requires))

pub returns-in_default : goal.returns-in_default
returns-in_default c = next_stuck (λ n. c.in_default.not-Name (class_of_name c.args.class c.args.token.now c.requires n))
