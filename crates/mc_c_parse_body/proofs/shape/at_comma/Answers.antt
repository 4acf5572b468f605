use Rattle.mc_c_syntax.specs.declared.ast.class.Class.TheVariants as Class
use Rattle.mc_c_parse_simple.proofs.Phrases.{next_takes, next_stuck}
use Rattle.mc_c_parse_body.proofs.Unique.{class_of_mark}
use Rattle.mc_c_parse_body.proofs.Tokens.{of_class}
use Rattle.mc_c_parse_body.proofs.shape.at_comma.Goals as goal

pub returns-in-Assume : goal.returns-in-Assume
returns-in-Assume c = rw c.in-Assume.is (next_takes (of_class c.args.token.now Class.Comma c.in-Comma.is c.requires))

pub returns-in-Assert : goal.returns-in-Assert
returns-in-Assert c = rw c.in-Assert.is (next_takes (of_class c.args.token.now Class.Comma c.in-Comma.is c.requires))

pub returns-in_default : goal.returns-in_default
returns-in_default c = next_stuck (λ m. c.in_default.not-Comma (class_of_mark c.args.class Class.Comma c.args.token.now tt c.requires m))
