use Rattle.mc_c_syntax.specs.declared.ast.class.Class.TheVariants as Class
use Rattle.mc_c_parse_simple.proofs.Phrases.{takes_to, then_closes, then_stuck}
use Rattle.mc_c_parse_body.proofs.Unique.{class_of_number}
use Rattle.mc_c_parse_body.proofs.Tokens.{of_class}
use Rattle.mc_c_parse_body.proofs.ShapeTurns.{minus_number, minus_stuck}
use Rattle.mc_c_parse_body.proofs.shape.behind_minus.Goals as goal

pub returns-in_ok-reader-in-Number : goal.returns-in_ok-reader-in-Number
returns-in_ok-reader-in-Number c = takes_to (then_closes (minus_number c.args.place c.in-Number.number (of_class c.args.token.now (Class.Number c.in-Number.number) c.in-Number.is c.requires))) c.in_ok-reader-in-Number.ensures

pub returns-in_default : goal.returns-in_default
returns-in_default c = then_stuck (minus_stuck c.args.place (λ n k. c.in_default.not-Number n (class_of_number c.args.class c.args.token.now n c.requires k)))
