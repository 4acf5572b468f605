use Rattle.mc_c_syntax.specs.declared.ast.class.Class.TheVariants as Class
use Rattle.mc_c_parse_simple.proofs.Phrases.{takes_to, then_moves, then_closes, then_stuck}
use Rattle.mc_c_parse_body.proofs.Unique.{class_of_mark, class_of_word, class_of_name, class_of_number}
use Rattle.mc_c_parse_body.proofs.Tokens.{of_class}
use Rattle.mc_c_parse_body.proofs.ShapeTurns.{argument_name, argument_null, argument_number, argument_minus, argument_stuck}
use Rattle.mc_c_parse_body.proofs.shape.at_argument.Goals as goal

pub returns-in_ok-reader-in-Name : goal.returns-in_ok-reader-in-Name
returns-in_ok-reader-in-Name c = takes_to (then_closes (argument_name (of_class c.args.token.now Class.Name c.in-Name.is c.requires))) (rw c.in_ok-name-in-Name.ensures at c.in_ok-reader-in-Name.ensures)

pub returns-in_ok-reader-in-Null : goal.returns-in_ok-reader-in-Null
returns-in_ok-reader-in-Null c = takes_to (then_closes (argument_null (of_class c.args.token.now Class.Null c.in-Null.is c.requires))) c.in_ok-reader-in-Null.ensures

pub returns-in_ok-reader-in-Number : goal.returns-in_ok-reader-in-Number
returns-in_ok-reader-in-Number c = takes_to (then_closes (argument_number c.in-Number.number (of_class c.args.token.now (Class.Number c.in-Number.number) c.in-Number.is c.requires))) c.in_ok-reader-in-Number.ensures

pub returns-in-Minus : goal.returns-in-Minus
returns-in-Minus c = then_moves (argument_minus (of_class c.args.token.now Class.Minus c.in-Minus.is c.requires))

pub returns-in_default : goal.returns-in_default
returns-in_default c = then_stuck (argument_stuck
    (λ n. c.in_default.not-Name (class_of_name c.args.class c.args.token.now c.requires n))
    (λ w. c.in_default.not-Null (class_of_word c.args.class Class.Null c.args.token.now tt c.requires w))
    (λ n k. c.in_default.not-Number n (class_of_number c.args.class c.args.token.now n c.requires k))
    (λ m. c.in_default.not-Minus (class_of_mark c.args.class Class.Minus c.args.token.now tt c.requires m)))
