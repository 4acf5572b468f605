use Rattle.mc_c_syntax.specs.declared.ast.class.Class.TheVariants as Class
use Rattle.mc_c_parse_body.proofs.Unique.{class_of_mark}
use Rattle.mc_c_parse_body.proofs.Tokens.{of_class}
use Rattle.mc_c_parse_body.proofs.ShapeTurns.{arguments_comma, arguments_close, arguments_stuck}
use Rattle.mc_c_parse_body.proofs.shape.behind_arguments.Goals as goal

pub returns-in-Comma : goal.returns-in-Comma
returns-in-Comma c = arguments_comma c.args.shape c.args.arguments.items (of_class c.args.token.now Class.Comma c.in-Comma.is c.requires)

pub returns-in-CloseParen : goal.returns-in-CloseParen
returns-in-CloseParen c = rw c.shape_of.ensures (arguments_close c.args.shape c.args.arguments.items (of_class c.args.token.now Class.CloseParen c.in-CloseParen.is c.requires))

pub returns-in_default : goal.returns-in_default
returns-in_default c = arguments_stuck c.args.shape c.args.arguments.items
    (λ m. c.in_default.not-Comma (class_of_mark c.args.class Class.Comma c.args.token.now tt c.requires m))
    (λ m. c.in_default.not-CloseParen (class_of_mark c.args.class Class.CloseParen c.args.token.now tt c.requires m))
