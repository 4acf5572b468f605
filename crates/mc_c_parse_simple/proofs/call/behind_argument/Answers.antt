use Rattle.std.proofs.Common.{codes}
use Rattle.mc_c_syntax.specs.Ast.Names.{IsMark}
use Rattle.mc_c_parse_simple.proofs.Phrases.{then_same, takes_to}
use Rattle.mc_c_parse_simple.proofs.Tokens.{only_close, only_comma}
use Rattle.mc_c_parse_simple.proofs.Calls.{arguments_comma, arguments_close, arguments_stuck}
use Rattle.mc_c_parse_simple.proofs.call.behind_argument.Goals as goal

pub returns-in_ok-reader-in-Comma : goal.returns-in_ok-reader-in-Comma
returns-in_ok-reader-in-Comma c = let is : IsMark (codes ",") c.args.token.now = rw c.in-Comma.is at c.requires in takes_to (arguments_comma _ _ is) (then_same c.in_ok-reader-in-Comma.ensures)

pub returns-in-CloseParen : goal.returns-in-CloseParen
returns-in-CloseParen c = let is : IsMark (codes ")") c.args.token.now = rw c.in-CloseParen.is at c.requires in arguments_close _ _ is

pub returns-in_default : goal.returns-in_default
returns-in_default c = arguments_stuck _ _ (λ i. c.in_default.not-Comma (only_comma _ _ c.requires i)) (λ i. c.in_default.not-CloseParen (only_close _ _ c.requires i))
