use Rattle.std.proofs.Common.{codes, subst}
use Rattle.mc_c_syntax.specs.Ast.Names.{IsMark}
use Rattle.mc_c_syntax.specs.Ast.Readers.{IsSame}
use Rattle.mc_c_parse_expr.specs.Expressions.{CompletesExpression, BehindOperand}
use Rattle.mc_c_parse_simple.proofs.Phrases.{takes_more, takes_to, next_takes, next_stuck, then_moves, then_stuck, then_same}
use Rattle.mc_c_parse_simple.proofs.Tokens.{only_close}
use Rattle.mc_c_parse_simple.proofs.right.behind_parens.Goals as goal

pub returns-in_ok-reader-in-CloseParen : goal.returns-in_ok-reader-in-CloseParen
returns-in_ok-reader-in-CloseParen c = λ aliases. let is : IsMark (codes ")") c.args.token.now = rw c.in-CloseParen.is at c.requires in rw c.in_ok-reader-in-CloseParen.ensures.ok (takes_more (takes_to (then_moves (next_takes is)) (then_same (subst (λ u. IsSame (CompletesExpression c.behind_operand-fresh.result) (BehindOperand u)) c.in_ok-operand-in-CloseParen.ensures c.behind_operand-fresh.ensures))))

pub returns-in_default : goal.returns-in_default
returns-in_default c = λ aliases. then_stuck (next_stuck (λ i. c.in_default.not-CloseParen (only_close _ _ c.requires i)))
