use Rattle.std.proofs.Common.{codes}
use Rattle.mc_c_syntax.specs.Ast.Names.{IsMark}
use Rattle.mc_c_parse_simple.proofs.Phrases.{next_stuck, next_closes}
use Rattle.mc_c_parse_simple.proofs.Tokens.{only_close}
use Rattle.mc_c_parse_simple.proofs.size.close.Goals as goal

pub returns-in-CloseParen : goal.returns-in-CloseParen
returns-in-CloseParen c = λ aliases. let is : IsMark (codes ")") c.args.token.now = rw c.in-CloseParen.is at c.requires in next_closes (λ t. c.args.size) is

pub returns-in_default : goal.returns-in_default
returns-in_default c = λ aliases. next_stuck (λ i. c.in_default.not-CloseParen (only_close _ _ c.requires i))
