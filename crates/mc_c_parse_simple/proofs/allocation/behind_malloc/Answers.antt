use Rattle.std.proofs.Common.{codes}
use Rattle.mc_c_syntax.specs.Ast.Names.{IsMark}
use Rattle.mc_c_parse_simple.proofs.Phrases.{next_takes, next_stuck}
use Rattle.mc_c_parse_simple.proofs.Tokens.{only_open_paren}
use Rattle.mc_c_parse_simple.proofs.allocation.behind_malloc.Goals as goal

pub returns-in-OpenParen : goal.returns-in-OpenParen
returns-in-OpenParen c = λ aliases. let is : IsMark (codes "(") c.args.token.now = rw c.in-OpenParen.is at c.requires in next_takes is

pub returns-in_default : goal.returns-in_default
returns-in_default c = λ aliases. next_stuck (λ i. c.in_default.not-OpenParen (only_open_paren _ _ c.requires i))
