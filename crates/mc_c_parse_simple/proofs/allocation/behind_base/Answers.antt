use Rattle.std.proofs.Common.{codes}
use Rattle.mc_c_syntax.specs.Ast.Names.{IsMark}
use Rattle.mc_c_parse_simple.proofs.Tokens.{only_close, only_star}
use Rattle.mc_c_parse_simple.proofs.Allocations.{cast_star, cast_close, cast_stuck}
use Rattle.mc_c_parse_simple.proofs.allocation.behind_base.Goals as goal

pub returns-in-Star : goal.returns-in-Star
returns-in-Star c = λ aliases. let is : IsMark (codes "*") c.args.token.now = rw c.in-Star.is at c.requires in cast_star aliases _ _ is

pub returns-in-CloseParen : goal.returns-in-CloseParen
returns-in-CloseParen c = λ aliases. let is : IsMark (codes ")") c.args.token.now = rw c.in-CloseParen.is at c.requires in cast_close aliases _ _ is

pub returns-in_default : goal.returns-in_default
returns-in_default c = λ aliases. cast_stuck aliases _ _ (λ i. c.in_default.not-Star (only_star _ _ c.requires i)) (λ i. c.in_default.not-CloseParen (only_close _ _ c.requires i))
