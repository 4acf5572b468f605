use Rattle.std.proofs.Common.{codes}
use Rattle.mc_c_syntax.specs.Ast.Names.{IsMark}
use Rattle.mc_c_parse_simple.proofs.Tokens.{only_open_paren, only_star}
use Rattle.mc_c_parse_simple.proofs.Sizes.{sizeof_open, sizeof_star, sizeof_stuck}
use Rattle.mc_c_parse_simple.proofs.size.behind_sizeof.Goals as goal

pub returns-in-OpenParen : goal.returns-in-OpenParen
returns-in-OpenParen c = λ aliases. let is : IsMark (codes "(") c.args.token.now = rw c.in-OpenParen.is at c.requires in sizeof_open aliases _ is

pub returns-in-Star : goal.returns-in-Star
returns-in-Star c = λ aliases. let is : IsMark (codes "*") c.args.token.now = rw c.in-Star.is at c.requires in sizeof_star aliases _ is

pub returns-in_default : goal.returns-in_default
returns-in_default c = λ aliases. sizeof_stuck aliases _ (λ i. c.in_default.not-OpenParen (only_open_paren _ _ c.requires i)) (λ i. c.in_default.not-Star (only_star _ _ c.requires i))
