use Rattle.std.proofs.Common.{codes}
use Rattle.mc_c_syntax.specs.Ast.Names.{IsMark}
use Rattle.mc_c_parse_simple.proofs.Tokens.{only_comma, only_semicolon}
use Rattle.mc_c_parse_simple.proofs.Declarations.{initials_comma, initials_close, initials_stuck}
use Rattle.mc_c_parse_simple.proofs.declaration.behind_initial.Goals as goal

pub returns-in-Comma : goal.returns-in-Comma
returns-in-Comma c = λ aliases. let is : IsMark (codes ",") c.args.token.now = rw c.in-Comma.is at c.requires in initials_comma aliases _ _ is

pub returns-in-Semicolon : goal.returns-in-Semicolon
returns-in-Semicolon c = λ aliases. let is : IsMark (codes ";") c.args.token.now = rw c.in-Semicolon.is at c.requires in initials_close aliases _ _ is

pub returns-in_default : goal.returns-in_default
returns-in_default c = λ aliases. initials_stuck aliases _ _ (λ i. c.in_default.not-Comma (only_comma _ _ c.requires i)) (λ i. c.in_default.not-Semicolon (only_semicolon _ _ c.requires i))
