use Rattle.std.proofs.Common.{codes}
use Rattle.mc_c_syntax.specs.Ast.Names.{IsMark}
use Rattle.mc_c_syntax.specs.Ast.Views.{left_of}
use Rattle.mc_c_parse_simple.proofs.Tokens.{only_arrow}
use Rattle.mc_c_parse_simple.proofs.Simples.{first_arrow, first_found}
use Rattle.mc_c_parse_simple.proofs.simple.first_left.Goals as goal

pub returns-in-Arrow : goal.returns-in-Arrow
returns-in-Arrow c = λ aliases. let is : IsMark (codes "->") c.args.token.now = rw c.in-Arrow.is at c.requires in first_arrow _ _ _ is

pub returns-in_default : goal.returns-in_default
returns-in_default c = λ aliases. rw c.changed_first-simple.ensures (first_found c.args.change c.args.place (left_of c.args.left) (λ i. c.in_default.not-Arrow (only_arrow _ _ c.requires i)))
