use Rattle.std.proofs.Common.{codes}
use Rattle.mc_c_syntax.specs.Ast.Names.{IsMark}
use Rattle.mc_c_parse_simple.proofs.Phrases.{takes_more, takes_to, then_same}
use Rattle.mc_c_parse_simple.proofs.Tokens.{only_open_paren}
use Rattle.mc_c_parse_simple.proofs.Simples.{simple_step_along, name_call, name_left}
use Rattle.mc_c_parse_simple.proofs.simple.behind_name.Goals as goal

pub returns-in-OpenParen : goal.returns-in-OpenParen
returns-in-OpenParen c = λ aliases. let is : IsMark (codes "(") c.args.token.now = rw c.in-OpenParen.is at c.requires in takes_more (takes_to (name_call aliases c.args.name is) (then_same c.new-reader.ensures))

pub returns-in_ok-step-in_default : goal.returns-in_ok-step-in_default
returns-in_ok-step-in_default c = λ aliases. simple_step_along aliases _ (name_left aliases c.args.name (λ i. c.in_default.not-OpenParen (only_open_paren _ _ c.requires i))) (rw c.just-left.ensures at (c.in_ok-step-in_default.ensures aliases))
