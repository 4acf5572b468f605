use Rattle.std.proofs.Common.{codes}
use Rattle.mc_c_syntax.specs.Ast.Names.{IsMark, IsWord, IsName}
use Rattle.mc_c_parse_simple.proofs.Phrases.{takes_more, then_same, same_at, turned}
use Rattle.mc_c_parse_simple.proofs.Tokens.{only_name, only_open_paren, only_malloc}
use Rattle.mc_c_parse_simple.proofs.Rights.{right_step_along, right_name, right_open, right_malloc, right_sum}
use Rattle.mc_c_parse_simple.proofs.right.start.Goals as goal

pub returns-in_ok-name-in-Name : goal.returns-in_ok-name-in-Name
returns-in_ok-name-in-Name c = λ aliases. let is : IsName c.args.token.now = rw c.in-Name.is at c.requires in rw c.in_ok-name-in-Name.ensures (takes_more (right_name aliases is))

pub returns-in-OpenParen : goal.returns-in-OpenParen
returns-in-OpenParen c = λ aliases. let is : IsMark (codes "(") c.args.token.now = rw c.in-OpenParen.is at c.requires in takes_more (right_open aliases is)

pub returns-in-Malloc : goal.returns-in-Malloc
returns-in-Malloc c = λ aliases. let is : IsWord (codes "malloc") c.args.token.now = rw c.in-Malloc.is at c.requires in takes_more (right_malloc aliases is)

pub returns-in_ok-step-in_default : goal.returns-in_ok-step-in_default
returns-in_ok-step-in_default c = λ aliases. right_step_along aliases _ (right_sum aliases (λ i. c.in_default.not-Name (only_name _ _ c.requires i)) (λ i. c.in_default.not-OpenParen (only_open_paren _ _ c.requires i)) (λ i. c.in_default.not-Malloc (only_malloc _ _ c.requires i))) (right_step_along aliases _ (same_at _ (then_same (turned c.new-reader.ensures))) (c.in_ok-step-in_default.ensures aliases))
