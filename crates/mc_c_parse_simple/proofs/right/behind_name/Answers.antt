use Rattle.std.proofs.Common.{codes}
use Rattle.mc_c_syntax.specs.Ast.Names.{IsMark}
use Rattle.mc_c_parse_simple.proofs.Phrases.{takes_to, next_stuck, then_same, same_at, turned, either_left}
use Rattle.mc_c_parse_simple.proofs.Tokens.{only_open_paren}
use Rattle.mc_c_parse_simple.proofs.Rights.{right_step_along, name_open}
use Rattle.mc_c_parse_simple.proofs.right.behind_name.Goals as goal

pub returns-in-OpenParen : goal.returns-in-OpenParen
returns-in-OpenParen c = λ aliases. let is : IsMark (codes "(") c.args.token.now = rw c.in-OpenParen.is at c.requires in takes_to (name_open _ is) (then_same c.new-reader.ensures)

pub returns-in_ok-step-in_default : goal.returns-in_ok-step-in_default
returns-in_ok-step-in_default c = λ aliases. right_step_along aliases _ (either_left (next_stuck (λ i. c.in_default.not-OpenParen (only_open_paren _ _ c.requires i)))) (right_step_along aliases _ (same_at _ (then_same (turned c.behind_name-reader.ensures))) (c.in_ok-step-in_default.ensures aliases))
