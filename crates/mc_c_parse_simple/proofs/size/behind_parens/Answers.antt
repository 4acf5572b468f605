use Rattle.std.proofs.Common.{codes}
use Rattle.mc_c_syntax.specs.Ast.Names.{IsMark}
use Rattle.mc_c_parse_simple.proofs.Phrases.{next_stuck, either_left}
use Rattle.mc_c_parse_simple.proofs.Tokens.{only_star}
use Rattle.mc_c_parse_simple.proofs.Sizes.{size_step_along, parens_star}
use Rattle.mc_c_parse_simple.proofs.size.behind_parens.Goals as goal

pub returns-in-Star : goal.returns-in-Star
returns-in-Star c = λ aliases e. let is : IsMark (codes "*") c.args.token.now = rw c.in-Star.is at c.requires in parens_star aliases _ is

pub returns-in_ok-step-in_default : goal.returns-in_ok-step-in_default
returns-in_ok-step-in_default c = λ aliases e. size_step_along aliases _ (either_left (next_stuck (λ i. c.in_default.not-Star (only_star _ _ c.requires i)))) (c.in_ok-step-in_default.ensures aliases e)
