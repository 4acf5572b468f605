use Rattle.std.proofs.Common.{codes}
use Rattle.mc_c_syntax.specs.Ast.Names.{IsMark}
use Rattle.mc_c_parse_simple.proofs.Phrases.{takes_more, then_same, same_at, turned}
use Rattle.mc_c_parse_simple.proofs.Tokens.{only_close}
use Rattle.mc_c_parse_simple.proofs.Rights.{right_step_along, star_close, star_other}
use Rattle.mc_c_parse_simple.proofs.right.opened_star.Goals as goal

pub returns-in-CloseParen : goal.returns-in-CloseParen
returns-in-CloseParen c = λ aliases. let is : IsMark (codes ")") c.args.token.now = rw c.in-CloseParen.is at c.requires in takes_more (star_close aliases _ _ _ is)

pub returns-in_ok-step-in_default : goal.returns-in_ok-step-in_default
returns-in_ok-step-in_default c = λ aliases. right_step_along aliases _ (star_other aliases _ _ _ (λ i. c.in_default.not-CloseParen (only_close _ _ c.requires i))) (right_step_along aliases _ (same_at _ (then_same (turned (c.in_ok-fresh-in_default.ensures c.args.place)))) (rw c.in_ok-reader-in_default.ensures.ok at (c.in_ok-step-in_default.ensures aliases)))
