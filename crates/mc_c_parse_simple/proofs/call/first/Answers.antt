use Rattle.std.proofs.Common.{codes}
use Rattle.mc_c_syntax.specs.Ast.Names.{IsMark}
use Rattle.mc_c_parse_simple.proofs.Phrases.{next_stuck, then_same, same_at, turned, either_right}
use Rattle.mc_c_parse_simple.proofs.Tokens.{only_close}
use Rattle.mc_c_parse_simple.proofs.Calls.{call_step_along, first_close}
use Rattle.mc_c_parse_simple.proofs.call.first.Goals as goal

pub returns-in-CloseParen : goal.returns-in-CloseParen
returns-in-CloseParen c = let is : IsMark (codes ")") c.args.token.now = rw c.in-CloseParen.is at c.requires in first_close _ _ is

pub returns-in_ok-step-in_default : goal.returns-in_ok-step-in_default
returns-in_ok-step-in_default c = call_step_along _ (either_right (next_stuck (λ i. c.in_default.not-CloseParen (only_close _ _ c.requires i)))) (call_step_along _ (same_at _ (then_same (turned c.in_ok-reader-in_default.ensures))) c.in_ok-step-in_default.ensures)
