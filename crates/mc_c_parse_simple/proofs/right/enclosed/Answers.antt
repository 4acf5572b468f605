use Rattle.std.proofs.Common.{codes, subst, ap, ◌∙◌}
use Rattle.mc_c_syntax.specs.Ast.Names.{IsWord}
use Rattle.mc_c_syntax.specs.Ast.Readers.{IsSame}
use Rattle.mc_c_syntax.specs.Ast.Trees.{parens}
use Rattle.mc_c_parse_expr.specs.Expressions.{CompletesExpression, BehindOperand}
use Rattle.mc_c_parse_simple.proofs.Phrases.{then_same, same_at, turned}
use Rattle.mc_c_parse_simple.proofs.Tokens.{only_malloc}
use Rattle.mc_c_parse_simple.proofs.Rights.{right_step_along, enclosed_malloc, enclosed_other}
use Rattle.mc_c_parse_simple.proofs.right.enclosed.Goals as goal

pub returns-in-Malloc : goal.returns-in-Malloc
returns-in-Malloc c = λ aliases. let is : IsWord (codes "malloc") c.args.token.now = rw c.in-Malloc.is at c.requires in enclosed_malloc aliases _ _ is

pub returns-in_ok-step-in_default : goal.returns-in_ok-step-in_default
returns-in_ok-step-in_default c = λ aliases. right_step_along aliases _ (enclosed_other aliases _ _ (λ i. c.in_default.not-Malloc (only_malloc _ _ c.requires i))) (right_step_along aliases _ (same_at _ (then_same (turned (subst (λ u. IsSame (CompletesExpression c.behind_operand-reader.result) (BehindOperand u)) (c.in_ok-operand-in_default.ensures ∙ ap (parens c.args.place) c.named-value.ensures) c.behind_operand-reader.ensures)))) (c.in_ok-step-in_default.ensures aliases))
