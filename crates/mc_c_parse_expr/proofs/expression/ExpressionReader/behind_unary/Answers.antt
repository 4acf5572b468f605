use Rattle.std.proofs.Common.{◌≡◌, List, Option, Some, ap, subst, sym, ◌∙◌}
use Rattle.mc_base.specs.declared.text.place.Place.{Place}
use Rattle.mc_c_syntax.specs.declared.ast.trees.Expression.{Expression}
use Rattle.mc_c_syntax.specs.Ast.Trees.{Expr}
use Rattle.mc_c_syntax.specs.declared.ast.class.Class.{Class}
use Rattle.mc_c_syntax.specs.Ast.Classes.{IsClass}
use Rattle.mc_c_syntax.specs.Ast.Readers.{Takes}
use Rattle.mc_c_syntax.specs.Ast.Views.{expression_of}
use Rattle.mc_c_parse_expr.specs.declared.expression.Summed.{Summed}
use Rattle.mc_c_parse_expr.specs.Expressions.{GoesOn, Behind, AtOperand, expression_marks, product_of, sum_of, negated}
use Rattle.mc_c_parse_expr.proofs.Classes.{star_is}
use Rattle.mc_c_parse_expr.proofs.Expressions.{star_takes, sum_same, steps_same}
use Rattle.mc_c_parse_expr.proofs.expression.ExpressionReader.behind_unary.Goals as goal

pub returns-in-Star : goal.returns-in-Star
returns-in-Star c =
    let P : Class → Type 0 = λ k. IsClass c.args.token.now k in
    let Q : List Place → Type 0 = λ ms. Takes expression_marks (GoesOn c.args.self.now.pending (expression_of c.args.operand) (Behind c.args.self.now.groups)) (AtOperand c.args.self.now.groups (record { sum = c.args.self.now.pending.sum; factor = Some c.in_ok-product.product; minuses = ms })) c.args.token.now in
    let F : Option Expression → Expr = λ f. product_of f (expression_of c.in_ok-operand.operand) in
    let e : expression_of c.in_ok-product.product ≡ product_of c.args.self.now.pending.factor (negated c.args.self.now.pending.minuses (expression_of c.args.operand)) = c.in_ok-product.ensures ∙ ap F c.take.ensures.value ∙ ap (product_of c.args.self.now.pending.factor) c.in_ok-operand.ensures.0 in
    subst Q (sym c.in_ok-operand.ensures.1) (star_takes c.args.self.now.groups c.args.self.now.pending _ c.in_ok-product.product c.args.token.now (subst P c.in-Star.is c.requires) e)

pub returns-in_ok-step-in_default : goal.returns-in_ok-step-in_default
returns-in_ok-step-in_default c =
    let F : Option Expression → Expr = λ f. product_of f (expression_of c.in_ok-operand.operand) in
    let e : expression_of c.in_ok-product.product ≡ product_of c.args.self.now.pending.factor (negated c.args.self.now.pending.minuses (expression_of c.args.operand)) = c.in_ok-product.ensures ∙ ap F c.take.ensures.value ∙ ap (product_of c.args.self.now.pending.factor) c.in_ok-operand.ensures.0 in
    let G : Option Summed → Expr = λ s. sum_of s (expression_of c.in_ok-product.product) in
    steps_same _ _ (sum_same c.args.self.now.groups c.args.self.now.pending (expression_of c.args.operand) _ c.args.token.now (λ m. c.in_default.not-Star (star_is c.args.class c.args.token.now m c.requires)) (c.in_ok-sum-in_default.ensures ∙ ap G c.take-in_default.ensures.value ∙ ap (sum_of c.args.self.now.pending.sum) e)) c.in_ok-step-in_default.ensures
