use Rattle.std.proofs.Common.{◌≡◌, ◌∙◌, [], List, Some, subst, sym}
use Rattle.mc_c_syntax.specs.declared.ast.class.Class.{Class}
use Rattle.mc_c_syntax.specs.Ast.Classes.{IsClass}
use Rattle.mc_c_syntax.specs.Ast.Readers.{Takes, Finds}
use Rattle.mc_c_syntax.specs.Ast.Views.{expression_of}
use Rattle.mc_c_parse_expr.specs.declared.expression.Summed.TheVariants as Summed
use Rattle.mc_c_parse_expr.specs.declared.expression.Pending.{Pending}
use Rattle.mc_c_parse_expr.specs.declared.expression.Group.{Group}
use Rattle.mc_c_parse_expr.specs.Expressions.{AtSum, AtOperand, expression_marks}
use Rattle.mc_c_parse_expr.proofs.Classes.{plus_is, minus_is, after_is}
use Rattle.mc_c_parse_expr.proofs.Expressions.{plus_takes, difference_takes, end_finds, end_stuck}
use Rattle.mc_c_parse_expr.proofs.expression.ExpressionReader.behind_sum.Goals as goal

pub returns-in-Plus : goal.returns-in-Plus
returns-in-Plus c =
    let P : Class → Type 0 = λ k. IsClass c.args.token.now k in
    let Q : Pending → Type 0 = λ p. Takes expression_marks (AtSum c.args.self.now.groups (expression_of c.args.sum)) (AtOperand c.args.self.now.groups (record { sum = Some (Summed.Plus c.args.sum); factor = p.factor; minuses = p.minuses })) c.args.token.now in
    subst Q (sym c.requires.idle) (plus_takes c.args.self.now.groups c.args.sum c.args.token.now (subst P c.in-Plus.is c.requires.class))

pub returns-in-Minus : goal.returns-in-Minus
returns-in-Minus c =
    let P : Class → Type 0 = λ k. IsClass c.args.token.now k in
    let Q : Pending → Type 0 = λ p. Takes expression_marks (AtSum c.args.self.now.groups (expression_of c.args.sum)) (AtOperand c.args.self.now.groups (record { sum = Some (Summed.Difference c.args.sum); factor = p.factor; minuses = p.minuses })) c.args.token.now in
    subst Q (sym c.requires.idle) (difference_takes c.args.self.now.groups c.args.sum c.args.token.now (subst P c.in-Minus.is c.requires.class))

pub returns-then-is_empty : goal.returns-then-is_empty
returns-then-is_empty c =
    let e : c.args.self.now.groups ≡ [] = c.is_empty.ensures.0 c.if-is_empty.true in
    let P : List Group → Type 0 = λ gs. Finds (AtSum gs (expression_of c.args.sum)) c.args.token.now (expression_of c.args.sum) in
    subst P (sym e) (end_finds _ _ (λ m. c.in_default.not-Plus (plus_is c.args.class c.args.token.now m c.requires.class)) (λ m. c.in_default.not-Minus (minus_is c.args.class c.args.token.now m c.requires.class)))

pub returns-else-is_empty : goal.returns-else-is_empty
returns-else-is_empty c =
    end_stuck c.args.self.now.groups _ _ (λ e. let t = c.is_empty.ensures.1 e in let f = c.if-is_empty.false in let both = sym t ∙ f in cc) (λ m. c.in_default.not-Plus (plus_is c.args.class c.args.token.now m c.requires.class)) (λ m. c.in_default.not-Minus (minus_is c.args.class c.args.token.now m c.requires.class)) (λ m. c.in_default.not-CloseParen (after_is c.args.class c.args.token.now m c.requires.class))
