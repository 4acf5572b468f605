use Rattle.std.proofs.Common.{◌∙◌, Some, subst, sym}
use Rattle.mc_c_syntax.specs.declared.ast.class.Class.{Class}
use Rattle.mc_c_syntax.specs.Ast.Classes.{IsClass}
use Rattle.mc_c_syntax.specs.Ast.Readers.{Takes}
use Rattle.mc_c_parse_expr.specs.declared.condition.ConditionPending.{ConditionPending}
use Rattle.mc_c_parse_expr.specs.Conditions.{AtConditionOperand, AtEither, condition_marks, whole_of}
use Rattle.mc_c_parse_expr.proofs.Classes.{or_is, after_is}
use Rattle.mc_c_parse_expr.proofs.Conditions.{or_takes, end_finds, end_stuck}
use Rattle.mc_c_parse_expr.proofs.condition.ConditionReader.behind_both.Goals as goal

pub returns-in_ok-made-in-Or : goal.returns-in_ok-made-in-Or
returns-in_ok-made-in-Or c =
    let P : Class → Type 0 = λ k. IsClass c.args.token.now k in
    let Q : ConditionPending → Type 0 = λ p. Takes condition_marks (AtEither c.args.self.now.groups (whole_of c.args.whole)) (AtConditionOperand c.args.self.now.groups (record { either = Some c.in_ok-made-in-Or.field-0; both = p.both; bangs = p.bangs })) c.args.token.now in
    subst Q (sym c.requires.idle) (or_takes c.args.self.now.groups _ c.in_ok-made-in-Or.field-0 c.args.token.now (subst P c.in-Or.is c.requires.class) c.in_ok-made-in-Or.ensures)

pub returns-in_ok-condition-in_default : goal.returns-in_ok-condition-in_default
returns-in_ok-condition-in_default c = end_finds c.args.self.now.groups _ _ c.args.token.now (c.is_empty.ensures.0 c.if-is_empty.true) c.in_ok-condition-in_default.ensures (λ m. c.in_default.not-Or (or_is c.args.class c.args.token.now m c.requires.class))

pub returns-else-is_empty : goal.returns-else-is_empty
returns-else-is_empty c = end_stuck c.args.self.now.groups _ c.args.token.now (λ e. let t = c.is_empty.ensures.1 e in let f = c.if-is_empty.false in let both = sym t ∙ f in cc) (λ m. c.in_default.not-Or (or_is c.args.class c.args.token.now m c.requires.class)) (λ m. c.in_default.not-CloseParen (after_is c.args.class c.args.token.now m c.requires.class))
