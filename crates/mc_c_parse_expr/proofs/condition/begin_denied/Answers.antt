use Rattle.std.proofs.Common.{subst}
use Rattle.mc_c_syntax.specs.declared.ast.class.Class.{Class}
use Rattle.mc_c_syntax.specs.Ast.Classes.{IsClass}
use Rattle.mc_c_parse_expr.proofs.ConditionOperands.{variable_denied, input_denied, denied_stuck}
use Rattle.mc_c_parse_expr.proofs.condition.begin_denied.Goals as goal

pub returns-in_ok-left-in-Name : goal.returns-in_ok-left-in-Name
returns-in_ok-left-in-Name c = let P : Class → Type 0 = λ k. IsClass c.args.token.now k in variable_denied c.in_ok-left-in-Name.left c.args.token.now (subst P c.in-Name.is c.requires.class) c.in_ok-left-in-Name.ensures

pub returns-in-Input : goal.returns-in-Input
returns-in-Input c = let P : Class → Type 0 = λ k. IsClass c.args.token.now k in input_denied c.args.token.now (subst P c.in-Input.is c.requires.class)

pub returns-in_default : goal.returns-in_default
returns-in_default c = denied_stuck c.args.class c.args.token.now c.requires.no_bang c.requires.no_parens c.in_default.not-Name c.in_default.not-Input c.requires.class
