use Rattle.std.proofs.Common.{subst}
use Rattle.mc_c_syntax.specs.declared.ast.class.Class.{Class}
use Rattle.mc_c_syntax.specs.Ast.Classes.{IsClass}
use Rattle.mc_c_parse_expr.proofs.Seen.{number_seen, null_seen}
use Rattle.mc_c_parse_expr.proofs.Turns.{moves_takes}
use Rattle.mc_c_parse_expr.proofs.Operands.{name_moves, number_moves, null_moves, input_moves, operand_stuck}
use Rattle.mc_c_parse_expr.proofs.expression.ExpressionReader.at_operand.Goals as goal

pub returns-in_ok-negate-in-Minus : goal.returns-in_ok-negate-in-Minus
returns-in_ok-negate-in-Minus c = moves_takes c.in_ok-negate-in-Minus.ensures

pub returns-in_ok-open_group-in-OpenParen : goal.returns-in_ok-open_group-in-OpenParen
returns-in_ok-open_group-in-OpenParen c = moves_takes c.in_ok-open_group-in-OpenParen.ensures

pub returns-in_ok-variable-in-Name : goal.returns-in_ok-variable-in-Name
returns-in_ok-variable-in-Name c = let P : Class → Type 0 = λ k. IsClass c.args.token.now k in moves_takes (name_moves c.args.self.now.groups c.args.self.now.pending c.in_ok-variable-in-Name.field-0 c.args.token.now (subst P c.in-Name.is c.requires) c.in_ok-variable-in-Name.ensures)

pub returns-in-Number : goal.returns-in-Number
returns-in-Number c = let P : Class → Type 0 = λ k. IsClass c.args.token.now k in moves_takes (number_moves c.args.self.now.groups c.args.self.now.pending c.in-Number.value _ c.args.token.now (subst P c.in-Number.is c.requires) (number_seen _ _))

pub returns-in-Null : goal.returns-in-Null
returns-in-Null c = let P : Class → Type 0 = λ k. IsClass c.args.token.now k in moves_takes (null_moves c.args.self.now.groups c.args.self.now.pending _ c.args.token.now (subst P c.in-Null.is c.requires) (null_seen _))

pub returns-in-Input : goal.returns-in-Input
returns-in-Input c = let P : Class → Type 0 = λ k. IsClass c.args.token.now k in moves_takes (input_moves c.args.self.now.groups c.args.self.now.pending c.args.token.now (subst P c.in-Input.is c.requires))

pub returns-in_default : goal.returns-in_default
returns-in_default c = operand_stuck c.args.self.now.groups c.args.self.now.pending c.args.class c.args.token.now (record { minus = c.in_default.not-Minus; before = c.in_default.not-OpenParen; name = c.in_default.not-Name; number = c.in_default.not-Number; null = c.in_default.not-Null; input = c.in_default.not-Input }) c.requires
