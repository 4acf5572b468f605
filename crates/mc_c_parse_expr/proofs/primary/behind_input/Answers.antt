use Rattle.std.proofs.Common.{subst}
use Rattle.mc_c_syntax.specs.declared.ast.class.Class.{Class}
use Rattle.mc_c_syntax.specs.Ast.Classes.{IsClass}
use Rattle.mc_c_parse_expr.proofs.Classes.{before_is}
use Rattle.mc_c_parse_expr.proofs.Primaries.{input_takes, input_mark}
use Rattle.mc_c_parse_expr.proofs.primary.behind_input.Goals as goal

pub returns-in-OpenParen : goal.returns-in-OpenParen
returns-in-OpenParen c = input_takes (let P : Class → Type 0 = λ k. IsClass c.args.token.now k in subst P c.in-OpenParen.is c.requires)

pub returns-in_default : goal.returns-in_default
returns-in_default c tokens rest x h = c.in_default.not-OpenParen (before_is c.args.class c.args.token.now (input_mark h) c.requires)
