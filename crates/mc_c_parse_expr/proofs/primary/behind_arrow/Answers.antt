use Rattle.std.proofs.Common.{subst}
use Rattle.mc_c_syntax.specs.declared.ast.class.Class.{Class}
use Rattle.mc_c_syntax.specs.Ast.Classes.{IsClass}
use Rattle.mc_c_parse_expr.proofs.Classes.{name_is}
use Rattle.mc_c_parse_expr.proofs.Primaries.{arrow_takes, arrow_name}
use Rattle.mc_c_parse_expr.proofs.primary.behind_arrow.Goals as goal

pub returns-in_ok-left-in-Name : goal.returns-in_ok-left-in-Name
returns-in_ok-left-in-Name c = arrow_takes (let P : Class → Type 0 = λ k. IsClass c.args.token.now k in subst P c.in-Name.is c.requires) c.in_ok-left-in-Name.ensures

pub returns-in_default : goal.returns-in_default
returns-in_default c tokens rest x h = c.in_default.not-Name (name_is c.args.class c.args.token.now (arrow_name h) c.requires)
