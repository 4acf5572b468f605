use Rattle.std.proofs.Common.{subst, sym}
use Rattle.mc_c_syntax.specs.declared.ast.class.Class.{Class}
use Rattle.mc_c_syntax.specs.Ast.Trees.{Expr}
use Rattle.mc_c_syntax.specs.Ast.Classes.{IsClass}
use Rattle.mc_c_syntax.specs.Ast.Readers.{Finds}
use Rattle.mc_c_parse_expr.specs.Primaries.{CompletesPrimary}
use Rattle.mc_c_parse_expr.specs.declared.primary.Primary.TheVariants as Primary
use Rattle.mc_c_parse_expr.proofs.Classes.{arrow_is}
use Rattle.mc_c_parse_expr.proofs.Seen.{value_seen}
use Rattle.mc_c_parse_expr.proofs.Primaries.{left_takes, left_finds}
use Rattle.mc_c_parse_expr.proofs.primary.behind_left.Goals as goal

pub returns-in-Arrow : goal.returns-in-Arrow
returns-in-Arrow c = left_takes (let P : Class → Type 0 = λ k. IsClass c.args.token.now k in subst P c.in-Arrow.is c.requires)

pub returns-in_default : goal.returns-in_default
returns-in_default c =
    let Q : Expr → Type 0 = Finds (CompletesPrimary (Primary.Left c.args.left)) c.args.token.now in
    subst Q (sym (value_seen c.args.left)) (left_finds (λ m. c.in_default.not-Arrow (arrow_is c.args.class c.args.token.now m c.requires)))
