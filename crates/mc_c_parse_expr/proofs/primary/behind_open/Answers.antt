use Rattle.std.proofs.Common.{subst, sym}
use Rattle.mc_c_syntax.specs.declared.ast.class.Class.{Class}
use Rattle.mc_c_syntax.specs.Ast.Trees.{Expr}
use Rattle.mc_c_syntax.specs.Ast.Classes.{IsClass}
use Rattle.mc_c_syntax.specs.Ast.Readers.{Closes}
use Rattle.mc_c_parse_expr.specs.Primaries.{CompletesPrimary}
use Rattle.mc_c_parse_expr.specs.declared.primary.Primary.TheVariants as Primary
use Rattle.mc_c_parse_expr.proofs.Classes.{after_is}
use Rattle.mc_c_parse_expr.proofs.Seen.{input_seen}
use Rattle.mc_c_parse_expr.proofs.Primaries.{open_closes, open_mark}
use Rattle.mc_c_parse_expr.proofs.primary.behind_open.Goals as goal

pub returns-in-CloseParen : goal.returns-in-CloseParen
returns-in-CloseParen c =
    let P : Class → Type 0 = λ k. IsClass c.args.token.now k in
    let Q : Expr → Type 0 = Closes (CompletesPrimary (Primary.InputOpen c.args.place)) c.args.token.now in
    subst Q (sym (input_seen c.args.place)) (open_closes (subst P c.in-CloseParen.is c.requires))

pub returns-in_default : goal.returns-in_default
returns-in_default c tokens rest x h = c.in_default.not-CloseParen (after_is c.args.class c.args.token.now (open_mark h) c.requires)
