use Rattle.std.proofs.Common.{List, [], subst, sym}
use Rattle.mc_c_syntax.specs.declared.ast.trees.Name.{Name}
use Rattle.mc_c_syntax.specs.Ast.Trees.{value}
use Rattle.mc_c_syntax.specs.Ast.Grammar.{Fields}
use Rattle.mc_c_syntax.specs.Ast.Readers.{IsSame}
use Rattle.mc_c_parse_expr.specs.declared.expression.ExpressionReader.{ExpressionReader}
use Rattle.mc_c_parse_expr.specs.declared.primary.Primary.TheVariants as Primary
use Rattle.mc_c_parse_expr.specs.Turns.{InTurn}
use Rattle.mc_c_parse_expr.specs.Primaries.{CompletesPrimary}
use Rattle.mc_c_parse_expr.specs.Expressions.{nothing, Behind, CompletesExpression, GoesOn, BehindName, BehindOperand}
use Rattle.mc_c_parse_expr.proofs.Starts.{name_same}
use Rattle.mc_c_parse_expr.proofs.expression.ExpressionReader.behind_name.Goals as goal

pub returns : goal.returns
returns c =
    let P : ExpressionReader → Type 0 = λ r. IsSame (CompletesExpression r) (BehindName c.args.name) in
    let Q : List Name → Type 0 = λ fs. IsSame (InTurn (CompletesPrimary (Primary.Left (record { name = c.args.name; fields = c.new.result }))) (λ u. GoesOn nothing u (Behind []))) (InTurn (λ tokens rest k. Fields (record { name = c.args.name; fields = fs }) tokens k rest) (λ k. BehindOperand (value k))) in
    subst P (sym c.at_spot.ensures) (subst Q c.new.ensures.items (name_same _))
