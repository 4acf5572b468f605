use Rattle.std.proofs.Common.{subst, sym}
use Rattle.mc_c_syntax.specs.Ast.Grammar.{IsSum}
use Rattle.mc_c_syntax.specs.Ast.Readers.{IsSame}
use Rattle.mc_c_parse_expr.specs.declared.expression.ExpressionReader.{ExpressionReader}
use Rattle.mc_c_parse_expr.specs.Expressions.{CompletesExpression}
use Rattle.mc_c_parse_expr.proofs.Starts.{sum_same}
use Rattle.mc_c_parse_expr.proofs.expression.ExpressionReader.new.Goals as goal

pub returns : goal.returns
returns c = let P : ExpressionReader → Type 0 = λ r. IsSame (CompletesExpression r) (λ tokens rest e. IsSum e tokens rest) in subst P (sym c.at_spot.ensures) sum_same
