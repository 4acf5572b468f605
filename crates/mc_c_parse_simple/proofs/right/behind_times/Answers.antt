use Rattle.std.proofs.Common.{codes, subst, refl}
use Rattle.mc_c_syntax.specs.Ast.Names.{IsMark}
use Rattle.mc_base.specs.declared.text.token.Token.{Token}
use Rattle.mc_base.specs.declared.text.token.TokenKind.TheVariants as TokenKind
use Rattle.mc_c_parse_expr.specs.Expressions.{CompletesExpression, StepsExpression}
use Rattle.mc_c_parse_simple.proofs.Rights.{times_same, times_not_found, times_not_stuck}
use Rattle.mc_c_parse_simple.proofs.right.behind_times.Goals as goal

pub unreachable-requires : goal.unreachable-requires
unreachable-requires c = let tok : Token = record { kind = TokenKind.Mark; text = c.in_ok-text.text; place = c.args.star } in let is : IsMark (codes "*") tok = record { kind = refl; text = c.in_ok-text.ensures } in times_not_found c.args.name c.behind_name-reader.ensures is (subst (λ s. StepsExpression (CompletesExpression c.behind_name-reader.result) (CompletesExpression c.step.new.self) tok s) c.in-Found.is c.in_ok-step.ensures)

pub unreachable-requires-in-Stuck : goal.unreachable-requires-in-Stuck
unreachable-requires-in-Stuck c = let tok : Token = record { kind = TokenKind.Mark; text = c.in_ok-text.text; place = c.args.star } in let is : IsMark (codes "*") tok = record { kind = refl; text = c.in_ok-text.ensures } in times_not_stuck c.args.name c.behind_name-reader.ensures is (subst (λ s. StepsExpression (CompletesExpression c.behind_name-reader.result) (CompletesExpression c.step.new.self) tok s) c.in-Stuck.is c.in_ok-step.ensures)

pub returns : goal.returns
returns c = λ place. let tok : Token = record { kind = TokenKind.Mark; text = c.in_ok-text.text; place = c.args.star } in let is : IsMark (codes "*") tok = record { kind = refl; text = c.in_ok-text.ensures } in times_same c.args.name c.behind_name-reader.ensures is (subst (λ s. StepsExpression (CompletesExpression c.behind_name-reader.result) (CompletesExpression c.step.new.self) tok s) c.in-Taken.is c.in_ok-step.ensures) place
