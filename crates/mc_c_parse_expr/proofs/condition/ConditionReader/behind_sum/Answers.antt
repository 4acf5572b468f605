use Rattle.std.proofs.Common.{subst}
use Rattle.mc_c_syntax.specs.declared.ast.class.Class.{Class}
use Rattle.mc_c_syntax.specs.Ast.Classes.{IsClass}
use Rattle.mc_c_parse_expr.proofs.Classes.{and_is, or_is, after_is, compare_is}
use Rattle.mc_c_parse_expr.proofs.Conditions.{compare_takes, alone_same, steps_same}
use Rattle.mc_c_parse_expr.proofs.condition.ConditionReader.behind_sum.Goals as goal

pub returns-in-Compare : goal.returns-in-Compare
returns-in-Compare c =
    let P : Class → Type 0 = λ k. IsClass c.args.token.now k in
    let h = subst P c.in-Compare.is c.requires in
    compare_takes c.args.self.now.groups c.args.self.now.pending _ c.in-Compare.mark _ c.args.token.now h (λ m. let e = and_is (Class.Compare c.in-Compare.mark) c.args.token.now m h in cc) (λ m. let e = or_is (Class.Compare c.in-Compare.mark) c.args.token.now m h in cc) (λ m. let e = after_is (Class.Compare c.in-Compare.mark) c.args.token.now m h in cc) c.new.ensures

pub returns-in_ok-step-in_default : goal.returns-in_ok-step-in_default
returns-in_ok-step-in_default c = steps_same _ _ (alone_same c.args.self.now.groups c.args.self.now.pending _ c.args.token.now (λ k m. c.in_default.not-Compare k (compare_is k c.args.class c.args.token.now m c.requires))) c.in_ok-step-in_default.ensures
