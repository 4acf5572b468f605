use Rattle.std.proofs.Common.{◌≡◌, List, Option, Some, ap, refl, subst, sym, ◌∙◌}
use Rattle.mc_base.specs.declared.text.place.Place.{Place}
use Rattle.mc_c_syntax.specs.declared.ast.trees.Condition.{Condition}
use Rattle.mc_c_syntax.specs.Ast.Trees.{Cond}
use Rattle.mc_c_syntax.specs.declared.ast.class.Class.{Class}
use Rattle.mc_c_syntax.specs.Ast.Classes.{IsClass}
use Rattle.mc_c_syntax.specs.Ast.Readers.{Takes}
use Rattle.mc_c_parse_expr.specs.Conditions.{Joins, BehindCondition, AtConditionOperand, condition_marks, whole_of, both_of, either_of, denied}
use Rattle.mc_c_parse_expr.proofs.Classes.{and_is}
use Rattle.mc_c_parse_expr.proofs.Conditions.{and_takes, either_same, steps_same}
use Rattle.mc_c_parse_expr.proofs.condition.ConditionReader.behind_whole.Goals as goal

pub returns-in_ok-made-in-And : goal.returns-in_ok-made-in-And
returns-in_ok-made-in-And c =
    let P : Class → Type 0 = λ k. IsClass c.args.token.now k in
    let Q : List Place → Type 0 = λ bs. Takes condition_marks (Joins c.args.self.now.pending (whole_of c.args.operand) (BehindCondition c.args.self.now.groups)) (AtConditionOperand c.args.self.now.groups (record { either = c.args.self.now.pending.either; both = Some c.in_ok-made-in-And.field-0; bangs = bs })) c.args.token.now in
    let F : Option Condition → Cond = λ b. both_of b (whole_of c.in_ok-operand.operand) in
    let e : whole_of c.in_ok-whole.whole ≡ both_of c.args.self.now.pending.both (denied c.args.self.now.pending.bangs (whole_of c.args.operand)) = c.in_ok-whole.ensures ∙ ap F c.take.ensures.value ∙ ap (both_of c.args.self.now.pending.both) c.in_ok-operand.ensures.0 in
    subst Q (sym c.in_ok-operand.ensures.1) (and_takes c.args.self.now.groups c.args.self.now.pending _ c.in_ok-made-in-And.field-0 c.args.token.now (subst P c.in-And.is c.requires) (c.in_ok-made-in-And.ensures ∙ e))

pub returns-in_ok-step-in_default : goal.returns-in_ok-step-in_default
returns-in_ok-step-in_default c =
    let F : Option Condition → Cond = λ b. both_of b (whole_of c.in_ok-operand.operand) in
    let e : whole_of c.in_ok-whole.whole ≡ both_of c.args.self.now.pending.both (denied c.args.self.now.pending.bangs (whole_of c.args.operand)) = c.in_ok-whole.ensures ∙ ap F c.take.ensures.value ∙ ap (both_of c.args.self.now.pending.both) c.in_ok-operand.ensures.0 in
    let G : Option Condition → Cond = λ a. either_of a (whole_of c.in_ok-whole.whole) in
    steps_same _ _ (either_same c.args.self.now.groups _ c.args.self.now.pending (whole_of c.args.operand) _ c.args.token.now refl (λ m. c.in_default.not-And (and_is c.args.class c.args.token.now m c.requires)) (c.in_ok-whole-in_default.ensures ∙ ap G c.take-in_default.ensures.value ∙ ap (either_of c.args.self.now.pending.either) e)) c.in_ok-step-in_default.ensures
