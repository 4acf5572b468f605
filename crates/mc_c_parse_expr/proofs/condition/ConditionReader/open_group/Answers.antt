use Rattle.std.proofs.Common.{◌≡◌, ◌∙◌, ◌∷◌, subst}
use Rattle.mc_c_parse_expr.specs.declared.condition.ConditionPending.{ConditionPending}
use Rattle.mc_c_parse_expr.proofs.ConditionOperands.{open_moves}
use Rattle.mc_c_parse_expr.proofs.condition.ConditionReader.open_group.Goals as goal

pub returns : goal.returns
returns c =
    let P : ConditionPending → Type 0 = λ p. c.push.new.self ≡ record { place = c.args.token.now.place; outer = p } ∷ c.args.self.now.groups in
    open_moves c.args.self.now.groups _ c.args.self.now.pending _ c.args.token.now c.requires (subst P c.replace-outer.ensures.value c.in_ok-push.ensures) (c.replace-outer.ensures.after ∙ c.fresh.ensures)
