use Rattle.std.proofs.Common.{◌≡◌, sym, ◌∙◌}
use Rattle.mc_c_parse_body.specs.declared.state.State.TheVariants as State
use Rattle.mc_c_parse_body.proofs.inner.behind_condition.Goals as goal

pub returns-in-Condition : goal.returns-in-Condition
returns-in-Condition c = λ purpose inner is aliases.
    let both : State.Condition c.in-Condition.purpose c.in-Condition.field-1 ≡ State.Condition purpose inner = sym c.in-Condition.is ∙ is in
    let same : c.in-Condition.purpose ≡ purpose = cc in
    rw (← same) (rw c.replace-purpose.ensures.value at (c.behind_purpose.ensures aliases))

pub returns-in_default : goal.returns-in_default
returns-in_default c = λ purpose inner is aliases. absurd (c.in_default.not-Condition purpose inner is)
