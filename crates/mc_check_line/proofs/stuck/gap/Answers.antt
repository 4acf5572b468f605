use Rattle.mc_rules_steps.specs.Unmet.{IsUnmet}
use Rattle.mc_check_line.proofs.Gaps.{same_gap}
use Rattle.mc_check_line.proofs.stuck.gap.Goals as goal

pub returns-in-Ok : goal.returns-in-Ok
returns-in-Ok c = λ k asked.
    let b = c.args.branch.now in
    same_gap (IsUnmet c.args.flow.now c.args.defs.now b.point b.state) c.in-Ok.found (k.gap b.point b.state) c.in-Ok.ensures asked.gap
