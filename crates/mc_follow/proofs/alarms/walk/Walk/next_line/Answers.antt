use Rattle.std.proofs.Common.{◌≡◌, ◌∙◌, List, Some, ap, sym, subst}
use Rattle.std.specs.Prelude.{option_and_then, option_map}
use Rattle.mc_check_line.specs.Judging.{path}
use Rattle.mc_kernel.specs.Branches.{Path}
use Rattle.mc_kernel.specs.Readings.{first_branch}
use Rattle.mc_state.specs.Known.{Tells}
use Rattle.mc_kernel.specs.Progress.Asked.{at_code}
use Rattle.mc_rules_steps.specs.Operands.{code_at}
use Rattle.mc_follow.proofs.AlarmsLemmas.Followed.{current_is}
use Rattle.mc_follow.proofs.alarms.walk.Walk.next_line.Goals as goal

pub returns-in-Some-code_at : goal.returns-in-Some-code_at
returns-in-Some-code_at c = λ b others know is tells.
    let flow = c.args.flow.now in
    let defs = c.args.defs.now in
    let old = c.args.self.now in
    let branch : Path = path c.in-Some.branch.now in
    let current : Some branch ≡ option_map (λ (d : Path × List Path). d.0) (first_branch old.proof.branches) = c.in-Some.ensures in
    let same : branch ≡ b = current_is old.proof branch b others is current in
    let code : Some c.in-Some-code_at.code.now ≡ code_at flow branch.point = c.in-Some-code_at.ensures in
    c.at_code.ensures know (subst (λ (d : Path). Tells know d.state) (sym same) tells)
    ∙ ap (option_and_then (at_code know defs branch.state)) code
    ∙ ap (λ (d : Path). option_and_then (at_code know defs d.state) (code_at flow d.point)) same
