use Rattle.std.proofs.Common.{◌≡◌, ◌∙◌, true, sym, subst}
use Rattle.std.specs.Prelude.{is_some}
use Rattle.mc_state.specs.State.{State}
use Rattle.mc_rules_steps.specs.Judges.{operand_nodes}
use Rattle.mc_rules_steps.specs.Operands.{operand_node, with_operand}
use Rattle.mc_apply_steps.specs.Instructions.Arguments.{all_known}
use Rattle.mc_apply_steps.proofs.InstructionsLemmas.Knowing.{both_parts, known_alike, vars_stay}
use Rattle.mc_gaps.proofs.lacking.shapes.ask.Goals as goal

pub put_operands-requires-clause-known : goal.put_operands-requires-clause-known
put_operands-requires-clause-known c =
    let s = c.args.s.now in
    let o = c.args.o in
    let os = c.args.os.now in
    let t = with_operand s o in
    let both = both_parts (is_some (operand_node s o)) (all_known s os) c.requires.known in
    let known = known_alike os s t (vars_stay s o) ∙ both.1 in
    let is : c.put_operand.new.s ≡ t = cc (c.in_ok-at.ensures.state, c.in_ok-state.ensures) in
    subst (λ (u : State). is_some (operand_nodes u os) ≡ true) (sym is) known
