use Rattle.std.proofs.Common.{◌≤◌, ◌+◌, length, drop, ap, ◌∙◌, arith}
use Rattle.mc_state.specs.Lists.{all_both}
use Rattle.mc_rules_logic.specs.Fold.Judges.{is_call_at}
use Rattle.mc_apply_fold.proofs.FoldLemmas.Lists.{others_fail, others_rest}
use Rattle.mc_apply_fold.proofs.fold.calls.are_other_calls.Goals as goal

pub returns-then-are_calls : goal.returns-then-are_calls
returns-then-are_calls c = λ know t.
    let fits : c.args.place ≤ length c.args.ids.now = omega arith in
    c.are_calls-then-are_calls.ensures know t
    ∙ ap (λ l. all_both (is_call_at know c.args.s.now.graph.edges c.args.names.now) l c.from.result.now) c.behind.ensures
    ∙ ap (all_both (is_call_at know c.args.s.now.graph.edges c.args.names.now) (drop (c.args.place + 1) c.args.calls.now)) c.from.ensures
    ∙ others_rest (is_call_at know c.args.s.now.graph.edges c.args.names.now) c.args.calls.now c.args.ids.now c.args.place c.requires.inside fits (c.if-are_calls.ensures know t)

pub returns-else-are_calls : goal.returns-else-are_calls
returns-else-are_calls c = λ know t.
    let fits : c.args.place ≤ length c.args.ids.now = omega arith in
    c.if-are_calls.false
    ∙ others_fail (is_call_at know c.args.s.now.graph.edges c.args.names.now) c.args.calls.now c.args.ids.now c.args.place c.requires.inside fits (c.if-are_calls.ensures know t)
