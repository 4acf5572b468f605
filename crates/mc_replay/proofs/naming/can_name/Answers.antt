use Rattle.std.proofs.Common.{◌∙◌, List, sym, ap}
use Rattle.mc_base.specs.declared.plain.Kind.{Kind}
use Rattle.mc_flow.specs.declared.defs.rules.Def.{Def}
use Rattle.mc_cover.specs.Terms.{all_lie_in}
use Rattle.mc_replay.specs.Named.{of_kinds, on_params}
use Rattle.mc_replay.proofs.naming.can_name.Goals as goal

pub returns-then-args_are_of_kinds : goal.returns-then-args_are_of_kinds
returns-then-args_are_of_kinds c = λ w same t.
    let s = c.args.state.now in
    let args = c.args.args.now in
    c.args_lie_in.ensures (w.know s) (t.knows s t.made)
    ∙ (ap (λ (z : List Def). on_params (λ (kinds : List Kind). all_lie_in (w.know s) kinds args) z c.args.pred) (sym same)
    ∙ sym (c.namable_in_range.ensures.args w s t c.requires c.args.pred args
    (ap (λ (z : List Def). on_params (λ (kinds : List Kind). of_kinds s.kinds kinds args) z c.args.pred) same ∙ sym c.if-args_are_of_kinds.ensures)))
