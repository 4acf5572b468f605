use Rattle.std.proofs.Common.{◌≡◌, ◌∙◌, Bool, List, sym, ap}
use Rattle.std.specs.Prelude.{◌&&◌}
use Rattle.mc_base.specs.declared.plain.Kind.{Kind}
use Rattle.mc_flow.specs.declared.defs.rules.Def.{Def}
use Rattle.mc_state.specs.declared.terms.Term.{Term}
use Rattle.mc_cover.specs.Terms.{all_lie_in}
use Rattle.mc_replay.specs.Named.{of_kinds, on_params}
use Rattle.mc_replay.proofs.naming.can_name_both.Goals as goal
use Rattle.mc_replay.proofs.naming.can_name_both.Goals.{then-args_lie_in, else-args_lie_in}

pub returns-then-args_are_of_kinds-2 : goal.returns-then-args_are_of_kinds-2
returns-then-args_are_of_kinds-2 c = λ w same t.
    let s = c.args.state.now in
    let p = c.args.pred in
    let lie : List Def → List Term → Bool = λ defs terms. on_params (λ (kinds : List Kind). all_lie_in (w.know s) kinds terms) defs p in
    let fit : List Def → List Term → Bool = λ defs terms. on_params (λ (kinds : List Kind). of_kinds s.kinds kinds terms) defs p in
    let tells = t.knows s t.made in
    let first : c.args_lie_in.result ≡ lie w.defs c.args.args.now = c.args_lie_in.ensures (w.know s) tells ∙ ap (λ (z : List Def). lie z c.args.args.now) (sym same) in
    let both = c.namable_in_range.ensures.both w s t c.requires p c.args.args.now c.args.ends.now
    (ap (λ (z : List Def). fit z c.args.args.now) same ∙ sym c.if-args_are_of_kinds.ensures)
    (ap (λ (z : List Def). fit z c.args.ends.now) same ∙ sym c.if-args_are_of_kinds-2.ensures) in
    elim c.if-args_lie_in.branch [
      | then-args_lie_in b ↦
          b.result-is
          ∙ (b.args_lie_in-then-args_lie_in.ensures (w.know s) tells
          ∙ (ap (λ (z : List Def). lie z c.args.ends.now) (sym same)
          ∙ (ap (λ (x : Bool). x && lie w.defs c.args.ends.now) (sym b.if-args_lie_in.true ∙ first) ∙ sym both)))
      | else-args_lie_in b ↦ b.result-is ∙ b.if-args_lie_in.false ∙ (ap (λ (x : Bool). x && lie w.defs c.args.ends.now) (sym b.if-args_lie_in.false ∙ first) ∙ sym both)
    ]
