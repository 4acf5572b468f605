use Rattle.std.proofs.Common.{◌≡◌, ◌∙◌, sym, ap, drop, ◌+◌}
use Rattle.std.specs.Prelude.{Some, None, slice_get}
use Rattle.std.specs.Option.{option_copied}
use Rattle.mc_def_read.specs.Judging.{placed}
use Rattle.mc_def_read.specs.Scopes.{scope_of}
use Rattle.mc_def_read.proofs.Folds.{drop_at}
use Rattle.mc_def_read.proofs.Sayings.{drop_get, placed_step, placed_none, placed_missing, placed_short, drop_none}
use Rattle.mc_def_read.proofs.kept.Scope.place_all.Goals as goal

pub loop-i-preserved : goal.loop-i-preserved
loop-i-preserved c =
    let there : slice_get c.args.held.now c.loop-i.i ≡ Some (Some c.in-Some-Some.number) = cc in
    c.loop-i.invariant ∙ placed_step c.args.block.now (scope_of c.loop-i.self) _ _ _ _ c.index-fields-i.result c.in-Some-Some.number c.in-Some.content.now (drop_at _ _ _ c.loop-i-test.true c.index-fields-i.is) (drop_get c.args.held.now c.loop-i.i (Some c.in-Some-Some.number) there) (sym c.get.ensures ∙ ap option_copied c.in-Some.is) ∙ ap (λ s. placed c.args.block.now s (drop (c.loop-i.i + 1) c.args.fields.now) (drop (c.loop-i.i + 1) c.args.held.now)) (sym c.in_ok-push.ensures.ok)

pub returns-in-None-get : goal.returns-in-None-get
returns-in-None-get c =
    let there : slice_get c.args.held.now c.loop-i.i ≡ Some (Some c.in-Some-Some.number) = cc in
    rw c.at_end-in-None-get.ensures (c.loop-i.invariant ∙ placed_none c.args.block.now (scope_of c.loop-i.self) _ _ _ _ c.index-fields-i.result c.in-Some-Some.number (drop_at _ _ _ c.loop-i-test.true c.index-fields-i.is) (drop_get c.args.held.now c.loop-i.i (Some c.in-Some-Some.number) there) (sym c.get.ensures ∙ ap option_copied c.in-None-get.is))

pub returns-in-Some-None : goal.returns-in-Some-None
returns-in-Some-None c =
    let there : slice_get c.args.held.now c.loop-i.i ≡ Some None = cc in
    rw c.at_end.ensures (c.loop-i.invariant ∙ placed_missing c.args.block.now (scope_of c.loop-i.self) _ _ _ _ c.index-fields-i.result (drop_at _ _ _ c.loop-i-test.true c.index-fields-i.is) (drop_get c.args.held.now c.loop-i.i None there))

pub returns-in-None : goal.returns-in-None
returns-in-None c =
    let there : slice_get c.args.held.now c.loop-i.i ≡ None = cc in
    rw c.at_end-in-None.ensures (c.loop-i.invariant ∙ placed_short c.args.block.now (scope_of c.loop-i.self) _ _ _ c.index-fields-i.result (drop_at _ _ _ c.loop-i-test.true c.index-fields-i.is) (drop_none c.args.held.now c.loop-i.i there))
