use Rattle.std.proofs.Common.{◌∙◌, refl}
use Rattle.std.proofs.Common.{◌≡◌, ◌<◌, ◌+◌, [], drop, refl, sym, subst, length, arith}
use Rattle.std.proofs.lemmas.List.{drop_all}
use Rattle.std.proofs.lemmas.Option.{slice_get-get_or}
use Rattle.mc_lower_spec.specs.Lowering.{Passes, passes_none}
use Rattle.mc_lower.specs.Worlds.{stage_of}
use Rattle.mc_lower.proofs.Calling.{passed_on}
use Rattle.mc_lower.proofs.builder.Builder.pass.Goals as goal

pub loop-at-preserved : goal.loop-at-preserved
loop-at-preserved c =
    record {
      leads =
          λ w u agrees rest.
          let vs = c.args.parameters.now in
          let os = c.args.operands.now in
          let at = c.loop-at.at in
          let same = c.requires in
          let bound = c.loop-at-test.true in
          let inside : at < length vs = omega arith in
          let within : at < length os = omega arith in
          let copied = c.in_ok-copy.ensures.leads w agrees in
          c.loop-at.invariant.leads w u copied.0
          (passed_on w.graph c.args.place vs os at (at + 1) _ _ _ _ u refl (slice_get-get_or vs at _ inside) (slice_get-get_or os at _ within) copied.1 rest);
      same = c.in_ok-copy.ensures.same ∙ c.loop-at.invariant.same;
    }

pub returns-clause-leads : goal.returns-clause-leads
returns-clause-leads c = λ w agrees.
    let vs = c.args.parameters.now in
    let os = c.args.operands.now in
    let at = c.loop-at.at in
    let s = stage_of w c.loop-at.self in
    let same = c.requires in
    let above = c.loop-at-test.false in
    let end = c.loop-at.auto.at-end in
    let no_parameters : drop at vs ≡ [] = drop_all at vs (omega arith) in
    let no_operands : drop at os ≡ [] = drop_all at os (omega arith) in
    c.loop-at.invariant.leads w s agrees
    (subst (λ l. Passes w.graph c.args.place l (drop at os) s s) (sym no_parameters) (subst (λ l. Passes w.graph c.args.place [] l s s) (sym no_operands) passes_none))
