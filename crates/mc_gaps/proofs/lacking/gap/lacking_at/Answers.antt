use Rattle.std.proofs.Common.{◌≡◌, ◌∙◌, List, None, Some, ap, sym}
use Rattle.mc_flow.specs.declared.defs.rules.Def.{Def}
use Rattle.mc_rules_steps.specs.declared.gap.Gap.{Gap}
use Rattle.mc_gaps.specs.Unmet.Gaps.{gap_at}
use Rattle.mc_gaps.proofs.LackingLemmas.Causes.{shapes_left, told}
use Rattle.mc_gaps.proofs.lacking.gap.lacking_at.Goals as goal

pub returns-in-Some : goal.returns-in-Some
returns-in-Some c =
    let s = c.args.s.now in
    let flow = c.args.flow.now in
    let defs = c.args.defs.now in
    let p = c.args.p in
    let k = c.is_told.ensures in
    let own = gap_at k.0 defs flow p s in
    let is : own ≡ Some c.in-Some.gap = sym (c.in-Some.ensures k.0 k.1 ∙ ap (λ (ds : List Def). gap_at k.0 ds flow p s) c.as_slice.ensures.same) in
    told flow defs p s c.causes_are_one.ensures own (λ (gap : Gap). c.gaps_are_told.ensures k.0 flow defs p s gap c.requires c.is_bounded.ensures.bounded k.1) c.in-Some.gap is

pub returns-in_ok-found-in-None : goal.returns-in_ok-found-in-None
returns-in_ok-found-in-None c =
    let s = c.args.s.now in
    let flow = c.args.flow.now in
    let defs = c.args.defs.now in
    let p = c.args.p in
    let k = c.is_told.ensures in
    let own = gap_at k.0 defs flow p s in
    let is : own ≡ None = sym (c.in-None.ensures k.0 k.1 ∙ ap (λ (ds : List Def). gap_at k.0 ds flow p s) c.as_slice.ensures.same) in
    shapes_left flow defs p s own (λ (gap : Gap). c.gaps_are_told.ensures k.0 flow defs p s gap c.requires c.is_bounded.ensures.bounded k.1) is c.in_ok-found-in-None.found c.in_ok-found-in-None.ensures
