use Rattle.std.proofs.Common.{◌≡◌, option_map, sym, ◌∙◌}
use Rattle.std.specs.Prelude.{is_some}
use Rattle.std.proofs.lemmas.Int.{to_z-of_z}
use Rattle.mc_shape_search.proofs.SatLemmas.FirstTries.{meets_yes, meets_no, mapped}
use Rattle.mc_shape_search.proofs.sat.whole.meets.Goals as goal

pub returns : goal.returns
returns c =
    let g : c.in_ok-goal.field-0 ≡ record { pred = c.args.pred; at = c.args.value; args = c.args.args.now } = simp (to_z-of_z, c.ranges.value) at c.in_ok-goal.ensures in
    let o = option_map (λ log. log.items) c.in_ok-found.found in
    let same : c.is_some.result ≡ is_some o = c.is_some.ensures ∙ sym (mapped (λ log. log.items) c.in_ok-found.found) in (
      λ t. meets_yes c.args.heap.now c.as_slice.result.now c.args.defs.now c.in_ok-goal.field-0 c.args.pred c.args.value c.args.args.now c.as_slice.ensures.same g c.as_slice.ensures.fit o c.in_ok-found.ensures (sym same ∙ t),
      λ h. same ∙ meets_no c.args.heap.now c.as_slice.result.now c.args.defs.now c.in_ok-goal.field-0 c.args.pred c.args.value c.args.args.now c.as_slice.ensures.same g c.as_slice.ensures.fit o c.in_ok-found.ensures h,
    )
