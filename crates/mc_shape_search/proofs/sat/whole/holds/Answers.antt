use Rattle.std.proofs.Common.{◌≡◌, option_map, ap, ◌∙◌}
use Rattle.std.proofs.lemmas.Int.{to_z-of_z}
use Rattle.mc_shape_search.specs.Sat.Marks.{taken}
use Rattle.mc_shape_search.proofs.SatLemmas.FirstTries.{none_holds, some_holds}
use Rattle.mc_shape_search.proofs.sat.whole.holds.Goals as goal

pub returns-in-None : goal.returns-in-None
returns-in-None c =
    let g : c.in_ok-goal.field-0 ≡ record { pred = c.args.pred; at = c.args.value; args = c.args.args.now } = simp (to_z-of_z, c.ranges.value) at c.in_ok-goal.ensures in
    none_holds c.args.heap.now c.as_slice.result.now c.args.defs.now c.in_ok-goal.field-0 c.args.pred c.args.value c.args.args.now c.as_slice.ensures.same g c.as_slice.ensures.fit
    (option_map (λ log. log.items) c.in_ok-find_first.field-0) c.in_ok-find_first.ensures (ap (option_map (λ log. log.items)) c.in-None.is)

pub returns-in_ok-taken-in-Some : goal.returns-in_ok-taken-in-Some
returns-in_ok-taken-in-Some c =
    let g : c.in_ok-goal.field-0 ≡ record { pred = c.args.pred; at = c.args.value; args = c.args.args.now } = simp (to_z-of_z, c.ranges.value) at c.in_ok-goal.ensures in
    some_holds c.args.heap.now c.as_slice.result.now c.args.defs.now c.in_ok-goal.field-0 c.args.pred c.args.value c.args.args.now c.as_slice.ensures.same g c.as_slice.ensures.fit
    (option_map (λ log. log.items) c.in_ok-find_first.field-0) c.in-Some.log.items c.in_ok-taken-in-Some.field-0.items c.in_ok-find_first.ensures (ap (option_map (λ log. log.items)) c.in-Some.is)
    (c.in_ok-taken-in-Some.ensures ∙ ap taken c.deref.ensures.value)
