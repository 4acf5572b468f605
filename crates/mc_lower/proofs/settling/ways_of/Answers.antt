use Rattle.std.proofs.Common.{◌<◌, ◌≤◌, ap, sym, ◌∙◌, length, arith}
use Rattle.std.proofs.lemmas.Option.{slice_get-get_or}
use Rattle.std.specs.Prelude.{slice_get}
use Rattle.mc_lower.proofs.Marked.{ways_all, ways_more, ways_none}
use Rattle.mc_lower.proofs.settling.ways_of.Goals as goal

pub loop-at-init : goal.loop-at-init
loop-at-init c = ways_none _ (rw (c.len.ensures, c.args.lines.now.points.ok.0) at c.in_ok-ways.ensures)

pub loop-at-preserved : goal.loop-at-preserved
loop-at-preserved c =
    let lines = c.args.lines.now in
    let n = c.loop-at.at in
    let marks = c.as_slice-marks.result.now in
    let bound = c.loop-at-test.true in
    let inside : n < length marks = omega arith in
    let there = ap (λ ms. slice_get ms n) (sym c.as_slice-marks.ensures.value) ∙ slice_get-get_or marks n _ inside in
    ways_more lines.lined n _ _ _ there c.add_mark.ensures c.loop-at.invariant

pub returns : goal.returns
returns c =
    let past : length c.args.lines.now.marks.items ≤ c.loop-at.at =
    let above = c.loop-at-test.false in let same = ap length c.as_slice-marks.ensures.value in omega arith in
    ways_all past c.loop-at.invariant
