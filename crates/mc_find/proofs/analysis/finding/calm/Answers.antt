use Rattle.std.proofs.Common.{◌∙◌, false}
use Rattle.mc_find.proofs.AnalysisLemmas.Answers.{proved_so}
use Rattle.mc_find.proofs.AnalysisLemmas.CalmPlaces.{calm_written}
use Rattle.mc_find.proofs.analysis.finding.calm.Goals as goal

pub proved-requires : goal.proved-requires
proved-requires c =
    (calm_written c.lines_are_judged.ensures.judged c.lines_make_well_made.ensures c.numbers_stay_bounded.ensures.unknown c.args.flow.now c.args.defs.now c.args.chain c.as_slice.result.now
    c.requires.valid c.requires.no_loops c.requires.chain c.requires.none (c.as_slice.ensures.value ∙ c.in_ok-lines.ensures)).valid

pub returns : goal.returns
returns c =
    let found =
    calm_written c.lines_are_judged.ensures.judged c.lines_make_well_made.ensures c.numbers_stay_bounded.ensures.unknown c.args.flow.now c.args.defs.now c.args.chain c.as_slice.result.now
    c.requires.valid c.requires.no_loops c.requires.chain c.requires.none (c.as_slice.ensures.value ∙ c.in_ok-lines.ensures) in
    proved_so c.args.flow.now c.args.defs.now false c.as_slice.result.now c.proved.result found c.proved.ensures
