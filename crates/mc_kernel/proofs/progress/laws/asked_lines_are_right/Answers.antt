use Rattle.mc_kernel.proofs.ProgressLemmas.Instructions.{code_lines_are_right}
use Rattle.mc_kernel.proofs.ProgressLemmas.Unfolding.{first_lines_are_right}
use Rattle.mc_kernel.proofs.progress.laws.asked_lines_are_right.Goals as goal

pub returns-clause-first : goal.returns-clause-first
returns-clause-first c = first_lines_are_right (record {
  found = c.blocks_are_there.ensures.edges;
  ind = c.unfolding_is_judged.ensures.ind;
  seg = c.unfolding_is_judged.ensures.seg;
  back = c.back_is_judged.ensures;
})

pub returns-clause-code : goal.returns-clause-code
returns-clause-code c = code_lines_are_right (record {
  at_edges = record {
    found = c.blocks_are_there.ensures.edges;
    ind = c.unfolding_is_judged.ensures.ind;
    seg = c.unfolding_is_judged.ensures.seg;
    back = c.back_is_judged.ensures;
  };
  judges = c.judges_are_there.ensures;
  at_null = c.contradictions_are_false.ensures.at_null;
  fields = c.fields_are_there.ensures;
  steps = c.steps_are_judged.ensures.judged;
  told = c.gaps_are_told.ensures;
})
