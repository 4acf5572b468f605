use Rattle.mc_app.proofs.Telling.{answers_complete}
use Rattle.mc_app.proofs.laws.answers_are_complete.Goals as goal

pub returns : goal.returns
returns c =
    answers_complete (record {
      read_once = c.texts_are_read_once.ensures;
      not_refused = c.programs_are_not_refused.ensures;
      defined_once = c.texts_are_read_once-2.ensures;
      one_graph = c.flow_graphs_are_one.ensures;
      judged = c.lores_are_there.ensures;
      legal = c.short_chains_are_legal.ensures.legal;
      short = c.short_chains_are_legal.ensures.read;
      early = c.open_documents_end_early.ensures;
    })
