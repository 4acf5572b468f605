use Rattle.mc_app.proofs.Alike.{alike}
use Rattle.mc_app.proofs.laws.documents_are_judged_alike.Goals as goal

pub returns : goal.returns
returns c =
    alike (record {
      read_once = c.texts_are_read_once.ensures;
      not_refused = c.programs_are_not_refused.ensures;
      defined_once = c.texts_are_read_once-2.ensures;
      one_graph = c.flow_graphs_are_one.ensures;
      judged = c.lores_are_there.ensures;
      legal = c.short_chains_are_legal.ensures.legal;
      short = c.short_chains_are_legal.ensures.read;
      early = c.open_documents_end_early.ensures;
    })
