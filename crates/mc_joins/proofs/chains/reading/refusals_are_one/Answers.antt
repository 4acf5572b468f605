use Rattle.mc_joins.proofs.ChainsLemmas.ReadRefused.{chains_are_decided, lines_are_added, read_is_not_refused, refusal_is_one, refusals_are_read}
use Rattle.mc_joins.proofs.chains.reading.refusals_are_one.Goals as goal

pub returns : goal.returns
returns c = record {
  added = lines_are_added;
  answered = refusals_are_read;
  once = refusal_is_one;
  decided = chains_are_decided;
  apart = read_is_not_refused;
}
