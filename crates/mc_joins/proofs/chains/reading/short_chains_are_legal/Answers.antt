use Rattle.mc_joins.proofs.ChainsLemmas.Short.{short_chains_are_legal}
use Rattle.mc_joins.proofs.ChainsLemmas.ShortReadings.{short_readings_agree}
use Rattle.mc_joins.proofs.chains.reading.short_chains_are_legal.Goals as goal

pub returns : goal.returns
returns c = record { legal = short_chains_are_legal; read = short_readings_agree }
