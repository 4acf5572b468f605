use Rattle.mc_def_read.proofs.Exits.{at_bytes}
use Rattle.mc_def_read.proofs.reading.tokens.Goals as goal

pub returns-in-Err-clause-read : goal.returns-in-Err-clause-read
returns-in-Err-clause-read c = at_bytes c.args.text.now c.in-Err.fault c.of_lexical.result c.of_lexical.ensures c.in-Err.ensures.reading
