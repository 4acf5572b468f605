use Rattle.mc_def_read.proofs.OneReading.{one_reading}
use Rattle.mc_def_read.proofs.reading.texts_are_read_once.Goals as goal

pub returns : goal.returns
returns c = one_reading c.readings_are_unique.ensures
