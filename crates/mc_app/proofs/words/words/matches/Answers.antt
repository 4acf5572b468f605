use Rattle.mc_app.proofs.WordsLemmas.Reading.{both_left}
use Rattle.mc_app.proofs.words.words.matches.Goals as goal

pub returns-in-Ok : goal.returns-in-Ok
returns-in-Ok c = (c.in-Ok.ensures.kinds c.requires, (c.in-Ok.ensures.matches (both_left _ _ c.requires)).0)
