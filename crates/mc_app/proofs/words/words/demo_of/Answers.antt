use Rattle.mc_app.specs.Words.Commands.{demo_app}
use Rattle.mc_app.proofs.WordsLemmas.Asking.{demo_asked}
use Rattle.mc_app.proofs.words.words.demo_of.Goals as goal

pub returns : goal.returns
returns c = λ words named rows. demo_asked words c.small_number.result named (c.small_number.ensures demo_app words rows)
