use Rattle.clap.specs.Words.{found_of}
use Rattle.mc_app.proofs.WordsLemmas.Reading.{word_read}
use Rattle.mc_app.proofs.words.words.word.Goals as goal

pub returns : goal.returns
returns c = λ app words rows. word_read (found_of c.args.found.now) app words c.args.id.now c.get_str.result rows c.get_str.ensures
