use Rattle.mc_cover.proofs.Guessing as by
use Rattle.mc_cover.proofs.laws.guess_is_the_guess.Goals as goal

pub returns : goal.returns
returns c = record { is_it = by.guess_is_the_guess; undefined = by.no_guess_undefined }
