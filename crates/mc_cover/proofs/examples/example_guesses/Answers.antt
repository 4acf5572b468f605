use Rattle.std.proofs.Common.{refl}
use Rattle.mc_cover.proofs.examples.example_guesses.Goals as goal

pub returns : goal.returns
returns c = record { behind = refl; there = refl; stopped = refl; nothing = refl }
