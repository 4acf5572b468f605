use Rattle.std.proofs.Common.{ℕ, List, Result}
use Rattle.std.specs.Str.Parse.{ParsesUnsigned}
use Rattle.std.specs.contracts.prelude.U64FromStr
use Rattle.std.specs.declared.num.ParseIntError.{ParseIntError}
use Rattle.clap.specs.Words.{found_of}
use Rattle.mc_app.proofs.WordsLemmas.Reading.{number_read}
use Rattle.mc_app.proofs.words.words.number.Goals as goal

abbrev Gives : List ℕ → Result ℕ ParseIntError → Type 0
Gives = U64FromStr.TheImpl.ghosts.from_str_gives

parses : (bs : List ℕ) (r : Result ℕ ParseIntError) → Gives bs r → ParsesUnsigned 64 10 bs r
parses bs r g = g.0

pub returns : goal.returns
returns c =
    λ app words rows.
    number_read 64 _ Gives (found_of c.args.found.now) app words c.args.id.now c.get_one.result rows c.get_one.ensures.none c.get_one.ensures.value (λ bs r g. parses bs r g)
