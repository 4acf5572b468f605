use Rattle.std.proofs.Common.{ℕ, Bool, List, Result}
use Rattle.std.specs.Str.Parse.{ParsesBool}
use Rattle.std.specs.contracts.prelude.BoolFromStr
use Rattle.std.specs.declared.str.ParseBoolError.{ParseBoolError}
use Rattle.clap.specs.Words.{found_of}
use Rattle.mc_app.proofs.WordsLemmas.Reading.{flag_read}
use Rattle.mc_app.proofs.words.words.flag.Goals as goal

abbrev Gives : List ℕ → Result Bool ParseBoolError → Type 0
Gives = BoolFromStr.TheImpl.ghosts.from_str_gives

parses : (bs : List ℕ) (r : Result Bool ParseBoolError) → Gives bs r → ParsesBool bs r
parses bs r g = g

pub returns : goal.returns
returns c =
    λ app words rows.
    flag_read _ Gives (found_of c.args.found.now) app words c.args.id.now c.get_one.result rows c.get_one.ensures.none c.get_one.ensures.value (λ bs r g. parses bs r g)
