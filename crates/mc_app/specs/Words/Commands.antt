-- The commands, as `clap` reads them.
use Rattle.std.specs.Prelude.{ℕ, true, List, [], ◌∷◌, Some, codes}
use Rattle.clap.specs.Words.{App, Rule, new_app, new_rule, with_rule}
use Rattle.clap.specs.declared.builder.action.ArgAction.TheVariants.{SetTrue}
use Rattle.clap.specs.declared.builder.value_parser.ValueParser.TheVariants as vp

-- a word that has to be there
abbrev pub place : List ℕ → Rule
place id = record (new_rule id) { required = true }

-- `--id VALUE`, with its value where it is left out
abbrev pub option : List ℕ → List ℕ → Rule
option id default = record (new_rule id) { long = Some id; defaults = default ∷ [] }

-- `--id NUMBER`, likewise, from a number to another
abbrev pub number_option : List ℕ → List ℕ → (least most : ℕ) → Rule
number_option id default least most = record (option id default) { parser = Some (vp.Unsigned least most) }

-- a number that has to be there, up to another
abbrev pub number_place : List ℕ → ℕ → Rule
number_place id most = record (place id) { parser = Some (vp.Unsigned 0 most) }

-- `--id`, which may be left out, and takes no value
abbrev pub flag : List ℕ → Rule
flag id = record (new_rule id) { long = Some id; action = Some SetTrue }

-- `--id VALUE`, which may be left out
abbrev pub free_option : List ℕ → Rule
free_option id = record (new_rule id) { long = Some id }

-- two files, with which every command but one begins
unfoldable pub two_files : List ℕ → App
two_files name = with_rule (with_rule (new_app name) (place (codes "program"))) (place (codes "definitions"))

-- the function that runs begin with
abbrev pub entry_option : Rule
entry_option = option (codes "entry") (codes "main")

-- two files and a third one
unfoldable pub three_files : List ℕ → List ℕ → App
three_files name third = with_rule (with_rule (two_files name) (place third)) entry_option

-- `check PROGRAM DEFINITIONS DOCUMENT [--entry F]`
unfoldable pub check_app : App
check_app = three_files (codes "check") (codes "document")

-- `run PROGRAM DEFINITIONS SCRIPT [--entry F] [--fuel N]`
unfoldable pub run_app : App
run_app = with_rule (three_files (codes "run") (codes "script")) (number_option (codes "fuel") (codes "100000") 1 10000000)

-- the limits of a search, from which `analyse` begins
unfoldable pub search_app : App
search_app =
    with_rule (with_rule (with_rule (with_rule (two_files (codes "analyse")) entry_option)
    (number_option (codes "rounds") (codes "30") 1 100)) (number_option (codes "disjuncts") (codes "16") 1 64)) (flag (codes "merge"))

-- `analyse PROGRAM DEFINITIONS [--entry F] [--rounds N] [--disjuncts N] [--merge] [--runs N] [--document FILE]`
unfoldable pub analyse_app : App
analyse_app =
    with_rule (with_rule search_app (number_option (codes "runs") (codes "2000") 0 1000000)) (free_option (codes "document"))

-- `demo NUMBER`
unfoldable pub demo_app : App
demo_app = with_rule (new_app (codes "demo")) (number_place (codes "number") 4294967295)
