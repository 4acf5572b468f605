use Rattle.std.proofs.Common.{◌≡◌, ◌∙◌, ap, refl, true, string_bytes, map}
use Rattle.clap.specs.Words.{app_of, found_of}
use Rattle.clap.specs.Faults.{is_simple_and_free}
use Rattle.clap.specs.Walk.{rows_of}
use Rattle.mc_app.specs.Words.Commands.{analyse_app, search_app, two_files}
use Rattle.mc_app.proofs.WordsLemmas.Asking.{no_analyse, read_by}
use Rattle.mc_app.proofs.words.words.asked_analyse.Goals as goal

is_free : is_simple_and_free analyse_app ≡ true
unfolding analyse_app search_app two_files
is_free = refl

pub matches-requires : goal.matches-requires
matches-requires c = ap is_simple_and_free c.in_ok-command.ensures ∙ is_free

pub returns-in-Some-analyse_of : goal.returns-in-Some-analyse_of
returns-in-Some-analyse_of c =
    let read = read_by (app_of c.in_ok-command.command) analyse_app (map string_bytes c.args.words.now) (λ m. rows_of (found_of m)) c.in_ok-found.field-0 c.in-Some.found c.in_ok-command.ensures c.in-Some.is c.in_ok-found.ensures in
    c.in-Some-analyse_of.ensures (map string_bytes c.args.words.now) (c.requires, read.0) read.1

pub returns : goal.returns
returns c =
    let read = read_by (app_of c.in_ok-command.command) analyse_app (map string_bytes c.args.words.now) (λ m. rows_of (found_of m)) c.in_ok-found.field-0 c.in-Some.found c.in_ok-command.ensures c.in-Some.is c.in_ok-found.ensures in
    no_analyse (map string_bytes c.args.words.now) c.requires (c.in-None.ensures (map string_bytes c.args.words.now) (c.requires, read.0) read.1)
