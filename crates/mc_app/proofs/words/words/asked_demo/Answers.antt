use Rattle.std.proofs.Common.{◌≡◌, ◌∙◌, ap, refl, true, string_bytes, map}
use Rattle.clap.specs.Words.{app_of, found_of}
use Rattle.clap.specs.Faults.{is_simple_and_free}
use Rattle.clap.specs.Walk.{rows_of}
use Rattle.mc_app.specs.Words.Commands.{demo_app}
use Rattle.mc_app.proofs.WordsLemmas.Asking.{no_demo, read_by}
use Rattle.mc_app.proofs.words.words.asked_demo.Goals as goal

is_free : is_simple_and_free demo_app ≡ true
unfolding demo_app
is_free = refl

pub matches-requires : goal.matches-requires
matches-requires c = ap is_simple_and_free c.in_ok-command.ensures ∙ is_free

pub returns-in-Some-demo_of : goal.returns-in-Some-demo_of
returns-in-Some-demo_of c =
    let read = read_by (app_of c.in_ok-command.command) demo_app (map string_bytes c.args.words.now) (λ m. rows_of (found_of m)) c.in_ok-found.field-0 c.in-Some.found c.in_ok-command.ensures c.in-Some.is c.in_ok-found.ensures in
    c.in-Some-demo_of.ensures (map string_bytes c.args.words.now) (c.requires, read.0) read.1

pub returns : goal.returns
returns c =
    let read = read_by (app_of c.in_ok-command.command) demo_app (map string_bytes c.args.words.now) (λ m. rows_of (found_of m)) c.in_ok-found.field-0 c.in-Some.found c.in_ok-command.ensures c.in-Some.is c.in_ok-found.ensures in
    no_demo (map string_bytes c.args.words.now) c.requires (c.in-None.ensures (map string_bytes c.args.words.now) (c.requires, read.0) read.1)
