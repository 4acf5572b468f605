use Rattle.std.proofs.Common.{rules, ◌∙◌, ap₂}
use Rattle.clap.specs.Words.{with_rule}
use Rattle.mc_app.specs.Words.Commands.{two_files}
use Rattle.mc_app.proofs.words.commands.two_files.Goals as goal

pub returns : goal.returns
unfolding two_files
returns c =
    let first = c.in_ok-arg.ensures.shape (search rules) ∙ ap₂ with_rule c.new.ensures.app c.place.ensures.rule in
    c.in_ok-command.ensures.shape (search rules) ∙ ap₂ with_rule first c.place-2.ensures.rule
