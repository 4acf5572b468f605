use Rattle.std.proofs.Common.{rules, ◌∙◌, ap₂}
use Rattle.clap.specs.Words.{with_rule}
use Rattle.mc_app.specs.Words.Commands.{three_files}
use Rattle.mc_app.proofs.words.commands.three_files.Goals as goal

pub returns : goal.returns
unfolding three_files
returns c =
    let third = c.in_ok-arg.ensures.shape (search rules) ∙ ap₂ with_rule c.in_ok-two_files.ensures c.place.ensures.rule in
    c.in_ok-command.ensures.shape (search rules) ∙ ap₂ with_rule third c.entry.ensures.rule
