use Rattle.std.proofs.Common.{rules, ◌∙◌, ap₂}
use Rattle.clap.specs.Words.{with_rule}
use Rattle.mc_app.specs.Words.Commands.{search_app}
use Rattle.mc_app.proofs.words.commands.search.Goals as goal

pub returns : goal.returns
unfolding search_app
returns c =
    let first = c.in_ok-arg.ensures.shape (search rules) ∙ ap₂ with_rule c.in_ok-two_files.ensures c.entry.ensures.rule in
    let second = c.in_ok-arg-2.ensures.shape (search rules) ∙ ap₂ with_rule first c.number.ensures.rule in
    let third = c.in_ok-arg-3.ensures.shape (search rules) ∙ ap₂ with_rule second c.number-2.ensures.rule in
    c.in_ok-command.ensures.shape (search rules) ∙ ap₂ with_rule third c.flag.ensures.rule
