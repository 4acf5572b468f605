use Rattle.std.proofs.Common.{rules, ◌∙◌, ap₂}
use Rattle.clap.specs.Words.{with_rule}
use Rattle.mc_app.specs.Words.Commands.{analyse_app}
use Rattle.mc_app.proofs.words.commands.analyse.Goals as goal

pub returns : goal.returns
unfolding analyse_app
returns c =
    let first = c.in_ok-arg.ensures.shape (search rules) ∙ ap₂ with_rule c.in_ok-search.ensures c.number.ensures.rule in
    c.in_ok-command.ensures.shape (search rules) ∙ ap₂ with_rule first c.free_option.ensures.rule
