use Rattle.std.proofs.Common.{rules, ◌∙◌, ap₂}
use Rattle.clap.specs.Words.{with_rule}
use Rattle.mc_app.specs.Words.Commands.{run_app}
use Rattle.mc_app.proofs.words.commands.run.Goals as goal

pub returns : goal.returns
unfolding run_app
returns c = c.in_ok-command.ensures.shape (search rules) ∙ ap₂ with_rule c.in_ok-three_files.ensures c.number-fuel.ensures.rule
