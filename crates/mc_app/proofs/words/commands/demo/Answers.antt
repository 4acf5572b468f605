use Rattle.std.proofs.Common.{rules, ◌∙◌, ap₂}
use Rattle.clap.specs.Words.{with_rule}
use Rattle.mc_app.specs.Words.Commands.{demo_app}
use Rattle.mc_app.proofs.words.commands.demo.Goals as goal

pub returns : goal.returns
unfolding demo_app
returns c = c.in_ok-command.ensures.shape (search rules) ∙ ap₂ with_rule c.new.ensures.app c.number_place.ensures.rule
