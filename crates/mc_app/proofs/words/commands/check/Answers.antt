use Rattle.mc_app.specs.Words.Commands.{check_app}
use Rattle.mc_app.proofs.words.commands.check.Goals as goal

pub returns : goal.returns
unfolding check_app
returns c = c.in_ok-command.ensures
