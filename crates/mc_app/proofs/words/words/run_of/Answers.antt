use Rattle.mc_app.specs.Words.Commands.{run_app}
use Rattle.mc_app.proofs.words.words.run_of.Goals as goal

pub returns-in_err-number : goal.returns-in_err-number
returns-in_err-number c = λ words named rows.
    rw c.from_residual-in_err-number.ensures (λ a asks. c.in_err-number.ensures run_app words rows a.fuel asks.fuel)
