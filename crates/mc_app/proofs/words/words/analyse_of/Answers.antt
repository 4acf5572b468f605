use Rattle.mc_app.specs.Words.Commands.{analyse_app}
use Rattle.mc_app.proofs.words.words.analyse_of.Goals as goal

pub returns-in_err-number : goal.returns-in_err-number
returns-in_err-number c = λ words named rows.
    rw c.from_residual-in_err-number.ensures (λ a asks. c.in_err-number.ensures analyse_app words rows a.rounds asks.rounds)

pub returns-in_err-number-2 : goal.returns-in_err-number-2
returns-in_err-number-2 c = λ words named rows.
    rw c.from_residual-in_err-number-2.ensures (λ a asks. c.in_err-number-2.ensures analyse_app words rows a.disjuncts asks.disjuncts)

pub returns-in_err-flag : goal.returns-in_err-flag
returns-in_err-flag c = λ words named rows.
    rw c.from_residual-in_err-flag.ensures (λ a asks. c.in_err-flag.ensures analyse_app words rows a.merge asks.merge)

pub returns-in_err-number-3 : goal.returns-in_err-number-3
returns-in_err-number-3 c = λ words named rows.
    rw c.from_residual-in_err-number-3.ensures (λ a asks. c.in_err-number-3.ensures analyse_app words rows a.runs asks.runs)
