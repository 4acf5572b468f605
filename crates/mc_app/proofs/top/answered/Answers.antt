use Rattle.mc_app.proofs.Asked.{analysis_is_safe, check_is_safe}
use Rattle.mc_app.proofs.top.answered.Goals as goal

pub returns-in_ok-answer-in-Check-clause-safe : goal.returns-in_ok-answer-in-Check-clause-safe
returns-in_ok-answer-in-Check-clause-safe g c = λ words asked good wants.
    let own = c.in_ok-answer-in-Check in
    check_is_safe (g.F.Files.holds c.args.files.now) words c.args.request c.in-Check.names own.answer c.in-Check.is asked (own.ensures.why words) own.ensures.safe good wants

pub returns-in_ok-answer-in-Analyse-clause-safe : goal.returns-in_ok-answer-in-Analyse-clause-safe
returns-in_ok-answer-in-Analyse-clause-safe g c = λ words asked good wants.
    let own = c.in_ok-answer-in-Analyse in
    analysis_is_safe (g.F.Files.holds c.args.files.now) words c.args.request c.in-Analyse.names own.answer c.in-Analyse.is asked (own.ensures.why words) own.ensures.safe good wants
