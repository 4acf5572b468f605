use Rattle.std.proofs.Common.{◌∙◌, sym, subst}
use Rattle.mc_judge.specs.declared.judge.stage.Stage.{Stage}
use Rattle.mc_judge.specs.Judge.Stages.{IsAt}
use Rattle.mc_judge.proofs.JudgeLemmas.Hearing.{Refusing, at_texts, never_refused}
use Rattle.mc_judge.proofs.judge.judge.Judge.refused.Goals as goal

pub returns-in-Refused-clause-refused : goal.returns-in-Refused-clause-refused
returns-in-Refused-clause-refused c = λ k text texts rest judge heard cut.
    subst (λ (s : Stage). IsAt k c.args.self.now.flow.now c.args.self.now.defs.now texts s) c.in-Refused.is
    (at_texts k text texts rest c.args.self.now heard cut)

pub returns-in-Unbegun-clause-refused : goal.returns-in-Unbegun-clause-refused
returns-in-Unbegun-clause-refused c = λ k text texts rest judge heard cut.
    let laws : Refusing = record { once = c.line_is_spelled_once.ensures; are_read = c.spelled_lines_are_read.ensures } in
    never_refused laws k text texts rest c.args.self.now (λ cause e. let clash = sym c.in-Unbegun.is ∙ e in cc clash) heard cut

pub returns-in-Open-clause-refused : goal.returns-in-Open-clause-refused
returns-in-Open-clause-refused c = λ k text texts rest judge heard cut.
    let laws : Refusing = record { once = c.line_is_spelled_once.ensures; are_read = c.spelled_lines_are_read.ensures } in
    never_refused laws k text texts rest c.args.self.now (λ cause e. let clash = sym c.in-Open.is ∙ e in cc clash) heard cut

pub returns-in-Ended-clause-refused : goal.returns-in-Ended-clause-refused
returns-in-Ended-clause-refused c = λ k text texts rest judge heard cut.
    let laws : Refusing = record { once = c.line_is_spelled_once.ensures; are_read = c.spelled_lines_are_read.ensures } in
    never_refused laws k text texts rest c.args.self.now (λ cause e. let clash = sym c.in-Ended.is ∙ e in cc clash) heard cut

pub returns-in-Spent-clause-refused : goal.returns-in-Spent-clause-refused
returns-in-Spent-clause-refused c = λ k text texts rest judge heard cut.
    let laws : Refusing = record { once = c.line_is_spelled_once.ensures; are_read = c.spelled_lines_are_read.ensures } in
    never_refused laws k text texts rest c.args.self.now (λ cause e. let clash = sym c.in-Spent.is ∙ e in cc clash) heard cut
