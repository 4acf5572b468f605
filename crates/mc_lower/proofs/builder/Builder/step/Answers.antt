use Rattle.mc_lower.proofs.Readying.{later_now, ready_left, ready_next, ready_same}
use Rattle.mc_lower.proofs.Waiting.{all_same}
use Rattle.mc_lower.specs.Ready.{takes}
use Rattle.mc_lower.specs.Knowns.{known}
use Rattle.std.proofs.Common.{refl}
use Rattle.std.proofs.Common.{◌∙◌, sym, subst}
use Rattle.mc_lower.specs.Left.{Met}
use Rattle.mc_lower.specs.Worlds.{stage_of}
use Rattle.mc_lower.proofs.builder.Builder.step.Goals as goal

pub returns-in_ok-statements-in-Statements-clause-leads : goal.returns-in_ok-statements-in-Statements-clause-leads
returns-in_ok-statements-in-Statements-clause-leads c = λ w u agrees rest.
    let e = c.in_ok-statements-in-Statements.ensures.leads w u agrees rest in
    (e.0, (e.1.0, subst (λ t. Met w t (stage_of w c.args.self.now) e.1.0) (sym c.in-Statements.is) e.1.1, e.1.2))

pub returns-in_ok-statement-in-Statement-clause-leads : goal.returns-in_ok-statement-in-Statement-clause-leads
returns-in_ok-statement-in-Statement-clause-leads c = λ w u agrees rest.
    let e = c.in_ok-statement-in-Statement.ensures.leads w u agrees rest in
    (e.0, (e.1.0, subst (λ t. Met w t (stage_of w c.args.self.now) e.1.0) (sym c.in-Statement.is) e.1.1, e.1.2))

pub returns-in_ok-perform-in-Simple-clause-leads : goal.returns-in_ok-perform-in-Simple-clause-leads
returns-in_ok-perform-in-Simple-clause-leads c = λ w u agrees rest.
    let e = c.in_ok-perform-in-Simple.ensures.leads w u agrees rest in
    (e.0, (e.1.0, subst (λ t. Met w t (stage_of w c.args.self.now) e.1.0) (sym c.in-Simple.is) e.1.1, e.1.2))

pub returns-in_ok-declare-in-Declare-clause-leads : goal.returns-in_ok-declare-in-Declare-clause-leads
returns-in_ok-declare-in-Declare-clause-leads c = λ w u agrees rest.
    let e = c.in_ok-declare-in-Declare.ensures.leads w u agrees rest in
    (e.0, (e.1.0, subst (λ t. Met w t (stage_of w c.args.self.now) e.1.0) (sym c.in-Declare.is) e.1.1, e.1.2))

pub returns-in_ok-enter_for-in-For-clause-leads : goal.returns-in_ok-enter_for-in-For-clause-leads
returns-in_ok-enter_for-in-For-clause-leads c = λ w u agrees rest.
    let e = c.in_ok-enter_for-in-For.ensures.leads w u agrees rest in
    (e.0, (e.1.0, subst (λ t. Met w t (stage_of w c.args.self.now) e.1.0) (sym c.in-For.is) e.1.1, e.1.2))

pub returns-in_ok-turn_for-in-ForTurn-clause-leads : goal.returns-in_ok-turn_for-in-ForTurn-clause-leads
returns-in_ok-turn_for-in-ForTurn-clause-leads c = λ w u agrees rest.
    let e = c.in_ok-turn_for-in-ForTurn.ensures.leads w u agrees rest in
    (e.0, (e.1.0, subst (λ t. Met w t (stage_of w c.args.self.now) e.1.0) (sym c.in-ForTurn.is) e.1.1, e.1.2))

pub returns-in_ok-behind-in-EndBlock-clause-leads : goal.returns-in_ok-behind-in-EndBlock-clause-leads
returns-in_ok-behind-in-EndBlock-clause-leads c = λ w u agrees rest.
    let e = c.in_ok-behind-in-EndBlock.ensures.leads w agrees in
    (e.0, (stage_of w c.behind.new.self, e.1, rest))

pub statements-requires : goal.statements-requires
statements-requires c =
    let now = ready_next (known c.args.self.now) _ _ c.args.tasks.now c.in-Statements.is c.requires in now.0

pub returns-in_ok-statements-in-Statements-clause-ready : goal.returns-in_ok-statements-in-Statements-clause-ready
returns-in_ok-statements-in-Statements-clause-ready c =
    let now = ready_next (known c.args.self.now) _ _ c.args.tasks.now c.in-Statements.is c.requires in
    c.in_ok-statements-in-Statements.ensures.ready (later_now _ _ _ _ c.args.tasks.now now.1.1 now.1.2)

pub statement-requires : goal.statement-requires
statement-requires c =
    let now = ready_next (known c.args.self.now) _ _ c.args.tasks.now c.in-Statement.is c.requires in now.0

pub returns-in_ok-statement-in-Statement-clause-ready : goal.returns-in_ok-statement-in-Statement-clause-ready
returns-in_ok-statement-in-Statement-clause-ready c =
    let now = ready_next (known c.args.self.now) _ _ c.args.tasks.now c.in-Statement.is c.requires in
    c.in_ok-statement-in-Statement.ensures.ready (later_now _ _ _ _ c.args.tasks.now now.1.1 now.1.2)

pub perform-requires : goal.perform-requires
perform-requires c =
    let now = ready_next (known c.args.self.now) _ _ c.args.tasks.now c.in-Simple.is c.requires in now.0

pub returns-in_ok-perform-in-Simple-clause-ready : goal.returns-in_ok-perform-in-Simple-clause-ready
returns-in_ok-perform-in-Simple-clause-ready c =
    let now = ready_next (known c.args.self.now) _ _ c.args.tasks.now c.in-Simple.is c.requires in
    c.in_ok-perform-in-Simple.ensures.ready (later_now _ _ _ _ c.args.tasks.now now.1.1 now.1.2)

pub declare-requires : goal.declare-requires
declare-requires c =
    let now = ready_next (known c.args.self.now) _ _ c.args.tasks.now c.in-Declare.is c.requires in now.0

pub returns-in_ok-declare-in-Declare-clause-ready : goal.returns-in_ok-declare-in-Declare-clause-ready
returns-in_ok-declare-in-Declare-clause-ready c =
    let now = ready_next (known c.args.self.now) _ _ c.args.tasks.now c.in-Declare.is c.requires in
    c.in_ok-declare-in-Declare.ensures.ready (later_now _ _ _ _ c.args.tasks.now now.1.1 now.1.2)

pub enter_for-requires : goal.enter_for-requires
enter_for-requires c =
    let now = ready_next (known c.args.self.now) _ _ c.args.tasks.now c.in-For.is c.requires in now.0

pub returns-in_ok-enter_for-in-For-clause-ready : goal.returns-in_ok-enter_for-in-For-clause-ready
returns-in_ok-enter_for-in-For-clause-ready c =
    let now = ready_next (known c.args.self.now) _ _ c.args.tasks.now c.in-For.is c.requires in
    c.in_ok-enter_for-in-For.ensures.ready (later_now _ _ _ _ c.args.tasks.now now.1.1 now.1.2)

pub turn_for-requires-clause-ready : goal.turn_for-requires-clause-ready
turn_for-requires-clause-ready c =
    let now = ready_next (known c.args.self.now) _ _ c.args.tasks.now c.in-ForTurn.is c.requires in now.0

pub turn_for-requires-clause-waits : goal.turn_for-requires-clause-waits
turn_for-requires-clause-waits c =
    let now = ready_next (known c.args.self.now) _ _ c.args.tasks.now c.in-ForTurn.is c.requires in (now.1.0, now.1.1)

pub returns-in_ok-turn_for-in-ForTurn-clause-ready : goal.returns-in_ok-turn_for-in-ForTurn-clause-ready
returns-in_ok-turn_for-in-ForTurn-clause-ready c =
    let now = ready_next (known c.args.self.now) _ _ c.args.tasks.now c.in-ForTurn.is c.requires in
    c.in_ok-turn_for-in-ForTurn.ensures.ready now.1.0 now.1.1 now.1.2

pub behind-requires-clause-needs : goal.behind-requires-clause-needs
behind-requires-clause-needs c = c.requires.0

pub behind-requires-clause-waits : goal.behind-requires-clause-waits
behind-requires-clause-waits c = (c.requires.1.0, c.requires.1.1)

pub returns-in_ok-behind-in-EndBlock-clause-ready : goal.returns-in_ok-behind-in-EndBlock-clause-ready
returns-in_ok-behind-in-EndBlock-clause-ready c =
    let same = all_same (takes c.args.task) _ _ (sym c.in_ok-behind-in-EndBlock.ensures.rest ∙ c.requires.1.1) in
    ready_same _ _ _ _ same refl (ready_left _ _ _ _ _ c.args.tasks.now c.in_ok-behind-in-EndBlock.ensures.none c.requires.1.2)
