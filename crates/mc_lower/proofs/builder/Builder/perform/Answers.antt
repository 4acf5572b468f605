use Rattle.mc_lower.proofs.Readying.{ready_left, ready_same}
use Rattle.mc_lower.specs.Knowns.{known}
use Rattle.mc_lower.specs.Ready.{IsActionReady, IsNamed}
use Rattle.std.proofs.Common.{[], refl}
use Rattle.std.proofs.Common.{sym, subst}
use Rattle.mc_semantics.specs.Resolved.Programs.{assign}
use Rattle.mc_semantics.specs.Resolved.Views.{action_of, right_of}
use Rattle.mc_lower_spec.specs.Lowering.{Performs, performs_add, performs_subtract}
use Rattle.mc_lower.specs.Worlds.{stage_of}
use Rattle.mc_lower.proofs.builder.Builder.perform.Goals as goal

pub returns-in_ok-assign_right-in-Assign-clause-leads : goal.returns-in_ok-assign_right-in-Assign-clause-leads
returns-in_ok-assign_right-in-Assign-clause-leads c = λ w u agrees rest.
    let e = c.in_ok-assign_right-in-Assign.ensures.leads w u agrees rest in
    let out = w.out c.args.context.occurrence in
    let place = c.args.simple.now.place in
    let s = stage_of w c.args.self.now in (
      e.0,
      (
        e.1.0,
        subst (λ a. Performs w.graph out place (action_of a) s e.1.0) (sym c.in-Assign.is)
            (subst (λ l. Performs w.graph out place (assign l (right_of c.in-Assign.right)) s e.1.0) c.of.ensures e.1.1),
        e.1.2,
      ),
    )

pub returns-in_ok-call_for_nothing-in-Call-clause-leads : goal.returns-in_ok-call_for_nothing-in-Call-clause-leads
returns-in_ok-call_for_nothing-in-Call-clause-leads c = λ w u agrees rest.
    let e = c.in_ok-call_for_nothing-in-Call.ensures.leads w u agrees rest in
    (e.0, (e.1.0, subst (λ a. Performs w.graph (w.out c.args.context.occurrence) c.args.simple.now.place (action_of a) (stage_of w c.args.self.now) e.1.0) (sym c.in-Call.is) e.1.1, e.1.2))

pub returns-in_ok-change-in-Add-clause-leads : goal.returns-in_ok-change-in-Add-clause-leads
returns-in_ok-change-in-Add-clause-leads c = λ w u agrees rest.
    let e = c.in_ok-change-in-Add.ensures.leads w agrees in
    let m = stage_of w c.change.new.self in
    (e.0, (m, subst (λ a. Performs w.graph (w.out c.args.context.occurrence) c.args.simple.now.place (action_of a) (stage_of w c.args.self.now) m) (sym c.in-Add.is) (performs_add e.1), rest))

pub returns-in_ok-change-in-Subtract-clause-leads : goal.returns-in_ok-change-in-Subtract-clause-leads
returns-in_ok-change-in-Subtract-clause-leads c = λ w u agrees rest.
    let e = c.in_ok-change-in-Subtract.ensures.leads w agrees in
    let m = stage_of w c.change-in-Subtract.new.self in
    (e.0, (m, subst (λ a. Performs w.graph (w.out c.args.context.occurrence) c.args.simple.now.place (action_of a) (stage_of w c.args.self.now) m) (sym c.in-Subtract.is) (performs_subtract e.1), rest))

pub assign_right-requires-clause-named : goal.assign_right-requires-clause-named
assign_right-requires-clause-named c =
    let both = subst (λ a. IsActionReady (known c.args.self.now) c.args.context.occurrence (action_of a)) c.in-Assign.is c.requires in subst (λ l. IsNamed (known c.args.self.now) c.args.context.occurrence l) (sym c.of.ensures) both.0

pub assign_right-requires-clause-right : goal.assign_right-requires-clause-right
assign_right-requires-clause-right c =
    let both = subst (λ a. IsActionReady (known c.args.self.now) c.args.context.occurrence (action_of a)) c.in-Assign.is c.requires in both.1

pub call_for_nothing-requires : goal.call_for_nothing-requires
call_for_nothing-requires c =
    subst (λ a. IsActionReady (known c.args.self.now) c.args.context.occurrence (action_of a)) c.in-Call.is c.requires

pub change-requires-clause-named : goal.change-requires-clause-named
change-requires-clause-named c =
    let both = subst (λ a. IsActionReady (known c.args.self.now) c.args.context.occurrence (action_of a)) c.in-Add.is c.requires in both.0

pub change-requires-clause-ready : goal.change-requires-clause-ready
change-requires-clause-ready c =
    let both = subst (λ a. IsActionReady (known c.args.self.now) c.args.context.occurrence (action_of a)) c.in-Add.is c.requires in both.1

pub returns-in_ok-change-in-Add-clause-ready : goal.returns-in_ok-change-in-Add-clause-ready
returns-in_ok-change-in-Add-clause-ready c = λ later.
    ready_same _ _ _ _ c.in_ok-change-in-Add.ensures.same refl (ready_left _ _ _ c.args.context.occurrence [] c.args.tasks.now refl later)

pub change-requires-in-Subtract-clause-named : goal.change-requires-in-Subtract-clause-named
change-requires-in-Subtract-clause-named c =
    let both = subst (λ a. IsActionReady (known c.args.self.now) c.args.context.occurrence (action_of a)) c.in-Subtract.is c.requires in both.0

pub change-requires-in-Subtract-clause-ready : goal.change-requires-in-Subtract-clause-ready
change-requires-in-Subtract-clause-ready c =
    let both = subst (λ a. IsActionReady (known c.args.self.now) c.args.context.occurrence (action_of a)) c.in-Subtract.is c.requires in both.1

pub returns-in_ok-change-in-Subtract-clause-ready : goal.returns-in_ok-change-in-Subtract-clause-ready
returns-in_ok-change-in-Subtract-clause-ready c = λ later.
    ready_same _ _ _ _ c.in_ok-change-in-Subtract.ensures.same refl (ready_left _ _ _ c.args.context.occurrence [] c.args.tasks.now refl later)
