use Rattle.mc_lower.proofs.Readying.{one_low}
use Rattle.mc_lower.proofs.Readying.{declared_low, declared_right, local_grown, local_made, local_then, ready_same}
use Rattle.mc_lower.specs.Knowns.{IsThere, known}
use Rattle.mc_lower.specs.Ready.{IsRightReady, Later}
use Rattle.mc_semantics.specs.Resolved.Views.{initial_of}
use Rattle.std.proofs.Common.{[], ap, refl, ◌∙◌}
use Rattle.std.proofs.Common.{◌∷◌, sym, subst}
use Rattle.std.specs.Prelude.{option_map}
use Rattle.mc_semantics.specs.Resolved.Views.{function_of, right_of}
use Rattle.mc_lower_spec.specs.Lowering.{Declares, declares_undefined, declares_value}
use Rattle.mc_lower.specs.Worlds.{stage_of}
use Rattle.mc_lower.proofs.builder.Builder.declare_one.Goals as goal

pub returns-in_ok-undefine_all-in-None-clause-leads : goal.returns-in_ok-undefine_all-in-None-clause-leads
returns-in_ok-undefine_all-in-None-clause-leads c = λ w u agrees rest.
    let undefined = c.in_ok-undefine_all-in-None.ensures.leads w agrees in
    let created = c.in_ok-variable.ensures.leads w undefined.0 in (
      created.0,
      (
        stage_of w c.undefine_all.new.self,
        (λ items v more. subst (λ o. Declares w.graph (function_of c.args.context.function.now) (w.out c.args.context.occurrence) c.args.place (record { variable = c.args.item.now.variable; value = option_map right_of o } ∷ items) (stage_of w c.args.self.now) v)
            (sym c.in-None.is) (declares_undefined created.1.there created.1.created undefined.1 more)),
        rest,
      ),
    )

pub returns-in_ok-assign_right-in-Some-clause-leads : goal.returns-in_ok-assign_right-in-Some-clause-leads
returns-in_ok-assign_right-in-Some-clause-leads c = λ w u agrees rest.
    let assigned = c.in_ok-assign_right-in-Some.ensures.leads w u agrees rest in
    let created = c.in_ok-variable.ensures.leads w assigned.0 in (
      created.0,
      (
        assigned.1.0,
        (λ items v more. subst (λ o. Declares w.graph (function_of c.args.context.function.now) (w.out c.args.context.occurrence) c.args.place (record { variable = c.args.item.now.variable; value = option_map right_of o } ∷ items) (stage_of w c.args.self.now) v)
            (sym c.in-Some.is) (declares_value created.1.there created.1.created assigned.1.1 more)),
        assigned.1.2,
      ),
    )

pub create_local-requires-clause-low : goal.create_local-requires-clause-low
create_local-requires-clause-low c =
    declared_low _ _ _ c.args.context (initial_of c.args.item.now) c.requires

pub assign_right-requires-clause-named : goal.assign_right-requires-clause-named
assign_right-requires-clause-named c =
    (subst (λ k. IsThere k c.args.context.occurrence c.args.item.now.variable) (sym c.in_ok-variable.ensures.same) (local_made (known c.args.self.now) c.args.context.occurrence c.args.item.now.variable), tt)

pub assign_right-requires-clause-right : goal.assign_right-requires-clause-right
assign_right-requires-clause-right c =
    subst (λ k. IsRightReady k c.args.context.occurrence (right_of c.in-Some.right)) (sym c.in_ok-variable.ensures.same)
    (declared_right _ _ _ _ c.args.context c.args.item.now.variable (option_map right_of c.args.item.now.value) _ (ap (λ o. option_map right_of o) c.in-Some.is) (local_grown (known c.args.self.now) c.args.context.occurrence c.args.item.now.variable c.requires.stands.occurs) c.requires)

pub returns-in_ok-undefine_all-in-None-clause-ready : goal.returns-in_ok-undefine_all-in-None-clause-ready
returns-in_ok-undefine_all-in-None-clause-ready c = λ later.
    ready_same _ _ _ _ (c.in_ok-undefine_all-in-None.ensures.same ∙ c.in_ok-variable.ensures.same) refl (later _ (local_grown (known c.args.self.now) c.args.context.occurrence c.args.item.now.variable c.requires.stands.occurs))

pub returns-in_ok-assign_right-in-Some-clause-ready : goal.returns-in_ok-assign_right-in-Some-clause-ready
returns-in_ok-assign_right-in-Some-clause-ready c = λ later.
    c.in_ok-assign_right-in-Some.ensures.ready (subst (λ k. Later k c.args.context.occurrence [] c.args.tasks.now) (sym c.in_ok-variable.ensures.same)
    (λ t g. later t (local_then (known c.args.self.now) c.args.context.occurrence c.args.item.now.variable t c.requires.stands.occurs g)))

pub create_local-requires-clause-new : goal.create_local-requires-clause-new
create_local-requires-clause-new c = c.requires.new c.args.item.now.variable (0, one_low, refl)
