use Rattle.mc_semantics.specs.Resolved.Programs.{declaration}
use Rattle.mc_lower.proofs.Readying.{needs_return, ready_declaration, ready_left, ready_same, ready_simple}
use Rattle.mc_lower.specs.Knowns.{known}
use Rattle.std.proofs.Common.{refl}
use Rattle.mc_lower_spec.specs.Length.Lengths.{declared}
use Rattle.mc_lower.specs.Ready.{Later}
use Rattle.std.proofs.Common.{map, ap, ◌∙◌, sym, subst}
use Rattle.std.specs.Prelude.{option_map}
use Rattle.mc_semantics.specs.Resolved.Programs.{returns}
use Rattle.mc_semantics.specs.Resolved.Views.{function_of, initial_of, right_of, statement_of}
use Rattle.mc_lower_spec.specs.Lowering.{Declares, Lowers, declarations, simples, empties}
use Rattle.mc_lower.specs.Left.{around_of}
use Rattle.mc_lower.specs.Worlds.{stage_of}
use Rattle.mc_lower.proofs.Resting.{copied_map, pushed}
use Rattle.mc_lower.proofs.builder.Builder.statement.Goals as goal
use Rattle.mc_lower_spec.proofs.LengthLemmas.Seen.{declaration_statement_seen, empty_statement_seen, return_statement_seen, simple_statement_seen}

pub returns-in_ok-push-in-Declaration-clause-leads : goal.returns-in_ok-push-in-Declaration-clause-leads
returns-in_ok-push-in-Declaration-clause-leads c = λ w u agrees rest.
    let s = stage_of w c.args.self.now in
    let r = pushed w _ _ s u c.in_ok-push-in-Declaration.ensures rest in
    let declared = subst (λ l. Declares w.graph (function_of c.args.context.function.now) (w.out c.args.context.occurrence) c.in-Declaration.place (map initial_of l) s r.0) c.as_slice.ensures.value r.1 in
    (agrees, (r.0, subst (λ x. Lowers w.graph (around_of w c.args.context) x (stage_of w c.args.self.now) (r.0)) (sym (ap statement_of c.in-Declaration.is ∙ declaration_statement_seen c.in-Declaration.place c.in-Declaration.items)) (declarations declared), r.2))

pub returns-in-Empty-clause-leads : goal.returns-in-Empty-clause-leads
returns-in-Empty-clause-leads c = λ w u agrees rest.
    let s = stage_of w c.args.self.now in
    (agrees, (s, subst (λ x. Lowers w.graph (around_of w c.args.context) x (stage_of w c.args.self.now) (s)) (sym (ap statement_of c.in-Empty.is ∙ empty_statement_seen)) (empties), rest))

pub returns-in_ok-push-in-Simple-clause-leads : goal.returns-in_ok-push-in-Simple-clause-leads
returns-in_ok-push-in-Simple-clause-leads c = λ w u agrees rest.
    let s = stage_of w c.args.self.now in
    let r = pushed w _ _ s u c.in_ok-push-in-Simple.ensures rest in
    (agrees, (r.0, subst (λ x. Lowers w.graph (around_of w c.args.context) x (stage_of w c.args.self.now) (r.0)) (sym (ap statement_of c.in-Simple.is ∙ simple_statement_seen c.in-Simple.simple)) (simples r.1), r.2))

pub returns-in_ok-returns-in-Return-clause-leads : goal.returns-in_ok-returns-in-Return-clause-leads
returns-in_ok-returns-in-Return-clause-leads c = λ w u agrees rest.
    let e = c.in_ok-returns-in-Return.ensures.leads w u agrees rest in
    (e.0, (e.1.0, subst (λ x. Lowers w.graph (around_of w c.args.context) x (stage_of w c.args.self.now) (e.1.0)) (sym (ap statement_of c.in-Return.is ∙ return_statement_seen c.in-Return.place c.in-Return.value ∙ ap (λ o. returns c.in-Return.place (option_map right_of o)) (sym c.as_ref.ensures.value) ∙ ap (λ o. returns c.in-Return.place o) (copied_map right_of c.as_ref.result))) (e.1.1), e.1.2))

pub returns-in_ok-outer-in-Block-clause-leads : goal.returns-in_ok-outer-in-Block-clause-leads
returns-in_ok-outer-in-Block-clause-leads c = c.in_ok-outer-in-Block.ensures.leads

pub returns-in_ok-command-in-Free-clause-leads : goal.returns-in_ok-command-in-Free-clause-leads
returns-in_ok-command-in-Free-clause-leads c = λ w u agrees rest.
    let e = c.in_ok-command-in-Free.ensures.leads w agrees in
    (e.0, (stage_of w c.command.new.self, e.1, rest))

pub returns-in_ok-push-in-Declaration-clause-ready : goal.returns-in_ok-push-in-Declaration-clause-ready
returns-in_ok-push-in-Declaration-clause-ready c = λ later.
    ready_same _ _ _ _ refl c.in_ok-push-in-Declaration.ensures (ready_declaration _ _ _ c.args.context c.in-Declaration.place c.as_slice.result (statement_of c.args.statement.now) c.args.tasks.now (ap statement_of c.in-Declaration.is ∙ declaration_statement_seen c.in-Declaration.place c.in-Declaration.items ∙ ap (λ l. declaration c.in-Declaration.place (map initial_of l)) (sym c.as_slice.ensures.value)) c.requires later)

pub returns-in-Empty-clause-ready : goal.returns-in-Empty-clause-ready
returns-in-Empty-clause-ready c = λ later.
    ready_left _ _ _ c.args.context.occurrence _ c.args.tasks.now (ap declared (ap statement_of c.in-Empty.is ∙ empty_statement_seen)) later

pub returns-in_ok-push-in-Simple-clause-ready : goal.returns-in_ok-push-in-Simple-clause-ready
returns-in_ok-push-in-Simple-clause-ready c = λ later.
    ready_same _ _ _ _ refl c.in_ok-push-in-Simple.ensures (ready_simple _ _ _ c.args.context (record { ref_ptr = (0, 0); now = c.in-Simple.simple }) (statement_of c.args.statement.now) c.args.tasks.now (ap statement_of c.in-Simple.is ∙ simple_statement_seen c.in-Simple.simple) c.requires later)

pub returns-requires-clause-value : goal.returns-requires-clause-value
returns-requires-clause-value c =
    needs_return _ _ _ c.args.context c.in-Return.place _ (statement_of c.args.statement.now) (ap statement_of c.in-Return.is ∙ return_statement_seen c.in-Return.place c.in-Return.value ∙ ap (λ o. returns c.in-Return.place (option_map right_of o)) (sym c.as_ref.ensures.value) ∙ ap (λ o. returns c.in-Return.place o) (copied_map right_of c.as_ref.result)) c.requires

pub returns-requires-clause-occurs : goal.returns-requires-clause-occurs
returns-requires-clause-occurs c =
    c.requires.stands.occurs

pub returns-in_ok-returns-in-Return-clause-ready : goal.returns-in_ok-returns-in-Return-clause-ready
returns-in_ok-returns-in-Return-clause-ready c = λ later.
    c.in_ok-returns-in-Return.ensures.ready (subst (λ l. Later (known c.args.self.now) c.args.context.occurrence l c.args.tasks.now) (ap declared (ap statement_of c.in-Return.is ∙ return_statement_seen c.in-Return.place c.in-Return.value ∙ ap (λ o. returns c.in-Return.place (option_map right_of o)) (sym c.as_ref.ensures.value) ∙ ap (λ o. returns c.in-Return.place o) (copied_map right_of c.as_ref.result))) later)

pub returns-in_ok-command-in-Free-clause-ready : goal.returns-in_ok-command-in-Free-clause-ready
returns-in_ok-command-in-Free-clause-ready c = λ later.
    ready_same _ _ _ _ c.in_ok-command-in-Free.ensures.same refl (ready_left _ _ _ c.args.context.occurrence _ c.args.tasks.now c.in_ok-command-in-Free.ensures.none later)

pub returns-in_ok-outer-in-Block-clause-ready : goal.returns-in_ok-outer-in-Block-clause-ready
returns-in_ok-outer-in-Block-clause-ready c =
    c.in_ok-outer-in-Block.ensures.ready
