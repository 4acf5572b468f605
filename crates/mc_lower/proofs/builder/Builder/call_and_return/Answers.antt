use Rattle.mc_lower_spec.specs.Length.Lengths.{all_declared}
use Rattle.mc_semantics.specs.Resolved.Views.{function_of}
use Rattle.mc_lower.proofs.Readying.{answered_there, begun_fits, ready_answer}
use Rattle.mc_lower.specs.Knowns.{known}
use Rattle.std.proofs.Common.{Some, sym, subst}
use Rattle.mc_lower.specs.Ready.{Later}
use Rattle.std.proofs.Common.{◌∷◌}
use Rattle.mc_semantics.specs.Resolved.Views.{call_of}
use Rattle.mc_lower.specs.declared.tasks.Task.{Task}
use Rattle.mc_lower.specs.Left.{around_of}
use Rattle.mc_lower.specs.Worlds.{stage_of}
use Rattle.mc_lower.proofs.Calling.{answered}
use Rattle.mc_lower.proofs.Resting.{pushed}
use Rattle.mc_lower.proofs.Waiting.{out_waits, under_out}
use Rattle.mc_lower.proofs.builder.Builder.call_and_return.Goals as goal

pub returns-clause-leads : goal.returns-clause-leads
returns-clause-leads c = λ w u agrees rest.
    let s = stage_of w c.args.self.now in
    let own = c.own_result-own.result in
    let answer = c.in_ok-entered.entered.answer in
    let o = c.in_ok-push_body.ensures.leads w (stage_of w c.enter_call.new.self) u rest in
    let r = pushed w _ (Task.Answer c.args.place own answer c.args.context.occurrence ∷ c.args.tasks.now) o.2.0 u c.in_ok-push.ensures o.2.2 in
    let entered = c.in_ok-entered.ensures.leads w agrees in
    let made = c.own_result-own.ensures w entered.0 in
    (entered.0, (r.0, answered w.graph (around_of w c.args.context) c.args.place (call_of c.args.call.now) own answer s o.2.0 r.0 made (entered.1 o.0 o.2.0 o.1 o.2.1) r.1, r.2))

pub returns-clause-ready : goal.returns-clause-ready
returns-clause-ready c = λ later.
    let b = c.in_ok-entered.ensures.begun in
    let sound = c.requires.call.1.sound in
    let m = known c.enter_call.new.self in
    let fits = begun_fits (known c.args.self.now) m (call_of c.args.call.now) c.in_ok-entered.entered sound c.requires.call.1.bounded b in
    let some = answered_there (known c.args.self.now) c.args.context.occurrence c.requires.call.0 (call_of c.args.call.now) _ c.in_ok-entered.entered.answer c.requires.call.1 b.there b.answered in
    c.in_ok-push_body.ensures.ready m (under_out (known c.args.self.now) m) (out_waits (known c.args.self.now) m _ b.waiting) fits b.occurs (subst (λ l. Later (under_out (known c.args.self.now) m) c.in_ok-entered.entered.callee.occurrence (all_declared (function_of c.in_ok-entered.entered.callee.function.now).body) l) (sym c.in_ok-push.ensures)
    (ready_answer _ _ _ _ _ c.args.context.occurrence _ (all_declared (function_of c.in_ok-entered.entered.callee.function.now).body) c.args.place c.own_result-own.result c.in_ok-entered.entered.answer c.args.tasks.now b.source b.grown b.latest c.requires.occurs some later))

pub enter_call-requires : goal.enter_call-requires
enter_call-requires c =
    (Some c.requires.call.0, c.requires.call.1)
