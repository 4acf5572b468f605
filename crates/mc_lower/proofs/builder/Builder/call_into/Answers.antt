use Rattle.mc_lower_spec.specs.Length.Lengths.{all_declared}
use Rattle.mc_semantics.specs.Resolved.Views.{function_of}
use Rattle.mc_lower.proofs.Readying.{answered_there, begun_fits, ready_take}
use Rattle.mc_lower.specs.Knowns.{known}
use Rattle.std.proofs.Common.{Some, sym, subst}
use Rattle.mc_lower.specs.Ready.{Later}
use Rattle.std.proofs.Common.{◌∷◌}
use Rattle.mc_semantics.specs.Resolved.Views.{call_of}
use Rattle.mc_lower.specs.declared.tasks.Task.{Task}
use Rattle.mc_lower.specs.Worlds.{stage_of}
use Rattle.mc_lower.proofs.Calling.{taken_result}
use Rattle.mc_lower.proofs.Resting.{pushed}
use Rattle.mc_lower.proofs.Waiting.{out_waits, under_out}
use Rattle.mc_lower.proofs.builder.Builder.call_into.Goals as goal

pub returns-clause-leads : goal.returns-clause-leads
returns-clause-leads c = λ w u agrees rest.
    let s = stage_of w c.args.self.now in
    let answer = c.in_ok-entered.entered.answer in
    let o = c.in_ok-push_body.ensures.leads w (stage_of w c.enter_call.new.self) u rest in
    let r = pushed w _ (Task.Take c.args.place c.args.target answer c.args.context.occurrence ∷ c.args.tasks.now) o.2.0 u c.in_ok-push.ensures o.2.2 in
    let entered = c.in_ok-entered.ensures.leads w agrees in
    (entered.0, (r.0, taken_result w.graph (w.out c.args.context.occurrence) c.args.place (call_of c.args.call.now) c.args.target answer s o.2.0 r.0 (entered.1 o.0 o.2.0 o.1 o.2.1) r.1, r.2))

pub returns-clause-ready : goal.returns-clause-ready
returns-clause-ready c = λ later.
    let b = c.in_ok-entered.ensures.begun in
    let sound = c.requires.call.1.sound in
    let m = known c.enter_call.new.self in
    let fits = begun_fits (known c.args.self.now) m (call_of c.args.call.now) c.in_ok-entered.entered sound c.requires.call.1.bounded b in
    let some = answered_there (known c.args.self.now) c.args.context.occurrence c.requires.call.0 (call_of c.args.call.now) _ c.in_ok-entered.entered.answer c.requires.call.1 b.there b.answered in
    c.in_ok-push_body.ensures.ready m (under_out (known c.args.self.now) m) (out_waits (known c.args.self.now) m _ b.waiting) fits b.occurs (subst (λ l. Later (under_out (known c.args.self.now) m) c.in_ok-entered.entered.callee.occurrence (all_declared (function_of c.in_ok-entered.entered.callee.function.now).body) l) (sym c.in_ok-push.ensures)
    (ready_take _ _ _ _ _ c.args.context.occurrence _ (all_declared (function_of c.in_ok-entered.entered.callee.function.now).body) c.args.place c.args.target c.in_ok-entered.entered.answer c.args.tasks.now b.source b.grown b.latest c.requires.named some later))

pub enter_call-requires : goal.enter_call-requires
enter_call-requires c =
    (Some c.requires.call.0, c.requires.call.1)
