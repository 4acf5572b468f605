use Rattle.mc_lower_spec.specs.Length.Lengths.{all_declared}
use Rattle.mc_semantics.specs.Resolved.Views.{function_of}
use Rattle.mc_lower.proofs.Readying.{begun_fits, ready_call}
use Rattle.mc_lower.specs.Knowns.{known}
use Rattle.mc_semantics.specs.Resolved.Views.{call_of}
use Rattle.mc_lower_spec.specs.Lowering.{performs_call}
use Rattle.mc_lower.specs.Worlds.{stage_of}
use Rattle.mc_lower.proofs.Waiting.{out_waits, under_out}
use Rattle.mc_lower.proofs.builder.Builder.call_for_nothing.Goals as goal

pub returns-clause-leads : goal.returns-clause-leads
returns-clause-leads c = λ w u agrees rest.
    let o = c.in_ok-push_body.ensures.leads w (stage_of w c.enter_call.new.self) u rest in
    let entered = c.in_ok-entered.ensures.leads w agrees in
    (entered.0, (o.2.0, performs_call (entered.1 o.0 o.2.0 o.1 o.2.1), o.2.2))

pub returns-clause-ready : goal.returns-clause-ready
returns-clause-ready c = λ later.
    let b = c.in_ok-entered.ensures.begun in
    let sound = c.requires.1.sound in
    let m = known c.enter_call.new.self in
    let fits = begun_fits (known c.args.self.now) m (call_of c.args.call.now) c.in_ok-entered.entered sound c.requires.1.bounded b in
    c.in_ok-push_body.ensures.ready m (under_out (known c.args.self.now) m) (out_waits (known c.args.self.now) m _ b.waiting) fits b.occurs (ready_call _ _ _ _ _ c.args.context.occurrence _ (all_declared (function_of c.in_ok-entered.entered.callee.function.now).body) c.args.tasks.now b.source b.grown b.latest later)
