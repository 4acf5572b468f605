use Rattle.std.proofs.Common.{◌≡◌, ◌<◌, subst, sym, ap, ◌∙◌, length}
use Rattle.mc_flow.specs.declared.instr.Instr.TheVariants.{Undef}
use Rattle.mc_lower_spec.specs.Graphs.{AreMade, Appends, plain, point}
use Rattle.mc_semantics.specs.Resolved.Views.{function_of, local_of}
use Rattle.mc_lower.specs.declared.lines.Awaited.{Awaited}
use Rattle.mc_lower.specs.Knowns.{with_next}
use Rattle.mc_lower.specs.Worlds.{stage_of}
use Rattle.mc_lower.proofs.Agreeing.{appended_there, out_label, targets}
use Rattle.mc_lower.proofs.Meeting.{ended, mapped_length}
use Rattle.mc_lower.proofs.builder.Builder.end_call.Goals as goal

pub returns-clause-leads : goal.returns-clause-leads
returns-clause-leads c = λ w agrees.
    let old = c.args.self.now in
    let i = c.args.callee.occurrence in
    let landed = c.in_ok-land.ensures.leads (Awaited.Out i) c.requires.waits.0 c.requires.waits.1 w agrees in
    let vs = c.in_ok-made.made.items in
    let to = targets _ _ _ c.target.ensures c.next-next.ensures in
    let there = appended_there w _ _ c.args.place _ _ (λ q. Undef vs q) _ _
    (ap (λ q. Undef c.of.result (point (w.at q.0))) to ∙ ap (λ l. Undef l (point (w.at old.lines.labels))) c.of.ensures) landed.1 in
    let count = length (function_of c.args.callee.function.now).locals in
    let counted : c.len.result ≡ count = c.len.ensures ∙ c.args.callee.function.now.locals.ok.0 ∙ sym (mapped_length local_of c.args.callee.function.now.locals.items) in
    let made = subst (λ n. AreMade w.graph (w.out i) (λ x. x < n) (stage_of w old) vs) counted (c.in_ok-made.ensures w landed.0) in (
      landed.0,
      ended w.graph (w.out i) c.args.place count _ there.0 (stage_of w old) _ (out_label w old i c.requires.occurs landed.0) there.1
          (record { made = vs; are_made = made; undefined = subst (λ s. Appends w.graph plain c.args.place (λ q. Undef vs q) s (stage_of w c.land.new.self)) (sym there.1) there.2 }),
    )

pub returns-clause-rest : goal.returns-clause-rest
returns-clause-rest c =
    let out = Awaited.Out c.args.callee.occurrence in
    c.requires.waits.1 ∙ ap (λ k. with_next out k) (sym (c.in_ok-land.ensures.rest out c.requires.waits.0 c.requires.waits.1))

pub land-requires : goal.land-requires
land-requires c = (Awaited.Out c.args.callee.occurrence, c.requires.waits.0, c.requires.waits.1)
