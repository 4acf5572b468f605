use Rattle.std.proofs.Common.{map, ap, subst}
use Rattle.mc_flow.specs.declared.instr.Instr.TheVariants.{AssumeShape}
use Rattle.mc_semantics.specs.Resolved.Views.{argument_of}
use Rattle.mc_lower_spec.specs.Graphs.{point}
use Rattle.mc_lower_spec.specs.Lowering.{AreArguments, shapes_assumed}
use Rattle.mc_lower.specs.Worlds.{stage_of}
use Rattle.mc_lower.proofs.Agreeing.{appended, targets}
use Rattle.mc_lower.proofs.builder.Builder.assume_shape.Goals as goal

pub returns-clause-leads : goal.returns-clause-leads
returns-clause-leads c = λ w agrees.
    let later = c.in_ok-append.ensures.leads w agrees in
    let to = targets _ _ _ c.target.ensures c.next-next.ensures in
    let out = w.out c.args.context.occurrence in
    let s = stage_of w c.args.self.now in
    let shape = c.args.shape.now in
    let os = c.in_ok-operands.operands in
    let first = c.local-variable.ensures w later.0 in
    let others = subst (λ l. AreArguments w.graph out s (map argument_of l) os) c.as_slice.ensures.value (c.in_ok-operands.ensures w later.0) in
    (later.0, shapes_assumed first others (appended w _ shape.place _ _ (λ q. AssumeShape shape.predicate c.local-variable.result os q) _ _ (ap (λ q. AssumeShape shape.predicate c.local-variable.result os (point (w.at q.0))) to) later.1))
