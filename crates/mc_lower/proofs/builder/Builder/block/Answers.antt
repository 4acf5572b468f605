use Rattle.mc_lower.proofs.Readying.{block_grown, ready_block, ready_same}
use Rattle.mc_lower.specs.Knowns.{known}
use Rattle.std.proofs.Common.{arith}
use Rattle.std.proofs.Common.{◌∷◌, map, ap, ◌∙◌, subst, sym}
use Rattle.mc_semantics.specs.Resolved.Views.{statement_of, stmts_of}
use Rattle.mc_lower_spec.specs.Lowering.{LowersAll, blocks}
use Rattle.mc_lower.specs.declared.tasks.Task.{Task}
use Rattle.mc_lower.specs.Left.{around_of}
use Rattle.mc_lower.specs.Worlds.{stage_of}
use Rattle.mc_lower.proofs.Resting.{pushed, inside_block}
use Rattle.mc_lower.proofs.builder.Builder.block.Goals as goal

pub returns-clause-leads : goal.returns-clause-leads
returns-clause-leads c = λ w u agrees rest.
    let xs = c.args.numbers in
    let inner = Task.Statements c.args.statements c.in_block.result in
    let r = pushed w _ (inner ∷ Task.EndBlock xs c.args.context.occurrence ∷ c.args.tasks.now) _ u (c.in_ok-push-2.ensures ∙ ap (λ l. inner ∷ l) c.in_ok-push.ensures) rest in
    let opened = c.in_ok-block.ensures.kept w agrees in
    let around = inside_block w c.args.context c.in_block.result c.in_ok-block.block xs.now c.in_block.ensures (c.in_ok-block.ensures.opened w agrees) in
    let body = subst (λ a. LowersAll w.graph a (stmts_of (map statement_of c.args.statements.now)) (stage_of w c.args.self.now) r.0) around
    (subst (λ s. LowersAll w.graph (around_of w c.in_block.result) (stmts_of (map statement_of c.args.statements.now)) s r.0) (sym opened.1) r.1) in
    (opened.0, (r.2.0, blocks body r.2.1, r.2.2))

pub returns-clause-ready : goal.returns-clause-ready
returns-clause-ready c = λ later.
    let inner = Task.Statements c.args.statements c.in_block.result in
    let low = c.in_ok-block.ensures.last in
    ready_same _ _ _ _ c.in_ok-block.ensures.same (c.in_ok-push-2.ensures ∙ ap (λ l. inner ∷ l) c.in_ok-push.ensures)
    (ready_block _ _ _ _ c.args.context c.in_block.result c.args.numbers c.args.statements c.in_ok-block.block c.args.tasks.now c.in_block.ensures (omega arith) (block_grown (known c.args.self.now).state c.args.context.occurrence) c.requires later)

pub open-requires : goal.open-requires
open-requires c =
    c.requires.stands.block
