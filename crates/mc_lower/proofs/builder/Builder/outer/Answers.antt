use Rattle.mc_lower.specs.Knowns.{known}
use Rattle.mc_lower_spec.specs.Length.Lengths.{declared}
use Rattle.mc_lower.specs.Ready.{FitsStatement, Later}
use Rattle.std.proofs.Common.{map, ap, ◌∙◌, sym, subst}
use Rattle.mc_semantics.specs.Resolved.Programs.{block, if_only, if_else, while_loop, do_loop, for_loop}
use Rattle.mc_semantics.specs.Resolved.Views.{condition_of, head_of, statement_of, stmts_of}
use Rattle.mc_lower_spec.specs.Lowering.{Lowers}
use Rattle.mc_lower.specs.Left.{around_of}
use Rattle.mc_lower.specs.Worlds.{stage_of}
use Rattle.mc_lower.proofs.builder.Builder.outer.Goals as goal
use Rattle.mc_lower_spec.proofs.LengthLemmas.Seen.{block_statement_seen, do_statement_seen, for_statement_seen, if_else_statement_seen, if_statement_seen, while_statement_seen}

pub returns-in_ok-block-in-Block-clause-leads : goal.returns-in_ok-block-in-Block-clause-leads
returns-in_ok-block-in-Block-clause-leads c = λ w u agrees rest.
    let e = c.in_ok-block-in-Block.ensures.leads w u agrees rest in
    (e.0, (e.1.0, subst (λ x. Lowers w.graph (around_of w c.args.context) x (stage_of w c.args.self.now) (e.1.0)) (sym (ap statement_of c.in-Block.is ∙ block_statement_seen c.in-Block.numbers c.in-Block.inner ∙ ap (λ l. block l (stmts_of (map statement_of c.in-Block.inner.items))) (sym c.as_slice.ensures.value) ∙ ap (λ l. block c.as_slice.result.now (stmts_of (map statement_of l))) (sym c.as_slice-in-Block.ensures.value))) (e.1.1), e.1.2))

pub returns-in_ok-if_only-in-If-clause-leads : goal.returns-in_ok-if_only-in-If-clause-leads
returns-in_ok-if_only-in-If-clause-leads c = λ w u agrees rest.
    let e = c.in_ok-if_only-in-If.ensures.leads w u agrees rest in
    (e.0, (e.1.0, subst (λ x. Lowers w.graph (around_of w c.args.context) x (stage_of w c.args.self.now) (e.1.0)) (sym (ap statement_of c.in-If.is ∙ if_statement_seen c.in-If.place c.in-If.condition c.in-If.part ∙ ap (λ x. if_only c.in-If.place (condition_of c.in-If.condition) (statement_of x)) (sym c.deref.ensures))) (e.1.1), e.1.2))

pub returns-in_ok-if_else-in-IfElse-clause-leads : goal.returns-in_ok-if_else-in-IfElse-clause-leads
returns-in_ok-if_else-in-IfElse-clause-leads c = λ w u agrees rest.
    let e = c.in_ok-if_else-in-IfElse.ensures.leads w u agrees rest in
    (e.0, (e.1.0, subst (λ x. Lowers w.graph (around_of w c.args.context) x (stage_of w c.args.self.now) (e.1.0)) (sym (ap statement_of c.in-IfElse.is ∙ if_else_statement_seen c.in-IfElse.place c.in-IfElse.condition c.in-IfElse.first c.in-IfElse.second ∙ ap (λ x. if_else c.in-IfElse.place (condition_of c.in-IfElse.condition) (statement_of x) (statement_of c.in-IfElse.second.value)) (sym c.deref-in-IfElse.ensures) ∙ ap (λ x. if_else c.in-IfElse.place (condition_of c.in-IfElse.condition) (statement_of c.deref-in-IfElse.result.now) (statement_of x)) (sym c.deref-in-IfElse-2.ensures))) (e.1.1), e.1.2))

pub returns-in_ok-while_loop-in-While-clause-leads : goal.returns-in_ok-while_loop-in-While-clause-leads
returns-in_ok-while_loop-in-While-clause-leads c = λ w u agrees rest.
    let e = c.in_ok-while_loop-in-While.ensures.leads w u agrees rest in
    (e.0, (e.1.0, subst (λ x. Lowers w.graph (around_of w c.args.context) x (stage_of w c.args.self.now) (e.1.0)) (sym (ap statement_of c.in-While.is ∙ while_statement_seen c.in-While.place c.in-While.condition c.in-While.body ∙ ap (λ x. while_loop c.in-While.place (condition_of c.in-While.condition) (statement_of x)) (sym c.deref-in-While.ensures))) (e.1.1), e.1.2))

pub returns-in_ok-do_loop-in-Do-clause-leads : goal.returns-in_ok-do_loop-in-Do-clause-leads
returns-in_ok-do_loop-in-Do-clause-leads c = λ w u agrees rest.
    let e = c.in_ok-do_loop-in-Do.ensures.leads w u agrees rest in
    (e.0, (e.1.0, subst (λ x. Lowers w.graph (around_of w c.args.context) x (stage_of w c.args.self.now) (e.1.0)) (sym (ap statement_of c.in-Do.is ∙ do_statement_seen c.in-Do.place c.in-Do.body c.in-Do.condition ∙ ap (λ x. do_loop c.in-Do.place (statement_of x) (condition_of c.in-Do.condition)) (sym c.deref-in-Do.ensures))) (e.1.1), e.1.2))

pub returns-in_ok-for_loop-in-For-clause-leads : goal.returns-in_ok-for_loop-in-For-clause-leads
returns-in_ok-for_loop-in-For-clause-leads c = λ w u agrees rest.
    let e = c.in_ok-for_loop-in-For.ensures.leads w u agrees rest in
    (e.0, (e.1.0, subst (λ x. Lowers w.graph (around_of w c.args.context) x (stage_of w c.args.self.now) (e.1.0)) (sym (ap statement_of c.in-For.is ∙ for_statement_seen c.in-For.head c.in-For.body ∙ ap (λ x. for_loop (head_of x) (statement_of c.in-For.body.value)) (sym c.deref-in-For.ensures) ∙ ap (λ x. for_loop (head_of c.deref-in-For.result.now) (statement_of x)) (sym c.deref-in-For-2.ensures))) (e.1.1), e.1.2))

pub block-requires : goal.block-requires
block-requires c =
    subst (λ x. FitsStatement (known c.args.self.now) c.args.context x) (ap statement_of c.in-Block.is ∙ block_statement_seen c.in-Block.numbers c.in-Block.inner ∙ ap (λ l. block l (stmts_of (map statement_of c.in-Block.inner.items))) (sym c.as_slice.ensures.value) ∙ ap (λ l. block c.as_slice.result.now (stmts_of (map statement_of l))) (sym c.as_slice-in-Block.ensures.value)) c.requires.fits

pub returns-in_ok-block-in-Block-clause-ready : goal.returns-in_ok-block-in-Block-clause-ready
returns-in_ok-block-in-Block-clause-ready c = λ later.
    c.in_ok-block-in-Block.ensures.ready (subst (λ x. Later (known c.args.self.now) c.args.context.occurrence (declared x) c.args.tasks.now) (ap statement_of c.in-Block.is ∙ block_statement_seen c.in-Block.numbers c.in-Block.inner ∙ ap (λ l. block l (stmts_of (map statement_of c.in-Block.inner.items))) (sym c.as_slice.ensures.value) ∙ ap (λ l. block c.as_slice.result.now (stmts_of (map statement_of l))) (sym c.as_slice-in-Block.ensures.value)) later)

pub if_only-requires : goal.if_only-requires
if_only-requires c =
    subst (λ x. FitsStatement (known c.args.self.now) c.args.context x) (ap statement_of c.in-If.is ∙ if_statement_seen c.in-If.place c.in-If.condition c.in-If.part ∙ ap (λ x. if_only c.in-If.place (condition_of c.in-If.condition) (statement_of x)) (sym c.deref.ensures)) c.requires.fits

pub returns-in_ok-if_only-in-If-clause-ready : goal.returns-in_ok-if_only-in-If-clause-ready
returns-in_ok-if_only-in-If-clause-ready c = λ later.
    c.in_ok-if_only-in-If.ensures.ready (subst (λ x. Later (known c.args.self.now) c.args.context.occurrence (declared x) c.args.tasks.now) (ap statement_of c.in-If.is ∙ if_statement_seen c.in-If.place c.in-If.condition c.in-If.part ∙ ap (λ x. if_only c.in-If.place (condition_of c.in-If.condition) (statement_of x)) (sym c.deref.ensures)) later)

pub if_else-requires : goal.if_else-requires
if_else-requires c =
    subst (λ x. FitsStatement (known c.args.self.now) c.args.context x) (ap statement_of c.in-IfElse.is ∙ if_else_statement_seen c.in-IfElse.place c.in-IfElse.condition c.in-IfElse.first c.in-IfElse.second ∙ ap (λ x. if_else c.in-IfElse.place (condition_of c.in-IfElse.condition) (statement_of x) (statement_of c.in-IfElse.second.value)) (sym c.deref-in-IfElse.ensures) ∙ ap (λ x. if_else c.in-IfElse.place (condition_of c.in-IfElse.condition) (statement_of c.deref-in-IfElse.result.now) (statement_of x)) (sym c.deref-in-IfElse-2.ensures)) c.requires.fits

pub returns-in_ok-if_else-in-IfElse-clause-ready : goal.returns-in_ok-if_else-in-IfElse-clause-ready
returns-in_ok-if_else-in-IfElse-clause-ready c = λ later.
    c.in_ok-if_else-in-IfElse.ensures.ready (subst (λ x. Later (known c.args.self.now) c.args.context.occurrence (declared x) c.args.tasks.now) (ap statement_of c.in-IfElse.is ∙ if_else_statement_seen c.in-IfElse.place c.in-IfElse.condition c.in-IfElse.first c.in-IfElse.second ∙ ap (λ x. if_else c.in-IfElse.place (condition_of c.in-IfElse.condition) (statement_of x) (statement_of c.in-IfElse.second.value)) (sym c.deref-in-IfElse.ensures) ∙ ap (λ x. if_else c.in-IfElse.place (condition_of c.in-IfElse.condition) (statement_of c.deref-in-IfElse.result.now) (statement_of x)) (sym c.deref-in-IfElse-2.ensures)) later)

pub while_loop-requires : goal.while_loop-requires
while_loop-requires c =
    subst (λ x. FitsStatement (known c.args.self.now) c.args.context x) (ap statement_of c.in-While.is ∙ while_statement_seen c.in-While.place c.in-While.condition c.in-While.body ∙ ap (λ x. while_loop c.in-While.place (condition_of c.in-While.condition) (statement_of x)) (sym c.deref-in-While.ensures)) c.requires.fits

pub returns-in_ok-while_loop-in-While-clause-ready : goal.returns-in_ok-while_loop-in-While-clause-ready
returns-in_ok-while_loop-in-While-clause-ready c = λ later.
    c.in_ok-while_loop-in-While.ensures.ready (subst (λ x. Later (known c.args.self.now) c.args.context.occurrence (declared x) c.args.tasks.now) (ap statement_of c.in-While.is ∙ while_statement_seen c.in-While.place c.in-While.condition c.in-While.body ∙ ap (λ x. while_loop c.in-While.place (condition_of c.in-While.condition) (statement_of x)) (sym c.deref-in-While.ensures)) later)

pub do_loop-requires : goal.do_loop-requires
do_loop-requires c =
    subst (λ x. FitsStatement (known c.args.self.now) c.args.context x) (ap statement_of c.in-Do.is ∙ do_statement_seen c.in-Do.place c.in-Do.body c.in-Do.condition ∙ ap (λ x. do_loop c.in-Do.place (statement_of x) (condition_of c.in-Do.condition)) (sym c.deref-in-Do.ensures)) c.requires.fits

pub returns-in_ok-do_loop-in-Do-clause-ready : goal.returns-in_ok-do_loop-in-Do-clause-ready
returns-in_ok-do_loop-in-Do-clause-ready c = λ later.
    c.in_ok-do_loop-in-Do.ensures.ready (subst (λ x. Later (known c.args.self.now) c.args.context.occurrence (declared x) c.args.tasks.now) (ap statement_of c.in-Do.is ∙ do_statement_seen c.in-Do.place c.in-Do.body c.in-Do.condition ∙ ap (λ x. do_loop c.in-Do.place (statement_of x) (condition_of c.in-Do.condition)) (sym c.deref-in-Do.ensures)) later)

pub for_loop-requires : goal.for_loop-requires
for_loop-requires c =
    subst (λ x. FitsStatement (known c.args.self.now) c.args.context x) (ap statement_of c.in-For.is ∙ for_statement_seen c.in-For.head c.in-For.body ∙ ap (λ x. for_loop (head_of x) (statement_of c.in-For.body.value)) (sym c.deref-in-For.ensures) ∙ ap (λ x. for_loop (head_of c.deref-in-For.result.now) (statement_of x)) (sym c.deref-in-For-2.ensures)) c.requires.fits

pub returns-in_ok-for_loop-in-For-clause-ready : goal.returns-in_ok-for_loop-in-For-clause-ready
returns-in_ok-for_loop-in-For-clause-ready c = λ later.
    c.in_ok-for_loop-in-For.ensures.ready (subst (λ x. Later (known c.args.self.now) c.args.context.occurrence (declared x) c.args.tasks.now) (ap statement_of c.in-For.is ∙ for_statement_seen c.in-For.head c.in-For.body ∙ ap (λ x. for_loop (head_of x) (statement_of c.in-For.body.value)) (sym c.deref-in-For.ensures) ∙ ap (λ x. for_loop (head_of c.deref-in-For.result.now) (statement_of x)) (sym c.deref-in-For-2.ensures)) later)
