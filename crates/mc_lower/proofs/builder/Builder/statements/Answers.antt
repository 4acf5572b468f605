use Rattle.mc_lower.proofs.Readying.{ready_left, ready_statements, ready_two}
use Rattle.std.proofs.Common.{refl}
use Rattle.mc_lower_spec.specs.Length.Lengths.{all_declared}
use Rattle.std.proofs.Common.{◌≡◌, ◌∷◌, arith, ◌-◌, List, length, map, take, drop, sym, ap, ◌∙◌, subst}
use Rattle.std.proofs.lemmas.List.{take_rest}
use Rattle.mc_semantics.specs.declared.resolved.program.Statement.{Statement}
use Rattle.mc_semantics.specs.Resolved.Views.{statement_of, stmts_of}
use Rattle.mc_lower_spec.specs.Lowering.{LowersAll, lowers_none, lowers_next}
use Rattle.mc_lower.specs.Left.{around_of}
use Rattle.mc_lower.specs.Worlds.{stage_of}
use Rattle.mc_lower.proofs.Agreeing.{first_of, is_none}
use Rattle.mc_lower.proofs.Resting.{pushed_two}
use Rattle.mc_lower.proofs.builder.Builder.statements.Goals as goal

pub returns-clause-leads : goal.returns-clause-leads
returns-clause-leads c = λ w u agrees rest.
    let items : List Statement = c.args.statements.now in
    let first = c.first-item.result in
    let more : List Statement = take (length items - 1) (drop 1 items) in
    let split : items ≡ first ∷ more =
    first_of items first c.in-len1-up.len_at_least c.first-item.is ∙ ap (λ (l : List Statement). first ∷ l) (sym (take_rest items 1)) in
    let s = stage_of w c.args.self.now in
    let r = pushed_two w _ _ _ _ _ s u c.in_ok-push-2.ensures c.in_ok-push.ensures rest in
    (agrees, (r.2.0, subst (λ l. LowersAll w.graph (around_of w c.args.context) (stmts_of (map statement_of l)) s r.2.0) (sym split) (lowers_next r.1 r.2.1), r.2.2))

pub returns-in_default-clause-leads : goal.returns-in_default-clause-leads
returns-in_default-clause-leads c = λ w u agrees rest.
    let s = stage_of w c.args.self.now in
    let below = c.in_default.len_below in
    let count : length c.args.statements.now ≡ 0 = omega arith in
    (agrees, (s, subst (λ l. LowersAll w.graph (around_of w c.args.context) (stmts_of (map statement_of l)) s s) (sym (is_none c.args.statements.now count)) lowers_none, rest))

pub returns-clause-ready : goal.returns-clause-ready
returns-clause-ready c = λ later.
    let items : List Statement = c.args.statements.now in
    let first = c.first-item.result in
    let more : List Statement = take (length items - 1) (drop 1 items) in
    let split : items ≡ first ∷ more =
    first_of items first c.in-len1-up.len_at_least c.first-item.is ∙ ap (λ (l : List Statement). first ∷ l) (sym (take_rest items 1)) in
    ready_two _ _ _ _ _ _ _ refl c.in_ok-push-2.ensures c.in_ok-push.ensures (ready_statements _ _ _ c.args.context (record { ref_ptr = (0, 0); now = first }) c.args.statements (record { ref_ptr = (0, 0); now = more }) c.args.tasks.now split c.requires later)

pub returns-in_default-clause-ready : goal.returns-in_default-clause-ready
returns-in_default-clause-ready c = λ later.
    let below = c.in_default.len_below in
    let count : length c.args.statements.now ≡ 0 = omega arith in
    ready_left _ _ _ c.args.context.occurrence _ c.args.tasks.now (ap (λ l. all_declared (stmts_of (map statement_of l))) (is_none c.args.statements.now count)) later
