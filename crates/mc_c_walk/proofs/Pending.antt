-- What is pending once a block, a declaration or a `for` is on the stack.
use Rattle.std.proofs.Common.{◌≡◌, ℕ, true, Bool, List, ◌++◌, length, ap, sym, ◌∙◌, append_assoc}
use Rattle.mc_c_syntax.specs.Ast.Trees.{DeclarationTree, Head, declares, Stmt, for_loop, Stmts}
use Rattle.mc_c_types.specs.Scopes.{Scope, inside, behind, behind_items, behind_start}
use Rattle.mc_c_types.specs.Tables.{Tables}
use Rattle.mc_c_walk.specs.Parting.{as_head, behind_heads, outside}
use Rattle.mc_c_walk.specs.Tasks.{behind_all, pending}
use Rattle.mc_c_walk.specs.Visits.{Visit, items_visits, maybe_performed, maybe_tested, start_visits, statement_visits, statements_visits}
use Rattle.mc_c_walk.specs.declared.tasks.Task.{Task}
use Rattle.mc_c_walk.specs.declared.variables.Marks.{Marks}
use Rattle.mc_c_walk.proofs.Keeps.{outside_block, outside_for, outside_start}

pub block_pending : (t : Tables) (in_loop : Bool) (s : Scope) (ss : Stmts) (m : Marks) (tasks : List Task) → m.heads ≡ length s.heads → m.own ≡ length s.own
    → statements_visits t in_loop (inside s) ss ++ pending t (outside m (behind_all t (inside s) ss)) tasks ≡ statements_visits t in_loop (inside s) ss ++ pending t s tasks
block_pending t in_loop s ss m tasks heads own = ap (λ (around : Scope). statements_visits t in_loop (inside s) ss ++ pending t around tasks) (outside_block t s ss m heads own)

pub start_pending : (t : Tables) (s : Scope) (d : DeclarationTree) (m : Marks) (tasks : List Task) → m.heads ≡ length s.heads → m.own ≡ length s.own
    → items_visits t d.base (inside s) d.items ++ pending t (as_head m (behind_items t d.base (inside s) d.items)) tasks ≡ start_visits t s (declares d) ++ pending t (behind_start t s (declares d)) tasks
start_pending t s d m tasks heads own = ap (λ (around : Scope). items_visits t d.base (inside s) d.items ++ pending t around tasks) (outside_start t s d m heads own)

in_one : (a b c d e : List Visit) → a ++ (b ++ (c ++ (d ++ e))) ≡ (((a ++ b) ++ c) ++ d) ++ e
in_one a b c d e = sym (append_assoc a b (c ++ (d ++ e))) ∙ sym (append_assoc (a ++ b) c (d ++ e)) ∙ sym (append_assoc (a ++ b ++ c) d e)

pub for_pending : (t : Tables) (s : Scope) (h : Head) (a : Stmt) (kept : ℕ) (tasks : List Task) (all behind_first behind_condition : List Visit)
    → all ≡ start_visits t s h.start ++ behind_first
    → behind_first ≡ maybe_tested (behind_start t s h.start) h.condition ++ behind_condition
    → behind_condition ≡ maybe_performed (behind_start t s h.start) h.last ++ (statement_visits t true (behind_start t s h.start) a ++ pending t (behind_heads kept (behind t (behind_start t s h.start) a)) tasks)
    → kept ≡ length s.heads
    → all ≡ statement_visits t true s (for_loop h a) ++ pending t (behind t s (for_loop h a)) tasks
for_pending t s h a kept tasks all behind_first behind_condition first second third is =
    first
    ∙ ap (λ vs. start_visits t s h.start ++ vs) (second ∙ ap (λ vs. maybe_tested (behind_start t s h.start) h.condition ++ vs) (third ∙ ap (λ (around : Scope). maybe_performed (behind_start t s h.start) h.last ++ (statement_visits t true (behind_start t s h.start) a ++ pending t around tasks)) (outside_for t s h a kept is)))
    ∙ in_one (start_visits t s h.start) (maybe_tested (behind_start t s h.start) h.condition) (maybe_performed (behind_start t s h.start) h.last) (statement_visits t true (behind_start t s h.start) a) (pending t (behind t s (for_loop h a)) tasks)
