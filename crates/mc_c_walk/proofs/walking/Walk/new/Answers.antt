use Rattle.std.proofs.Common.{◌≡◌, [], ◌∷◌, ap, false, map, ◌∙◌}
use Rattle.mc_c_syntax.specs.Ast.Trees.{stmts_of}
use Rattle.mc_c_syntax.specs.Ast.Views.{function_of, statement_of}
use Rattle.mc_c_types.specs.Held.{tables_held}
use Rattle.mc_c_walk.specs.Visits.{start_scope, statements_visits}
use Rattle.mc_c_walk.specs.declared.tasks.Task.TheVariants as Task
use Rattle.mc_c_walk.proofs.Begun.{begun}
use Rattle.mc_c_walk.proofs.walking.Walk.new.Goals as goal

pub returns : goal.returns
returns c =
    let t = tables_held c.args.tables.now in
    let scope = start_scope t (function_of c.args.function.now) in
    let listed : c.in_ok-scope.scope ≡ scope = rw c.listed.ensures at c.in_ok-scope.ensures in
    begun t c.args.function.now c.in_ok-scope.scope c.push.new.self (Task.Several c.as_slice.result false) c.in-Some.body
    (c.in_ok-push.ensures ∙ ap (λ ts. Task.Several c.as_slice.result false ∷ ts) c.new-tasks.ensures)
    listed c.in-Some.is
    (ap (λ ss. statements_visits t false scope (stmts_of (map statement_of ss))) c.as_slice.ensures.value)
