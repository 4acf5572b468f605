-- What a walk has before it at its start.
use Rattle.std.proofs.Common.{◌≡◌, ◌++◌, List, [], ◌∷◌, map, ap, refl, false, Bor, ◌∙◌}
use Rattle.std.proofs.lemmas.List.{append-nil}
use Rattle.std.specs.Prelude.{Option, Some}
use Rattle.mc_c_syntax.specs.declared.ast.trees.Body.{Body}
use Rattle.mc_c_syntax.specs.declared.ast.trees.Function.{Function}
use Rattle.mc_c_syntax.specs.Ast.Trees.{stmts_of}
use Rattle.mc_c_syntax.specs.Ast.Views.{body_of, function_of, statement_of}
use Rattle.mc_c_types.specs.Scopes.{Scope}
use Rattle.mc_c_types.specs.Tables.{Tables}
use Rattle.mc_c_walk.specs.Tasks.{pending, task_visits}
use Rattle.mc_c_walk.specs.Visits.{body_visits, start_scope, statements_visits}
use Rattle.mc_c_walk.specs.declared.tasks.Task.{Task}
use Rattle.mc_c_walk.specs.declared.tasks.Task.TheVariants as Task

-- the whole body is a task
pub begun : (t : Tables) (f : Function) (scope : Scope) (tasks : List Task) (several : Task) (b : Body)
    → tasks ≡ several ∷ [] → scope ≡ start_scope t (function_of f) → f.body ≡ Some b
    → task_visits t (start_scope t (function_of f)) several ≡ statements_visits t false (start_scope t (function_of f)) (stmts_of (map statement_of b.statements.items))
    → pending t scope tasks ≡ body_visits t (function_of f) (function_of f).body
begun t f scope tasks several b held at is same =
    rw held (rw at (rw is (append-nil (task_visits t (start_scope t (function_of f)) several) ∙ same)))
