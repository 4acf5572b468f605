-- One comes to the next step move by move.
use Rattle.std.proofs.Common.{◌≡◌, Option, Some, None, subst}
use Rattle.mc_semantics.specs.Resolved.Configs.{Values, Tasks}
use Rattle.mc_semantics.specs.Resolved.Moves.{moved}
use Rattle.mc_run_values.specs.Tasks.Going.{Advances, Stands, tasks_of, values_of}
use Rattle.mc_run_values.specs.declared.tasks.next.Next.{Next}
use Rattle.mc_run_values.specs.declared.tasks.work.Work.{Work}

pub goes_on : (values : Values) (tasks : Tasks) (found : Option Next) (w : Work) → Advances values tasks found w → found ≡ None → moved values tasks ≡ Some (values_of w, tasks_of w)
goes_on values tasks None w made is = made
goes_on values tasks (Some next) w made is = cc

pub stands_at : (values : Values) (tasks : Tasks) (found : Option Next) (next : Next) (w : Work) → Advances values tasks found w → found ≡ Some next → Stands next w values tasks
stands_at values tasks None next w made is = cc
stands_at values tasks (Some other) next w made is =
    let same : other ≡ next = cc in
    let P : Next → Type 0 = λ n. Stands n w values tasks in
    subst P same made
