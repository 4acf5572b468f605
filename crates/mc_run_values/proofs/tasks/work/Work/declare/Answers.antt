use Rattle.std.proofs.Common.{◌≡◌, List, ◌∷◌, length, map, take, drop, ◌-◌, refl, sym, ap, ◌∙◌}
use Rattle.std.proofs.lemmas.List.{take_rest}
use Rattle.mc_semantics.specs.Resolved.Configs.{perform, task}
use Rattle.mc_semantics.specs.Resolved.Programs.{declaration}
use Rattle.mc_semantics.specs.Resolved.Views.{initial_of}
use Rattle.mc_semantics.specs.declared.resolved.program.Initial.{Initial as InitialCode}
use Rattle.mc_run_values.specs.Tasks.Left.{left}
use Rattle.mc_run_values.specs.declared.tasks.tasks.Task.{Task}
use Rattle.mc_run_values.proofs.TasksLemmas.Rows.{first_of}
use Rattle.mc_run_values.proofs.tasks.work.Work.declare.Goals as goal

pub returns : goal.returns
returns c =
    let items : List InitialCode = c.args.items.now in
    let more : List InitialCode = take (length items - 1) (drop 1 items) in
    let split : items ≡ c.first-item.result ∷ more =
    first_of items c.first-item.result c.in-len1-up.len_at_least c.first-item.is ∙ ap (λ (rest : List InitialCode). c.first-item.result ∷ rest) (sym (take_rest items 1)) in
    (rw split refl, (map initial_of more, left c.args.self.now.tasks, ap (λ (tasks : List Task). left tasks) c.in_ok-push.ensures, ap (λ (all : List InitialCode). task (perform (declaration c.args.place (map initial_of all))) (left c.args.self.now.tasks)) split), refl)
