use Rattle.mc_semantics.specs.Resolved.Moves.{here, there}
use Rattle.mc_run_values.specs.Tasks.Going.{tasks_of, values_of}
use Rattle.mc_run_values.proofs.TasksLemmas.Arriving.{goes_on, stands_at}
use Rattle.mc_run_values.proofs.TasksLemmas.Falling.{moved-falls}
use Rattle.mc_run_values.proofs.tasks.work.Work.arrive.Goals as goal

pub returns-in-Some : goal.returns-in-Some
returns-in-Some c =
    let values = values_of c.loop-next.self in
    let tasks = tasks_of c.loop-next.self in
    let stands = stands_at values tasks c.in_ok-next.field-0 c.in-Some.next c.advance.new.self c.in_ok-next.ensures c.in-Some.is in
    record { values = values; tasks = tasks; arrives = c.loop-next.invariant values tasks (here stands.0); stands = stands }

pub loop-next-smaller : goal.loop-next-smaller
loop-next-smaller c =
    moved-falls (values_of c.loop-next.self) (tasks_of c.loop-next.self) (values_of c.advance.new.self) (tasks_of c.advance.new.self) (goes_on (values_of c.loop-next.self) (tasks_of c.loop-next.self) c.in_ok-next.field-0 c.advance.new.self c.in_ok-next.ensures c.in-None.is)

pub loop-next-preserved : goal.loop-next-preserved
loop-next-preserved c =
    λ values tasks on. c.loop-next.invariant values tasks (there (goes_on (values_of c.loop-next.self) (tasks_of c.loop-next.self) c.in_ok-next.field-0 c.advance.new.self c.in_ok-next.ensures c.in-None.is) on)
