use Rattle.mc_run_values.specs.Tasks.Going.{tasks_of, values_of}
use Rattle.mc_run.proofs.Deciding.{returns_none, returns_some}
use Rattle.mc_run.proofs.calling.go_back.Goals as goal

pub returns-then-is_none : goal.returns-then-is_none
returns-then-is_none c =
    λ choices. returns_none c.args.machine.now.heap (tasks_of c.args.machine.now.work) c.args.place choices c.args.value c.is_none.result c.is_none.ensures c.if-is_none.true

pub returns : goal.returns
returns c =
    λ choices. returns_some c.args.machine.now.heap (tasks_of c.args.machine.now.work) (tasks_of c.go_back.new.self) (values_of c.go_back.new.self) c.args.place choices c.args.value c.is_none.result c.is_none.ensures c.if-is_none.false c.in_ok-go_back.ensures
