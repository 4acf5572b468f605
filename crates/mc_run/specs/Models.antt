-- What the types of the code mean.
use Rattle.std.specs.Prelude.{◌+◌, ℕ, [], Result, Ok, Err}
use Rattle.mc_base.specs.declared.plain.FaultKind.{FaultKind}
use Rattle.mc_base.specs.declared.text.place.Place.{Place}
use Rattle.mc_flow.specs.Runs.{Final, ended, stopped, fault}
use Rattle.mc_semantics.specs.Resolved.Programs.{Left, Program}
use Rattle.mc_semantics.specs.Resolved.Configs.{Config}
use Rattle.mc_semantics.specs.Resolved.Steps.{Here}
use Rattle.mc_semantics.specs.Resolved.Views as resolved
use Rattle.mc_run_values.specs.Tasks.Going.{tasks_of, values_of}
use Rattle.mc_run.specs.declared.outcome.End.{End}
use Rattle.mc_run.specs.declared.outcome.End.TheVariants as ends
use Rattle.mc_run_values.specs.declared.values.refusal.Refusal.{Refusal}
use Rattle.mc_run_values.specs.declared.values.refusal.Refusal.TheVariants.{Missing, Unreadable, NotAllowed}
use Rattle.mc_run.specs.declared.outcome.Outcome.{Outcome}
use Rattle.mc_run.specs.declared.outcome.Outcome.TheVariants as outcomes
use Rattle.mc_run.specs.declared.outcome.Stepped.{Stepped}
use Rattle.mc_run.specs.declared.outcome.Stepped.TheVariants as steps
use Rattle.mc_run.specs.declared.assigning.Goal.{Goal}
use Rattle.mc_run.specs.declared.assigning.Goal.TheVariants as goals
use Rattle.mc_run.specs.declared.machine.Machine.{Machine}
use Rattle.mc_run.specs.declared.machine.Program as code

-- how a run comes to its end
abbrev pub final_of : End → Final
final_of ends.Ended = ended
final_of ends.Stopped = stopped
final_of (ends.Fault kind place) = fault kind place

abbrev pub outcome_of : End → Outcome
outcome_of ends.Ended = outcomes.Ended
outcome_of ends.Stopped = outcomes.Stopped
outcome_of (ends.Fault kind place) = outcomes.Fault kind place

-- why a run waits, when so many lines are gone: a line that is refused is one of them
abbrev pub refused_as : Refusal → ℕ → Outcome
refused_as Missing gone = outcomes.Short (gone + 1)
refused_as Unreadable gone = outcomes.Bad gone
refused_as NotAllowed gone = outcomes.Bad gone

-- where a run is
abbrev pub config_of : Machine → Config
config_of m = record { tasks = tasks_of m.work; values = values_of m.work; heap = m.heap }

abbrev pub here_of : Machine → Here
here_of m = record { values = values_of m.work; heap = m.heap }

abbrev pub program_of : code.Program → Program
program_of p = resolved.program_of p.resolved.now p.defs.now

-- the run goes on after a change, or faults at the place
abbrev pub settled_of : Result Unit FaultKind → Place → Stepped
settled_of (Ok done) place = steps.Goes
settled_of (Err kind) place = steps.Ends (ends.Fault kind place)

-- what gets a value, as a left side
abbrev pub goal_of : Goal → Left
goal_of (goals.Variable x) = record { variable = x; fields = [] }
goal_of (goals.Left l) = resolved.left_of l.now
