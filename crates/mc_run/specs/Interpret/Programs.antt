-- What the run of a program comes to.
use Rattle.std.specs.Prelude.{◌≡◌, ℕ, List, Some, slice_get}
use Rattle.mc_flow.specs.declared.defs.rules.Def.{Def}
use Rattle.mc_c_syntax.specs.Ast.Trees.{FunctionTree, UnitTree}
use Rattle.mc_c_types.specs.Tables.{called_function, struct_infos, tables_of}
use Rattle.mc_semantics.specs.Steps.{program_of, start, Step}
use Rattle.mc_semantics.specs.Resolved.Resolving.{resolved_program}
use Rattle.mc_semantics.specs.Waiting.Trees.{Asks}
use Rattle.mc_run.specs.declared.outcome.Outcome.{Outcome}
use Rattle.mc_run.specs.declared.outcome.Outcome.TheVariants as outcomes
use Rattle.mc_run.specs.Runs.{RunsFrom, RunsTo}
use Rattle.mc_run.specs.declared.interpret.ending.Ending.{Ending}
use Rattle.mc_run.specs.declared.interpret.ending.Ending.TheVariants.{Ended, Stopped, Fault, FuelSpent, Short, Bad}

-- what the program comes to, among all that a run can come to
abbrev pub outcome_of : Ending → Outcome
outcome_of Ended = outcomes.Ended
outcome_of Stopped = outcomes.Stopped
outcome_of (Fault kind place) = outcomes.Fault kind place
outcome_of FuelSpent = outcomes.FuelSpent
outcome_of (Short number) = outcomes.Short number
outcome_of (Bad number) = outcomes.Bad number

-- with the lines of a script and fuel the run from the entry of this name comes to this
abbrev pub ProgramRuns : UnitTree → (entry : List ℕ) → List Def → (script : List (List ℕ)) → (fuel : ℕ) → Ending → Type 0
ProgramRuns unit entry defs script fuel ending =
    (f : FunctionTree) × (called_function (tables_of unit) entry ≡ Some f)
    × RunsTo (Step (program_of unit defs)) (Asks (program_of unit defs)) (struct_infos unit)
    (start (program_of unit defs) f) script fuel (outcome_of ending)

-- the same for the program with its names resolved, which may be stuck
abbrev pub ResolvedRuns : UnitTree → (entry : List ℕ) → List Def → (script : List (List ℕ)) → (fuel : ℕ) → Outcome → Type 0
ResolvedRuns unit entry defs script fuel outcome =
    RunsFrom (resolved_program (tables_of unit) defs entry) (struct_infos unit) script fuel outcome
    (slice_get (resolved_program (tables_of unit) defs entry).functions (resolved_program (tables_of unit) defs entry).entry)
