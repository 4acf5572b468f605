-- What is answered where a run faults.
use Rattle.std.specs.Prelude.{◌≡◌, ◌≤◌, ℕ, List, [], Some, map}
use Rattle.mc_base.specs.declared.plain.FaultKind.{FaultKind}
use Rattle.mc_base.specs.declared.text.place.Place.{Place}
use Rattle.mc_flow.specs.Heap.Choices.{malloc}
use Rattle.mc_flow.specs.Runs.{fault, Reaches}
use Rattle.mc_flow.specs.declared.defs.rules.Def.{Def}
use Rattle.mc_c_syntax.specs.Ast.Trees.{FunctionTree, UnitTree}
use Rattle.mc_c_types.specs.Tables.{called_function, struct_infos, tables_of}
use Rattle.mc_c_types.specs.Typing.{IsWellTyped}
use Rattle.mc_semantics.specs.Steps.{program_of, start, Step}
use Rattle.mc_run_values.specs.Values.Taking.{Takes}
use Rattle.mc_run.specs.declared.interpret.ending.Ending.{Ending}
use Rattle.mc_run.specs.declared.interpret.ending.Ending.TheVariants.{Fault}
use Rattle.mc_run.specs.Interpret.Programs.{ProgramRuns}

-- where the run of a well typed program whose choices are answers of malloc faults within the fuel, the program comes to
-- that fault with the script whose lines mean these answers
abbrev pub FaultsAreAnswered : Type 0
FaultsAreAnswered =
    (unit : UnitTree) (entry : List ℕ) (defs : List Def) (f : FunctionTree) (answers : List ℕ) (script : List (List ℕ))
    (n fuel : ℕ) (kind : FaultKind) (place : Place) (ending : Ending)
    → IsWellTyped unit entry → called_function (tables_of unit) entry ≡ Some f
    → Reaches (Step (program_of unit defs)) n (start (program_of unit defs) f) (map malloc answers) (fault kind place)
    → n ≤ fuel → Takes (struct_infos unit) script (map malloc answers) []
    → ProgramRuns unit entry defs script fuel ending → ending ≡ Fault kind place

-- where a well typed program comes to a fault with a script, it comes to nothing else with it, with as much fuel or more
abbrev pub FaultsAreOne : Type 0
FaultsAreOne =
    (unit : UnitTree) (entry : List ℕ) (defs : List Def) (script : List (List ℕ)) (n fuel : ℕ) (kind : FaultKind) (place : Place)
    (ending : Ending)
    → IsWellTyped unit entry → n ≤ fuel → ProgramRuns unit entry defs script n (Fault kind place)
    → ProgramRuns unit entry defs script fuel ending → ending ≡ Fault kind place
