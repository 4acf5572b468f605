-- Alarms of a report that are real.
use Rattle.std.specs.Prelude.{◌≡◌, ℕ, Bool, false, List, Some, None}
use Rattle.std.specs.List.{AllByRecursion}
use Rattle.mc_c_syntax.specs.Ast.Trees.{UnitTree}
use Rattle.mc_c_types.specs.Tables.{tables_of}
use Rattle.mc_flow.specs.declared.defs.rules.Def.{Def}
use Rattle.mc_flow.specs.declared.graph.Flow.{Flow}
use Rattle.mc_semantics.specs.Resolved.Resolving.{resolved_program}
use Rattle.mc_lower_laws.specs.Closed.{IsClosed}
use Rattle.mc_exact.specs.Marks.{Alarm, IsMarked}
use Rattle.mc_real.specs.Marked.{FaultsOn}

-- the program has no loop, and its runs are given nothing but answers of malloc
abbrev pub IsClosedUnit : (start : List ℕ) → UnitTree → List Def → Type 0
IsClosedUnit start unit defs = IsClosed (resolved_program (tables_of unit) defs start)

-- where an alarm carries answers of malloc, the program faults there with them
abbrev pub IsRealAlarm : (start : List ℕ) → UnitTree → List Def → Flow → Alarm → Type 0
IsRealAlarm start unit defs flow (b, None) = Unit {0}
IsRealAlarm start unit defs flow (b, Some answers) = FaultsOn start unit defs flow b.point answers

-- so it is with each of these alarms; and where the program is closed, and no states are merged, each carries answers
pub record AreReal (start : List ℕ) (unit : UnitTree) (defs : List Def) (flow : Flow) (merge : Bool) (alarms : List Alarm) : Type 0 where
  pub real : AllByRecursion (IsRealAlarm start unit defs flow) alarms
  pub closed : merge ≡ false → IsClosedUnit start unit defs → AllByRecursion IsMarked alarms
