-- What is known of the faults of a program.
use Rattle.std.specs.Prelude.{◌≡◌, ◌⊎◌, IsTrue, List, Option, Some, None, ℕ}
use Rattle.mc_c_syntax.specs.Ast.Trees.{UnitTree}
use Rattle.mc_c_types.specs.declared.faults.Fault.{Fault}
use Rattle.mc_c_types.specs.First.{is_told}
use Rattle.mc_c_types.specs.Typing.{Breaks, IsWellTyped, IsFirstFault}
use Rattle.mc_c_check.specs.Graphs.{IsLoop}
use Rattle.mc_c_check.specs.declared.graph.Edge.{Edge}

-- what is known is known rather than the fault
abbrev pub IsBehind : Option Fault → Fault → Type 0
IsBehind None fault = ⊥
IsBehind (Some told) fault = IsTrue (is_told told fault)

-- after what was told before, what is known now is the first of that and of the faults of these calls
pub record IsToldWith (edges some : List Edge) (before after : Option Fault) : Type 0 where
  pub among : (f : Fault) → after ≡ Some f → (before ≡ Some f) ⊎ IsLoop edges some f
  pub kept : (f : Fault) → before ≡ Some f → IsBehind after f
  pub first : (f : Fault) → IsLoop edges some f → IsBehind after f

-- a program has no broken rule, or the first one is known
pub record IsFirstBroken (unit : UnitTree) (fault : Fault) : Type 0 where
  pub broken : Breaks unit fault
  pub first : (other : Fault) → Breaks unit other → IsTrue (is_told fault other)

abbrev pub IsToldOfRules : UnitTree → Option Fault → Type 0
IsToldOfRules unit None = (fault : Fault) → ¬ Breaks unit fault
IsToldOfRules unit (Some fault) = IsFirstBroken unit fault

-- the answer of the whole check: none where the program is well typed, and else its first fault
abbrev pub IsAnswer : UnitTree → List ℕ → Option Fault → Type 0
IsAnswer unit entry None = IsWellTyped unit entry
IsAnswer unit entry (Some fault) = IsFirstFault unit entry fault
