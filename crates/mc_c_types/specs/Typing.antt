-- When a program is well typed, and what its first fault is.
use Rattle.std.specs.Prelude.{◌≡◌, ℕ, Bool, true, false, IsTrue, ◌&&◌, List, [], ◌∷◌, Contains}
use Rattle.std.specs.List.{list_any}
use Rattle.mc_base.specs.declared.text.place.Place.{Place}
use Rattle.mc_c_syntax.specs.Ast.Trees.{FunctionTree, UnitTree}
use Rattle.mc_c_syntax.specs.Ast.Names.{is_same}
use Rattle.mc_c_types.specs.Tables.{Tables, tables_of, is_defined, listed_parameters}
use Rattle.mc_c_types.specs.Faults.{plain_faults}
use Rattle.mc_c_types.specs.First.{is_told}
use Rattle.mc_c_types.specs.Calls.{CallSite, call_sites, Reaches}
use Rattle.mc_c_types.specs.declared.faults.Fault.{Fault}
use Rattle.mc_c_types.specs.declared.faults.FaultName.{FaultName}
use Rattle.mc_c_types.specs.declared.faults.FaultName.TheVariants as FaultName

-- the fault of such a call
abbrev pub recursion_at : CallSite → Fault
recursion_at site = record { name = FaultName.Recursion; place = site.callee.place }

-- a call whose callee can reach the caller
pub record IsRecursion (unit : UnitTree) (fault : Fault) : Type 0 where
  pub site : CallSite
  pub made : Contains (call_sites unit) site
  pub returns : Reaches (call_sites unit) site.callee.text site.caller
  pub told : fault ≡ recursion_at site

-- the entry is a defined function without parameters
abbrev pub is_empty : {X : Type 0} → List X → Bool
is_empty [] = true
is_empty (x ∷ xs) = false

abbrev pub is_entry : List ℕ → FunctionTree → Bool
is_entry entry f = is_defined f && is_same f.name.text entry && is_empty (listed_parameters f.parameters)

abbrev pub HasEntry : UnitTree → List ℕ → Type 0
HasEntry unit entry = IsTrue (list_any (is_entry entry) (tables_of unit).functions)

-- a broken rule, but for that of the entry
pub data Breaks (unit : UnitTree) (fault : Fault) : Type 0 where
  plainly : Contains (plain_faults unit) fault → Breaks unit fault
  by_recursion : IsRecursion unit fault → Breaks unit fault

-- the fault of a missing entry
abbrev pub entry_fault : Fault
entry_fault = record { name = FaultName.NoEntry; place = record { line = 1; column = 1 } }

-- a fault of a program for an entry; that the entry is missing is one only where there is no other
pub data HasFault (unit : UnitTree) (entry : List ℕ) : Fault → Type 0 where
  breaks : {fault : Fault} → Breaks unit fault → HasFault unit entry fault
  no_entry : ((fault : Fault) → ¬ Breaks unit fault) → ¬ HasEntry unit entry → HasFault unit entry entry_fault

-- a program that meets every rule for its entry
pub record IsWellTyped (unit : UnitTree) (entry : List ℕ) : Type 0 where
  pub plain : plain_faults unit ≡ []
  pub no_recursion : (fault : Fault) → ¬ IsRecursion unit fault
  pub entered : HasEntry unit entry

-- the fault that is known
pub record IsFirstFault (unit : UnitTree) (entry : List ℕ) (fault : Fault) : Type 0 where
  pub is_one : HasFault unit entry fault
  pub first : (other : Fault) → HasFault unit entry other → IsTrue (is_told fault other)

-- ---- laws
-- a program is well typed exactly where it has no fault
pub record IsFaultless (unit : UnitTree) (entry : List ℕ) : Type 0 where
  pub forward : IsWellTyped unit entry → (fault : Fault) → ¬ HasFault unit entry fault
  pub backward : ((fault : Fault) → ¬ HasFault unit entry fault) → IsWellTyped unit entry

-- a program has one first fault at most, and none if it is well typed
pub record IsToldOnce (unit : UnitTree) (entry : List ℕ) : Type 0 where
  pub once : (f g : Fault) → IsFirstFault unit entry f → IsFirstFault unit entry g → f ≡ g
  pub none : (f : Fault) → IsFirstFault unit entry f → ¬ IsWellTyped unit entry
