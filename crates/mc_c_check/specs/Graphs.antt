-- Calls between functions that are numbered.
use Rattle.std.specs.Prelude.{ℕ, ◌≡◌, ◌<◌, ◌≤◌, ◌+◌, Bool, false, cond, IsTrue, List, [], ◌∷◌, Contains, slice_index, slice_index_or}
use Rattle.std.specs.List.{position_or_len}
use Rattle.mc_c_syntax.specs.Ast.Names.{is_same}
use Rattle.mc_c_syntax.specs.Ast.Trees.{FunctionTree}
use Rattle.mc_c_types.specs.Calls.{CallSite}
use Rattle.mc_c_types.specs.declared.faults.Fault.{Fault}
use Rattle.mc_c_types.specs.declared.faults.FaultName.TheVariants as FaultName
use Rattle.mc_c_check.specs.declared.graph.Edge.{Edge}

-- the number of a name: that of the first function of this name, and one past all where there is none
abbrev pub number_in : List FunctionTree → List ℕ → ℕ
number_in functions name = position_or_len (λ f. is_same f.name.text name) functions

-- a call, by numbers
abbrev pub edge_of : List FunctionTree → CallSite → Edge
edge_of functions site = record
    { caller = number_in functions site.caller; callee = number_in functions site.callee.text; place = site.callee.place }

-- both numbers are below the count
abbrev pub IsWithin : ℕ → Edge → Type 0
IsWithin count edge = (edge.caller < count) × (edge.callee < count)

-- calls lead from one function to another
pub data Leads (edges : List Edge) : ℕ → ℕ → Type 0 where
  here : {n : ℕ} → Leads edges n n
  along : {n : ℕ} (edge : Edge) → Contains edges edge → Leads edges edge.callee n → Leads edges edge.caller n

-- ---- marks on the numbers
abbrev pub is_marked : List Bool → ℕ → Bool
is_marked marks n = slice_index_or marks n false

-- how many are not marked
abbrev pub unmarked : List Bool → ℕ
unmarked [] = 0
unmarked (mark ∷ marks) = cond mark 0 1 + unmarked marks

-- calls lead to each that is marked
abbrev pub LeadsToMarked : List Edge → ℕ → List Bool → Type 0
LeadsToMarked edges from marks = (n : ℕ) → IsTrue (is_marked marks n) → Leads edges from n

-- what was marked stays marked
abbrev pub Keeps : List Bool → List Bool → Type 0
Keeps before after = (n : ℕ) → IsTrue (is_marked before n) → IsTrue (is_marked after n)

-- what a marked function calls is marked
abbrev pub IsClosed : List Edge → List Bool → Type 0
IsClosed edges marks = (edge : Edge) → Contains edges edge → IsTrue (is_marked marks edge.caller) → IsTrue (is_marked marks edge.callee)

-- ---- levels
-- no call leads to a higher level
abbrev pub NeverRise : List Edge → List ℕ → Type 0
NeverRise edges levels = (edge : Edge) → Contains edges edge → slice_index levels edge.callee ≤ slice_index levels edge.caller

-- ---- recursion
-- the fault of a call
abbrev pub fault_at : Edge → Fault
fault_at edge = record { name = FaultName.Recursion; place = edge.place }

-- the fault of one of some calls, whose callee leads to its caller
pub record IsLoop (edges some : List Edge) (fault : Fault) : Type 0 where
  pub edge : Edge
  pub made : Contains some edge
  pub returns : Leads edges edge.callee edge.caller
  pub told : fault ≡ fault_at edge
