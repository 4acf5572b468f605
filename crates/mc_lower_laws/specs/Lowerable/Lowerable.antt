-- Resolved programs that can be lowered: what they name is made before, and what leaves a loop stands in one.
use Rattle.std.specs.Prelude.{◌≡◌, ◌≤◌, ◌++◌, ℕ, Bool, true, false, IsTrue, List, [], ◌∷◌, Option, Some, None, Contains, slice_get}
use Rattle.mc_flow.specs.declared.defs.shapes.Structs.{Structs}
use Rattle.mc_flow.specs.Steps.{field_count}
use Rattle.mc_lower_spec.specs.Length.Lengths.{start_declared, declared, all_declared, below}
use Rattle.mc_lower_spec.specs.Values.{struct_at}
use Rattle.mc_semantics.specs.Resolved.Programs.{Expr, number, input, value, minus, times, plus, difference}
use Rattle.mc_semantics.specs.Resolved.Programs.{Cond, plain, compare, negation, both, either, Right, expression, result_of}
use Rattle.mc_semantics.specs.Resolved.Programs.{allocation, Action, assign, add, subtract, call, Simple, Initial, Argument}
use Rattle.mc_semantics.specs.Resolved.Programs.{variable, constant, Start, nothing, declares, performs, Stmt, declaration, block}
use Rattle.mc_semantics.specs.Resolved.Programs.{empty, simple, free, assert, assume, assume_shape, assert_shape, assert_empty}
use Rattle.mc_semantics.specs.Resolved.Programs.{if_only, if_else, while_loop, do_loop, for_loop, break_loop, continue_loop}
use Rattle.mc_semantics.specs.Resolved.Programs.{returns, Stmts, no_more, then, Function, Program}

-- ---- what is named is made
-- each variable of an expression is one of these
abbrev pub NamesOnly : List ℕ → Expr → Type 0
NamesOnly made (number n) = Unit {0}
NamesOnly made input = Unit {0}
NamesOnly made (value l) = Contains made l.variable
NamesOnly made (minus e) = NamesOnly made e
NamesOnly made (times a b) = NamesOnly made a × NamesOnly made b
NamesOnly made (plus a b) = NamesOnly made a × NamesOnly made b
NamesOnly made (difference a b) = NamesOnly made a × NamesOnly made b

abbrev pub AllNameOnly : List ℕ → List Expr → Type 0
AllNameOnly made [] = Unit {0}
AllNameOnly made (e ∷ es) = NamesOnly made e × AllNameOnly made es

abbrev pub TestsOnly : List ℕ → Cond → Type 0
TestsOnly made (plain place e) = NamesOnly made e
TestsOnly made (compare place c a b) = NamesOnly made a × NamesOnly made b
TestsOnly made (negation c) = TestsOnly made c
TestsOnly made (both c d) = TestsOnly made c × TestsOnly made d
TestsOnly made (either c d) = TestsOnly made c × TestsOnly made d

abbrev pub TestsOnlyPerhaps : List ℕ → Option Cond → Type 0
TestsOnlyPerhaps made None = Unit {0}
TestsOnlyPerhaps made (Some c) = TestsOnly made c

abbrev pub IsMadeArgument : List ℕ → Argument → Type 0
IsMadeArgument made (variable x) = Contains made x
IsMadeArgument made (constant c) = Unit {0}

abbrev pub AreMadeArguments : List ℕ → List Argument → Type 0
AreMadeArguments made [] = Unit {0}
AreMadeArguments made (a ∷ args) = IsMadeArgument made a × AreMadeArguments made args

-- ---- right sides and simple statements
-- what is allocated has as many fields as its struct
abbrev pub IsLowerableRight : Structs → List ℕ → Right → Type 0
IsLowerableRight structs made (expression e) = NamesOnly made e
IsLowerableRight structs made (result_of c) = AllNameOnly made c.arguments
IsLowerableRight structs made (allocation shape fields) = field_count structs (struct_at shape) ≡ fields

abbrev pub IsLowerableValue : Structs → List ℕ → Option Right → Type 0
IsLowerableValue structs made None = Unit {0}
IsLowerableValue structs made (Some right) = IsLowerableRight structs made right

abbrev pub IsLowerableAction : Structs → List ℕ → Action → Type 0
IsLowerableAction structs made (assign l right) = Contains made l.variable × IsLowerableRight structs made right
IsLowerableAction structs made (add l e) = Contains made l.variable × NamesOnly made e
IsLowerableAction structs made (subtract l e) = Contains made l.variable × NamesOnly made e
IsLowerableAction structs made (call c) = AllNameOnly made c.arguments

-- a declarator makes its variable before the value
abbrev pub AreLowerableItems : Structs → List ℕ → List Initial → Type 0
AreLowerableItems structs made [] = Unit {0}
AreLowerableItems structs made (item ∷ items) =
    IsLowerableValue structs (item.variable ∷ made) item.value × AreLowerableItems structs (item.variable ∷ made) items

abbrev pub IsLowerableStart : Structs → List ℕ → Start → Type 0
IsLowerableStart structs made nothing = Unit {0}
IsLowerableStart structs made (declares place items) = AreLowerableItems structs made items
IsLowerableStart structs made (performs x) = IsLowerableAction structs made x.action

abbrev pub IsLowerableLast : Structs → List ℕ → Option Simple → Type 0
IsLowerableLast structs made None = Unit {0}
IsLowerableLast structs made (Some x) = IsLowerableAction structs made x.action

-- ---- statements
-- a statement where these variables are made by now, in a loop or in none
abbrev mutual
  pub IsLowerable : Structs → (in_loop : Bool) → (made : List ℕ) → Stmt → Type 0
  IsLowerable structs in_loop made (declaration place items) = AreLowerableItems structs made items
  IsLowerable structs in_loop made (block xs ss) = AreLowerable structs in_loop made ss
  IsLowerable structs in_loop made empty = Unit {0}
  IsLowerable structs in_loop made (simple x) = IsLowerableAction structs made x.action
  IsLowerable structs in_loop made (free place e) = NamesOnly made e
  IsLowerable structs in_loop made (assert place c) = TestsOnly made c
  IsLowerable structs in_loop made (assume place c) = TestsOnly made c
  IsLowerable structs in_loop made (assume_shape place predicate x args) = Contains made x × AreMadeArguments made args
  IsLowerable structs in_loop made (assert_shape place predicate a args) = IsMadeArgument made a × AreMadeArguments made args
  IsLowerable structs in_loop made (assert_empty place) = Unit {0}
  IsLowerable structs in_loop made (if_only place c a) = TestsOnly made c × IsLowerable structs in_loop made a
  IsLowerable structs in_loop made (if_else place c a b) =
      TestsOnly made c × IsLowerable structs in_loop made a × IsLowerable structs in_loop (declared a ++ made) b
  IsLowerable structs in_loop made (while_loop place c a) = TestsOnly made c × IsLowerable structs true made a
  IsLowerable structs in_loop made (do_loop place a c) = IsLowerable structs true made a × TestsOnly (declared a ++ made) c
  IsLowerable structs in_loop made (for_loop h a) =
      IsLowerableStart structs made h.start × TestsOnlyPerhaps (start_declared h.start ++ made) h.condition
      × IsLowerableLast structs (start_declared h.start ++ made) h.last
      × IsLowerable structs true (start_declared h.start ++ made) a
  IsLowerable structs in_loop made (break_loop place) = IsTrue in_loop
  IsLowerable structs in_loop made (continue_loop place) = IsTrue in_loop
  IsLowerable structs in_loop made (returns place right) = IsLowerableValue structs made right

  pub AreLowerable : Structs → (in_loop : Bool) → (made : List ℕ) → Stmts → Type 0
  AreLowerable structs in_loop made no_more = Unit {0}
  AreLowerable structs in_loop made (then a more) =
      IsLowerable structs in_loop made a × AreLowerable structs in_loop (declared a ++ made) more

-- ---- functions and programs
-- no number stands twice
abbrev pub IsOnce : List ℕ → Type 0
IsOnce [] = Unit {0}
IsOnce (x ∷ xs) = (Contains xs x → ⊥) × IsOnce xs

-- the parameters are made first; no variable is made twice
pub record IsLowerableFunction (structs : Structs) (f : Function) : Type 0 where
  pub body : AreLowerable structs false (below f.parameters) f.body
  pub once : IsOnce (all_declared f.body)
  pub behind : (x : ℕ) → Contains (all_declared f.body) x → f.parameters ≤ x

-- the entry is there, and has no parameters
pub record IsLowerableProgram (structs : Structs) (p : Program) : Type 0 where
  pub functions : (n : ℕ) (f : Function) → slice_get p.functions n ≡ Some f → IsLowerableFunction structs f
  pub entry : (f : Function) × (slice_get p.functions p.entry ≡ Some f) × (f.parameters ≡ 0)
