-- How many points the flow graphs of a program have, read off the program.
use Rattle.std.specs.Prelude.{◌≡◌, ◌≤◌, ◌+◌, ◌++◌, ℕ, zero, suc, List, [], ◌∷◌, Option, Some, None, cond, eqb, map, length, slice_get, slice_index}
use Rattle.std.specs.List.{list_any}
use Rattle.mc_flow.specs.declared.defs.rules.Def.{Def}
use Rattle.mc_base.specs.declared.plain.Kind.{Kind}
use Rattle.mc_semantics.specs.declared.resolved.program.Resolved.{Resolved}
use Rattle.mc_semantics.specs.Resolved.Programs.{Expr, number, input, value, minus, times, plus, difference}
use Rattle.mc_semantics.specs.Resolved.Programs.{Cond, plain, compare, negation, both, either, Call, Right, expression, result_of}
use Rattle.mc_semantics.specs.Resolved.Programs.{allocation, Action, assign, add, subtract, call, Simple, Initial, Start, nothing}
use Rattle.mc_semantics.specs.Resolved.Programs.{declares, performs, Stmt, declaration, block, empty, simple, free, assert, assume}
use Rattle.mc_semantics.specs.Resolved.Programs.{assume_shape, assert_shape, assert_empty, if_only, if_else, while_loop, do_loop}
use Rattle.mc_semantics.specs.Resolved.Programs.{for_loop, break_loop, continue_loop, returns, Stmts, no_more, then, Function}
use Rattle.mc_semantics.specs.Resolved.Views.{program_of}
use Rattle.mc_lower_spec.specs.Graphs.{Graph}
use Rattle.mc_lower_spec.specs.Lowering.{IsLowering, IsMain}

-- variables become undefined by one point, where there are any
abbrev pub clearing : ℕ → ℕ
clearing zero = 0
clearing (suc n) = 1

-- of these variables, those that are made by now become undefined
abbrev pub leaving : (xs made : List ℕ) → ℕ
leaving xs made = cond (list_any (λ x. list_any (eqb x) made) xs) 1 0

-- ---- expressions
-- each operation, each input and each field after a variable gets a temporary, and has one point
abbrev pub operations : Expr → ℕ
operations (number n) = 0
operations input = 1
operations (value l) = length l.fields
operations (minus e) = suc (operations e)
operations (times a b) = suc (operations a + operations b)
operations (plus a b) = suc (operations a + operations b)
operations (difference a b) = suc (operations a + operations b)

abbrev pub all_operations : List Expr → ℕ
all_operations [] = 0
all_operations (e ∷ es) = operations e + all_operations es

-- ---- conditions
-- after a test so many temporaries become undefined on both ways
abbrev pub comparing : ℕ → ℕ
comparing t = t + suc (clearing t + clearing t)

abbrev pub testing : Cond → ℕ
testing (plain place e) = comparing (operations e)
testing (compare place c a b) = comparing (operations a + operations b)
testing (negation c) = testing c
testing (both c d) = testing c + testing d
testing (either c d) = testing c + testing d

abbrev pub testing_perhaps : Option Cond → ℕ
testing_perhaps None = 0
testing_perhaps (Some c) = testing c

-- ---- assignments and calls
-- of so many fields after a variable all but the last one are loaded
abbrev pub loading : ℕ → ℕ
loading zero = 0
loading (suc n) = n

-- an operand is put into a variable, or after so many fields, and the temporaries become undefined, of which there were so many
abbrev pub putting : (fields temporaries : ℕ) → ℕ
putting n t = loading n + suc (clearing (t + loading n))

-- a variable is set to an expression with so many operations, by the last of them or by a Copy
abbrev pub setting : ℕ → ℕ
setting zero = 1
setting (suc t) = suc (t + clearing t)

-- a field that is changed is loaded, computed and stored
abbrev pub changing : (fields temporaries : ℕ) → ℕ
changing zero t = t + suc (clearing t)
changing (suc n) t = t + n + 3 + clearing (t + n + 2)

-- a call's arguments are evaluated and copied; the rest of it is in a table, by the number of the function
abbrev pub calling : (table : List ℕ) → Call → ℕ
calling table c =
    all_operations c.arguments + length c.arguments + clearing (all_operations c.arguments) + slice_index table c.function

abbrev pub assigning : (table : List ℕ) → Right → (fields : ℕ) → ℕ
assigning table (expression e) zero = setting (operations e)
assigning table (expression e) (suc n) = operations e + putting (suc n) (operations e)
assigning table (allocation shape fields) zero = 1
assigning table (allocation shape fields) (suc n) = suc (putting (suc n) 1)
assigning table (result_of c) n = calling table c + suc (putting n 0)

abbrev pub acting : (table : List ℕ) → Action → ℕ
acting table (assign l right) = assigning table right (length l.fields)
acting table (add l e) = changing (length l.fields) (operations e)
acting table (subtract l e) = changing (length l.fields) (operations e)
acting table (call c) = calling table c

abbrev pub initializing : (table : List ℕ) → Option Right → ℕ
initializing table None = 1
initializing table (Some right) = assigning table right 0

abbrev pub declaring : (table : List ℕ) → List Initial → ℕ
declaring table [] = 0
declaring table (item ∷ items) = initializing table item.value + declaring table items

abbrev pub starting : (table : List ℕ) → Start → ℕ
starting table nothing = 0
starting table (declares place items) = declaring table items
starting table (performs x) = acting table x.action

abbrev pub finishing : (table : List ℕ) → Option Simple → ℕ
finishing table None = 0
finishing table (Some x) = acting table x.action

abbrev pub returning : (table : List ℕ) → Option Right → ℕ
returning table None = 0
returning table (Some (expression e)) = setting (operations e)
returning table (Some (allocation shape fields)) = 1
returning table (Some (result_of c)) = calling table c + 2

-- ---- statements
-- the variables that are made, in their order
abbrev pub items_declared : List Initial → List ℕ
items_declared items = map (λ item. item.variable) items

abbrev pub start_declared : Start → List ℕ
start_declared nothing = []
start_declared (declares place items) = items_declared items
start_declared (performs x) = []

abbrev mutual
  pub declared : Stmt → List ℕ
  declared (declaration place items) = items_declared items
  declared (block xs ss) = all_declared ss
  declared empty = []
  declared (simple x) = []
  declared (free place e) = []
  declared (assert place c) = []
  declared (assume place c) = []
  declared (assume_shape place predicate x args) = []
  declared (assert_shape place predicate a args) = []
  declared (assert_empty place) = []
  declared (if_only place c a) = declared a
  declared (if_else place c a b) = declared a ++ declared b
  declared (while_loop place c a) = declared a
  declared (do_loop place a c) = declared a
  declared (for_loop h a) = start_declared h.start ++ declared a
  declared (break_loop place) = []
  declared (continue_loop place) = []
  declared (returns place right) = []

  pub all_declared : Stmts → List ℕ
  all_declared no_more = []
  all_declared (then a more) = declared a ++ all_declared more

-- a statement where these variables are made by now, inside blocks with these variables
abbrev mutual
  pub stretch : (table made blocks : List ℕ) → Stmt → ℕ
  stretch table made blocks (declaration place items) = declaring table items
  stretch table made blocks (block xs ss) = stretch_all table made (xs ++ blocks) ss + leaving xs (made ++ all_declared ss)
  stretch table made blocks empty = 0
  stretch table made blocks (simple x) = acting table x.action
  stretch table made blocks (free place e) = operations e + suc (clearing (operations e))
  stretch table made blocks (assert place c) = suc (testing c)
  stretch table made blocks (assume place c) = suc (testing c)
  stretch table made blocks (assume_shape place predicate x args) = 1
  stretch table made blocks (assert_shape place predicate a args) = 1
  stretch table made blocks (assert_empty place) = 1
  stretch table made blocks (if_only place c a) = testing c + suc (stretch table made blocks a)
  stretch table made blocks (if_else place c a b) =
      testing c + suc (stretch table made blocks a + stretch table (made ++ declared a) blocks b)
  stretch table made blocks (while_loop place c a) = testing c + 2 + stretch table made [] a
  stretch table made blocks (do_loop place a c) = testing c + 3 + stretch table made [] a
  stretch table made blocks (for_loop h a) =
      starting table h.start + testing_perhaps h.condition + finishing table h.last + 3
      + stretch table (made ++ start_declared h.start) [] a
      + leaving h.variables ((made ++ start_declared h.start) ++ declared a)
  stretch table made blocks (break_loop place) = leaving blocks made
  stretch table made blocks (continue_loop place) = leaving blocks made
  stretch table made blocks (returns place right) = returning table right

  pub stretch_all : (table made blocks : List ℕ) → Stmts → ℕ
  stretch_all table made blocks no_more = 0
  stretch_all table made blocks (then a more) =
      stretch table made blocks a + stretch_all table (made ++ declared a) blocks more

-- ---- functions and programs
-- the result of a call is undefined at its begin
abbrev pub awaiting : Option Kind → ℕ
awaiting None = 0
awaiting (Some kind) = 1

-- the numbers below one
abbrev pub below : ℕ → List ℕ
below zero = []
below (suc n) = below n ++ n ∷ []

-- what a call of a function comes to, but for its arguments
abbrev pub calling_rest : (table : List ℕ) → Function → ℕ
calling_rest table f = awaiting f.result + suc (stretch_all table (below f.parameters) [] f.body)

-- after the body of `main` its result is set
abbrev pub IsFalling : Function → ℕ → Type 0
IsFalling f n = (IsMain f → n ≡ 1) × ((IsMain f → ⊥) → n ≡ 0)

-- it is so many, or, where the first number is more than 10,000, at least so many
pub record IsSoMany (n m : ℕ) : Type 0 where
  pub least : n ≤ m
  pub most : n ≤ 10000 → m ≤ n

-- the table is right for each of the functions
abbrev pub IsTable : List ℕ → List Function → Type 0
IsTable table functions =
    (i : ℕ) (f : Function) → slice_get functions i ≡ Some f → IsSoMany (slice_index table i) (calling_rest table f)

-- so many points each flow graph of the program has
abbrev pub IsLength : Resolved → ℕ → Type 0
IsLength program n =
    (g : Graph) (defs : List Def) (entry : Function) (out count : ℕ) → g.program ≡ program_of program defs
    → IsLowering g entry out count → IsSoMany n (length g.flow.points)
