-- Programs without loops, inputs and shape commands, and flow graphs that ask for answers of malloc alone.
use Rattle.std.specs.Prelude.{◌≡◌, ℕ, List, [], Option, Some, None, All, slice_get}
use Rattle.std.specs.List.{AllByRecursion}
use Rattle.mc_flow.specs.declared.graph.Flow.{Flow}
use Rattle.mc_flow.specs.declared.instr.Instr.{Instr}
use Rattle.mc_flow.specs.declared.instr.Instr.TheVariants as instr
use Rattle.mc_semantics.specs.Resolved.Programs.{Expr, number, input, value, minus, times, plus, difference}
use Rattle.mc_semantics.specs.Resolved.Programs.{Cond, plain, compare, negation, both, either, Right, expression}
use Rattle.mc_semantics.specs.Resolved.Programs.{result_of, allocation, Action, assign, add, subtract, call, Initial, Stmt}
use Rattle.mc_semantics.specs.Resolved.Programs.{declaration, block, empty, simple, free, assert, assume, assume_shape}
use Rattle.mc_semantics.specs.Resolved.Programs.{assert_shape, assert_empty, if_only, if_else, while_loop, do_loop, for_loop}
use Rattle.mc_semantics.specs.Resolved.Programs.{break_loop, continue_loop, returns, Stmts, no_more, then, Function, Program}

-- no input is asked for
abbrev pub IsClosedExpr : Expr → Type 0
IsClosedExpr (number n) = Unit {0}
IsClosedExpr input = ⊥
IsClosedExpr (value l) = Unit {0}
IsClosedExpr (minus e) = IsClosedExpr e
IsClosedExpr (times a b) = IsClosedExpr a × IsClosedExpr b
IsClosedExpr (plus a b) = IsClosedExpr a × IsClosedExpr b
IsClosedExpr (difference a b) = IsClosedExpr a × IsClosedExpr b

abbrev pub IsClosedCond : Cond → Type 0
IsClosedCond (plain place e) = IsClosedExpr e
IsClosedCond (compare place c a b) = IsClosedExpr a × IsClosedExpr b
IsClosedCond (negation c) = IsClosedCond c
IsClosedCond (both c d) = IsClosedCond c × IsClosedCond d
IsClosedCond (either c d) = IsClosedCond c × IsClosedCond d

abbrev pub IsClosedRight : Right → Type 0
IsClosedRight (expression e) = IsClosedExpr e
IsClosedRight (result_of c) = AllByRecursion IsClosedExpr c.arguments
IsClosedRight (allocation shape fields) = Unit {0}

abbrev pub MayBeClosed : Option Right → Type 0
MayBeClosed None = Unit {0}
MayBeClosed (Some right) = IsClosedRight right

abbrev pub IsClosedAction : Action → Type 0
IsClosedAction (assign l right) = IsClosedRight right
IsClosedAction (add l e) = IsClosedExpr e
IsClosedAction (subtract l e) = IsClosedExpr e
IsClosedAction (call c) = AllByRecursion IsClosedExpr c.arguments

abbrev pub AreClosedItems : List Initial → Type 0
AreClosedItems items = AllByRecursion (λ item. MayBeClosed item.value) items

-- and there is no loop, and no shape is assumed or asserted
abbrev mutual
  pub IsClosedStmt : Stmt → Type 0
  IsClosedStmt (declaration place items) = AreClosedItems items
  IsClosedStmt (block xs ss) = AreClosedStmts ss
  IsClosedStmt empty = Unit {0}
  IsClosedStmt (simple x) = IsClosedAction x.action
  IsClosedStmt (free place e) = IsClosedExpr e
  IsClosedStmt (assert place c) = IsClosedCond c
  IsClosedStmt (assume place c) = IsClosedCond c
  IsClosedStmt (assume_shape place predicate x args) = ⊥
  IsClosedStmt (assert_shape place predicate a args) = ⊥
  IsClosedStmt (assert_empty place) = Unit {0}
  IsClosedStmt (if_only place c a) = IsClosedCond c × IsClosedStmt a
  IsClosedStmt (if_else place c a b) = IsClosedCond c × IsClosedStmt a × IsClosedStmt b
  IsClosedStmt (while_loop place c a) = ⊥
  IsClosedStmt (do_loop place a c) = ⊥
  IsClosedStmt (for_loop head a) = ⊥
  IsClosedStmt (break_loop place) = Unit {0}
  IsClosedStmt (continue_loop place) = Unit {0}
  IsClosedStmt (returns place right) = MayBeClosed right

  pub AreClosedStmts : Stmts → Type 0
  AreClosedStmts no_more = Unit {0}
  AreClosedStmts (then a more) = IsClosedStmt a × AreClosedStmts more

-- so is each function of the program
abbrev pub IsClosed : Program → Type 0
IsClosed p = (n : ℕ) (f : Function) → slice_get p.functions n ≡ Some f → AreClosedStmts f.body

-- an instruction at which a run is given nothing but an answer of malloc, and no shape is asserted
abbrev pub IsClosedCode : Instr → Type 0
IsClosedCode (instr.Input x q) = ⊥
IsClosedCode (instr.AssumeShape pred x os q) = ⊥
IsClosedCode (instr.AssertShape pred o os q) = ⊥
IsClosedCode other = Unit {0}

-- a flow graph without loops, of such instructions
pub record IsClosedFlow (flow : Flow) : Type 0 where
  pub no_loops : flow.heads ≡ []
  pub points : All (λ point. IsClosedCode point.code) flow.points
