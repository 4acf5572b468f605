-- The numbers of a program.
use Rattle.std.specs.Prelude.{◌≤◌, ℕ, List, [], ◌∷◌, ◌++◌, Option, Some, None, flat_map, All}
use Rattle.mc_base.specs.Text.Numbers.{max_number}
use Rattle.mc_c_syntax.specs.declared.ast.trees.Argument.{Argument}
use Rattle.mc_c_syntax.specs.Ast.Trees.{Expr, number, null, input, value, minus, parens, times, plus, difference, Cond}
use Rattle.mc_c_syntax.specs.Ast.Trees.{plain, compare, negation, enclosed, both, either, CallTree, Right, expression}
use Rattle.mc_c_syntax.specs.Ast.Trees.{result_of, allocation, InitialTree, DeclarationTree, SimpleTree, assign, add}
use Rattle.mc_c_syntax.specs.Ast.Trees.{subtract, increment, decrement, increment_first, decrement_first, call, Start}
use Rattle.mc_c_syntax.specs.Ast.Trees.{nothing, declares, performs, Head}
use Rattle.mc_c_syntax.specs.Ast.Trees.{Stmt, declaration, block, empty, simple, free, assert, assume, assume_shape}
use Rattle.mc_c_syntax.specs.Ast.Trees.{assert_shape, assert_empty, if_only, if_else, while_loop, do_loop, for_loop}
use Rattle.mc_c_syntax.specs.Ast.Trees.{break_loop, continue_loop, returns, Stmts, no_more, then, stmts_of, BodyTree}
use Rattle.mc_c_syntax.specs.Ast.Trees.{ItemTree, structure, typedef, function, UnitTree}

-- the numbers of what may be missing
abbrev pub maybe_numbers : {X : Type 0} → (X → List ℕ) → Option X → List ℕ
maybe_numbers numbers None = []
maybe_numbers numbers (Some x) = numbers x

-- the numbers that stand in an expression, a condition, and so on up to a program, in the order of the text
abbrev pub expression_numbers : Expr → List ℕ
expression_numbers (number n p) = n ∷ []
expression_numbers (null p) = []
expression_numbers (input p) = []
expression_numbers (value l) = []
expression_numbers (minus p e) = expression_numbers e
expression_numbers (parens p e) = expression_numbers e
expression_numbers (times a b) = expression_numbers a ++ expression_numbers b
expression_numbers (plus a b) = expression_numbers a ++ expression_numbers b
expression_numbers (difference a b) = expression_numbers a ++ expression_numbers b

abbrev pub condition_numbers : Cond → List ℕ
condition_numbers (plain e) = expression_numbers e
condition_numbers (compare mark a b) = expression_numbers a ++ expression_numbers b
condition_numbers (negation p c) = condition_numbers c
condition_numbers (enclosed p c) = condition_numbers c
condition_numbers (both a b) = condition_numbers a ++ condition_numbers b
condition_numbers (either a b) = condition_numbers a ++ condition_numbers b

abbrev pub call_numbers : CallTree → List ℕ
call_numbers c = flat_map expression_numbers c.arguments

abbrev pub right_numbers : Right → List ℕ
right_numbers (expression e) = expression_numbers e
right_numbers (result_of c) = call_numbers c
right_numbers (allocation m) = []

abbrev pub initial_numbers : InitialTree → List ℕ
initial_numbers i = maybe_numbers right_numbers i.value

abbrev pub declaration_numbers : DeclarationTree → List ℕ
declaration_numbers d = flat_map initial_numbers d.items

abbrev pub simple_numbers : SimpleTree → List ℕ
simple_numbers (assign l r) = right_numbers r
simple_numbers (add l e) = expression_numbers e
simple_numbers (subtract l e) = expression_numbers e
simple_numbers (increment l) = []
simple_numbers (decrement l) = []
simple_numbers (increment_first p l) = []
simple_numbers (decrement_first p l) = []
simple_numbers (call c) = call_numbers c

abbrev pub argument_numbers : Argument → List ℕ
argument_numbers (Argument.Name name) = []
argument_numbers (Argument.Null p) = []
argument_numbers (Argument.Number n p) = n ∷ []
argument_numbers (Argument.Negative n p) = n ∷ []

abbrev pub start_numbers : Start → List ℕ
start_numbers nothing = []
start_numbers (declares d) = declaration_numbers d
start_numbers (performs s) = simple_numbers s

abbrev pub head_numbers : Head → List ℕ
head_numbers h = start_numbers h.start ++ (maybe_numbers condition_numbers h.condition ++ maybe_numbers simple_numbers h.last)

abbrev mutual
  pub statement_numbers : Stmt → List ℕ
  statement_numbers (declaration d) = declaration_numbers d
  statement_numbers (block p ss) = statements_numbers ss
  statement_numbers (empty p) = []
  statement_numbers (simple s) = simple_numbers s
  statement_numbers (free p e) = expression_numbers e
  statement_numbers (assert p c) = condition_numbers c
  statement_numbers (assume p c) = condition_numbers c
  statement_numbers (assume_shape p predicate variable args) = flat_map argument_numbers args
  statement_numbers (assert_shape p predicate start args) = argument_numbers start ++ flat_map argument_numbers args
  statement_numbers (assert_empty p) = []
  statement_numbers (if_only p c s) = condition_numbers c ++ statement_numbers s
  statement_numbers (if_else p c s t) = condition_numbers c ++ (statement_numbers s ++ statement_numbers t)
  statement_numbers (while_loop p c s) = condition_numbers c ++ statement_numbers s
  statement_numbers (do_loop p s c) = statement_numbers s ++ condition_numbers c
  statement_numbers (for_loop h s) = head_numbers h ++ statement_numbers s
  statement_numbers (break_loop p) = []
  statement_numbers (continue_loop p) = []
  statement_numbers (returns p r) = maybe_numbers right_numbers r

  pub statements_numbers : Stmts → List ℕ
  statements_numbers no_more = []
  statements_numbers (then s ss) = statement_numbers s ++ statements_numbers ss

abbrev pub body_numbers : BodyTree → List ℕ
body_numbers body = statements_numbers (stmts_of body.statements)

abbrev pub item_numbers : ItemTree → List ℕ
item_numbers (structure s) = []
item_numbers (typedef t) = []
item_numbers (function f) = maybe_numbers body_numbers f.body

abbrev pub unit_numbers : UnitTree → List ℕ
unit_numbers unit = flat_map item_numbers unit

-- the numbers of a program are at most 2147483647
abbrev pub HasSmallNumbers : UnitTree → Type 0
HasSmallNumbers unit = All (λ n. n ≤ max_number) (unit_numbers unit)
