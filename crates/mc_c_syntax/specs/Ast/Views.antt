-- The plain data that the trees of the code stand for.
use Rattle.std.specs.Prelude.{List, map, box_value}
use Rattle.std.specs.Option.{option_map}
use Rattle.mc_c_syntax.specs.declared.ast.trees.LeftValue.{LeftValue}
use Rattle.mc_c_syntax.specs.declared.ast.trees.Expression.{Expression, fold-Expression}
use Rattle.mc_c_syntax.specs.declared.ast.trees.Expression.TheOpen.{Expression-F}
use Rattle.mc_c_syntax.specs.declared.ast.trees.Condition.{Condition, fold-Condition}
use Rattle.mc_c_syntax.specs.declared.ast.trees.Condition.TheOpen.{Condition-F}
use Rattle.mc_c_syntax.specs.declared.ast.trees.Call.{Call}
use Rattle.mc_c_syntax.specs.declared.ast.trees.RightSide.{RightSide}
use Rattle.mc_c_syntax.specs.Ast.Trees.{Left, Expr, number, null, input, value, minus, parens, times, plus, difference, Cond}
use Rattle.mc_c_syntax.specs.Ast.Trees.{plain, compare, negation, enclosed, both, either, CallTree, Right, expression}
use Rattle.mc_c_syntax.specs.Ast.Trees.{result_of, allocation}
use Rattle.mc_c_syntax.specs.declared.ast.trees.Initial.{Initial}
use Rattle.mc_c_syntax.specs.declared.ast.trees.Declaration.{Declaration}
use Rattle.mc_c_syntax.specs.declared.ast.trees.Simple.{Simple}
use Rattle.mc_c_syntax.specs.declared.ast.trees.ForHead.{ForHead}
use Rattle.mc_c_syntax.specs.declared.ast.trees.ForStart.{ForStart}
use Rattle.mc_c_syntax.specs.declared.ast.trees.Statement.{Statement, fold-Statement}
use Rattle.mc_c_syntax.specs.declared.ast.trees.Statement.TheOpen.{Statement-F}
use Rattle.mc_c_syntax.specs.declared.ast.trees.Field.{Field}
use Rattle.mc_c_syntax.specs.declared.ast.trees.Struct.{Struct}
use Rattle.mc_c_syntax.specs.declared.ast.trees.Aliased.{Aliased}
use Rattle.mc_c_syntax.specs.declared.ast.trees.Typedef.{Typedef}
use Rattle.mc_c_syntax.specs.declared.ast.trees.Parameters.{Parameters}
use Rattle.mc_c_syntax.specs.declared.ast.trees.Body.{Body}
use Rattle.mc_c_syntax.specs.declared.ast.trees.Function.{Function}
use Rattle.mc_c_syntax.specs.declared.ast.trees.Item.{Item}
use Rattle.mc_c_syntax.specs.declared.ast.trees.Unit.{Unit}
use Rattle.mc_c_syntax.specs.Ast.Trees.{InitialTree, DeclarationTree, SimpleTree, assign, add, subtract, increment}
use Rattle.mc_c_syntax.specs.Ast.Trees.{decrement, increment_first, decrement_first, call, Start, nothing, declares}
use Rattle.mc_c_syntax.specs.Ast.Trees.{performs, Head, Stmt, declaration, block, empty, simple, free, assert, assume}
use Rattle.mc_c_syntax.specs.Ast.Trees.{assume_shape, assert_shape, assert_empty, if_only, if_else, while_loop, do_loop}
use Rattle.mc_c_syntax.specs.Ast.Trees.{for_loop, break_loop, continue_loop, returns, stmts_of, FieldTree, StructTree}
use Rattle.mc_c_syntax.specs.Ast.Trees.{AliasedTree, of_base, of_struct, TypedefTree, ParametersTree, unnamed, void, listed}
use Rattle.mc_c_syntax.specs.Ast.Trees.{BodyTree, FunctionTree, ItemTree, structure, typedef, function, UnitTree}

abbrev pub left_of : LeftValue → Left
left_of l = record { name = l.name; fields = l.fields.items }

-- one level of an expression, with what is inside already seen as data
abbrev pub expression_step : Expression-F Expr → Expr
expression_step (Expression-F.Number n p) = number n p
expression_step (Expression-F.Null p) = null p
expression_step (Expression-F.Input p) = input p
expression_step (Expression-F.Value l) = value (left_of l)
expression_step (Expression-F.Minus p e) = minus p (box_value e)
expression_step (Expression-F.Parens p e) = parens p (box_value e)
expression_step (Expression-F.Times a b) = times (box_value a) (box_value b)
expression_step (Expression-F.Plus a b) = plus (box_value a) (box_value b)
expression_step (Expression-F.Difference a b) = difference (box_value a) (box_value b)

abbrev pub expression_of : Expression → Expr
expression_of = fold-Expression Expr expression_step

-- one level of a condition
abbrev pub condition_step : Condition-F Cond → Cond
condition_step (Condition-F.Plain e) = plain (expression_of e)
condition_step (Condition-F.Compare mark a b) = compare mark (expression_of (box_value a)) (expression_of (box_value b))
condition_step (Condition-F.Not p c) = negation p (box_value c)
condition_step (Condition-F.Parens p c) = enclosed p (box_value c)
condition_step (Condition-F.Both c d) = both (box_value c) (box_value d)
condition_step (Condition-F.Either c d) = either (box_value c) (box_value d)

abbrev pub condition_of : Condition → Cond
condition_of = fold-Condition Cond condition_step

abbrev pub expressions_of : List Expression → List Expr
expressions_of es = map expression_of es

abbrev pub call_of : Call → CallTree
call_of c = record { function = c.function; arguments = expressions_of c.arguments.items }

abbrev pub right_of : RightSide → Right
right_of (RightSide.Expression e) = expression (expression_of e)
right_of (RightSide.Call c) = result_of (call_of c)
right_of (RightSide.Malloc m) = allocation (box_value m)

abbrev pub initial_of : Initial → InitialTree
initial_of i = record { declarator = i.declarator; value = option_map right_of i.value }

abbrev pub declaration_of : Declaration → DeclarationTree
declaration_of d = record { base = d.base; items = map initial_of d.items.items }

abbrev pub simple_of : Simple → SimpleTree
simple_of (Simple.Assign l r) = assign (left_of l) (right_of r)
simple_of (Simple.Add l e) = add (left_of l) (expression_of e)
simple_of (Simple.Subtract l e) = subtract (left_of l) (expression_of e)
simple_of (Simple.Increment l) = increment (left_of l)
simple_of (Simple.Decrement l) = decrement (left_of l)
simple_of (Simple.IncrementFirst p l) = increment_first p (left_of l)
simple_of (Simple.DecrementFirst p l) = decrement_first p (left_of l)
simple_of (Simple.Call c) = call (call_of c)

abbrev pub start_of : ForStart → Start
start_of ForStart.Nothing = nothing
start_of (ForStart.Declaration d) = declares (declaration_of d)
start_of (ForStart.Simple s) = performs (simple_of s)

abbrev pub head_of : ForHead → Head
head_of h = record
    { place = h.place; start = start_of h.start; condition = option_map condition_of h.condition; last = option_map simple_of h.last }

-- one level of a statement
abbrev pub statement_step : Statement-F Stmt → Stmt
statement_step (Statement-F.Declaration d) = declaration (declaration_of d)
statement_step (Statement-F.Block p ss) = block p (stmts_of ss.items)
statement_step (Statement-F.Empty p) = empty p
statement_step (Statement-F.Simple s) = simple (simple_of s)
statement_step (Statement-F.Free p e) = free p (expression_of e)
statement_step (Statement-F.Assert p c) = assert p (condition_of c)
statement_step (Statement-F.Assume p c) = assume p (condition_of c)
statement_step (Statement-F.AssumeShape a) = assume_shape a.place a.predicate a.variable a.arguments.items
statement_step (Statement-F.AssertShape a) = assert_shape a.place a.predicate a.start a.arguments.items
statement_step (Statement-F.AssertEmpty p) = assert_empty p
statement_step (Statement-F.If p c s) = if_only p (condition_of c) (box_value s)
statement_step (Statement-F.IfElse p c s t) = if_else p (condition_of c) (box_value s) (box_value t)
statement_step (Statement-F.While p c s) = while_loop p (condition_of c) (box_value s)
statement_step (Statement-F.Do p s c) = do_loop p (box_value s) (condition_of c)
statement_step (Statement-F.For h s) = for_loop (head_of (box_value h)) (box_value s)
statement_step (Statement-F.Break p) = break_loop p
statement_step (Statement-F.Continue p) = continue_loop p
statement_step (Statement-F.Return p r) = returns p (option_map right_of r)

abbrev pub statement_of : Statement → Stmt
statement_of = fold-Statement Stmt statement_step

abbrev pub field_of : Field → FieldTree
field_of f = record { base = f.base; declarators = f.declarators.items }

abbrev pub struct_of : Struct → StructTree
struct_of s = record { place = s.place; name = s.name; fields = map field_of s.fields.items }

abbrev pub aliased_of : Aliased → AliasedTree
aliased_of (Aliased.Base b) = of_base b
aliased_of (Aliased.Struct s) = of_struct (struct_of s)

abbrev pub typedef_of : Typedef → TypedefTree
typedef_of t = record { place = t.place; aliased = aliased_of t.aliased; declarators = t.declarators.items }

abbrev pub parameters_of : Parameters → ParametersTree
parameters_of Parameters.Empty = unnamed
parameters_of (Parameters.Void p) = void p
parameters_of (Parameters.Listed ps) = listed ps.items

abbrev pub body_of : Body → BodyTree
body_of b = record { place = b.place; statements = map statement_of b.statements.items }

abbrev pub function_of : Function → FunctionTree
function_of f = record
    { static_place = f.static_place; returned = f.returned; name = f.name; parameters = parameters_of f.parameters; body = option_map body_of f.body }

abbrev pub item_of : Item → ItemTree
item_of (Item.Struct s) = structure (struct_of s)
item_of (Item.Typedef t) = typedef (typedef_of t)
item_of (Item.Function f) = function (function_of f)

abbrev pub unit_of : Unit → UnitTree
unit_of u = map item_of u.items.items
