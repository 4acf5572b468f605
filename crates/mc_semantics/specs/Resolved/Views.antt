-- The plain data that the resolved programs of the code stand for.
use Rattle.std.specs.Prelude.{List, [], ◌∷◌, map, box_value}
use Rattle.std.specs.Option.{option_map}
use Rattle.mc_flow.specs.declared.defs.rules.Def.{Def}
use Rattle.mc_semantics.specs.declared.resolved.program.FieldAt.{FieldAt as FieldCode}
use Rattle.mc_semantics.specs.declared.resolved.program.LeftValue.{LeftValue}
use Rattle.mc_semantics.specs.declared.resolved.program.Expression.{Expression, fold-Expression}
use Rattle.mc_semantics.specs.declared.resolved.program.Expression.TheOpen.{Expression-F}
use Rattle.mc_semantics.specs.declared.resolved.program.Condition.{Condition, fold-Condition}
use Rattle.mc_semantics.specs.declared.resolved.program.Condition.TheOpen.{Condition-F}
use Rattle.mc_semantics.specs.declared.resolved.program.Call.{Call as CallCode}
use Rattle.mc_semantics.specs.declared.resolved.program.RightSide.{RightSide}
use Rattle.mc_semantics.specs.declared.resolved.program.Initial.{Initial as InitialCode}
use Rattle.mc_semantics.specs.declared.resolved.program.Action.{Action as ActionCode}
use Rattle.mc_semantics.specs.declared.resolved.program.Simple.{Simple as SimpleCode}
use Rattle.mc_semantics.specs.declared.resolved.program.Argument.{Argument as ArgumentCode}
use Rattle.mc_semantics.specs.declared.resolved.program.Statement.{Statement, fold-Statement}
use Rattle.mc_semantics.specs.declared.resolved.program.Statement.TheOpen.{Statement-F}
use Rattle.mc_semantics.specs.declared.resolved.program.ForHead.{ForHead}
use Rattle.mc_semantics.specs.declared.resolved.program.ForStart.{ForStart}
use Rattle.mc_semantics.specs.declared.resolved.program.Local.{Local as LocalCode}
use Rattle.mc_semantics.specs.declared.resolved.program.Function.{Function as FunctionCode}
use Rattle.mc_semantics.specs.declared.resolved.program.Resolved.{Resolved}
use Rattle.mc_semantics.specs.Resolved.Programs.{FieldAt, Left, Expr, number, input, value, minus, times, plus, difference}
use Rattle.mc_semantics.specs.Resolved.Programs.{Cond, plain, compare, negation, both, either, Call, Right, expression}
use Rattle.mc_semantics.specs.Resolved.Programs.{result_of, allocation, Action, assign, add, subtract, call, Simple, Initial}
use Rattle.mc_semantics.specs.Resolved.Programs.{Argument, variable, constant, Start, nothing, declares, performs, Head, Stmt}
use Rattle.mc_semantics.specs.Resolved.Programs.{declaration, block, empty, simple, free, assert, assume, assume_shape}
use Rattle.mc_semantics.specs.Resolved.Programs.{assert_shape, assert_empty, if_only, if_else, while_loop, do_loop, for_loop}
use Rattle.mc_semantics.specs.Resolved.Programs.{break_loop, continue_loop, returns, Stmts, no_more, then, Local, Function}
use Rattle.mc_semantics.specs.Resolved.Programs.{Program}

abbrev pub field_of : FieldCode → FieldAt
field_of f = record { shape = f.shape.0; field = f.field }

abbrev pub left_of : LeftValue → Left
left_of l = record { variable = l.variable; fields = map field_of l.fields.items }

-- one level of an expression, with what is inside already seen as data
abbrev pub expression_step : Expression-F Expr → Expr
expression_step (Expression-F.Number n) = number n
expression_step Expression-F.Input = input
expression_step (Expression-F.Value l) = value (left_of l)
expression_step (Expression-F.Minus e) = minus (box_value e)
expression_step (Expression-F.Times a b) = times (box_value a) (box_value b)
expression_step (Expression-F.Plus a b) = plus (box_value a) (box_value b)
expression_step (Expression-F.Difference a b) = difference (box_value a) (box_value b)

abbrev pub expression_of : Expression → Expr
expression_of = fold-Expression Expr expression_step

-- one level of a condition
abbrev pub condition_step : Condition-F Cond → Cond
condition_step (Condition-F.Plain p e) = plain p (expression_of e)
condition_step (Condition-F.Compare p mark a b) = compare p mark (expression_of (box_value a)) (expression_of (box_value b))
condition_step (Condition-F.Not c) = negation (box_value c)
condition_step (Condition-F.Both c d) = both (box_value c) (box_value d)
condition_step (Condition-F.Either c d) = either (box_value c) (box_value d)

abbrev pub condition_of : Condition → Cond
condition_of = fold-Condition Cond condition_step

abbrev pub call_of : CallCode → Call
call_of c = record { function = c.function; arguments = map expression_of c.arguments.items }

abbrev pub right_of : RightSide → Right
right_of (RightSide.Expression e) = expression (expression_of e)
right_of (RightSide.Call c) = result_of (call_of c)
right_of (RightSide.Malloc shape fields) = allocation shape.0 fields

abbrev pub initial_of : InitialCode → Initial
initial_of i = record { variable = i.variable; value = option_map right_of i.value }

abbrev pub action_of : ActionCode → Action
action_of (ActionCode.Assign l r) = assign (left_of l) (right_of r)
action_of (ActionCode.Add l e) = add (left_of l) (expression_of e)
action_of (ActionCode.Subtract l e) = subtract (left_of l) (expression_of e)
action_of (ActionCode.Call c) = call (call_of c)

abbrev pub simple_of : SimpleCode → Simple
simple_of s = record { place = s.place; action = action_of s.action }

abbrev pub argument_of : ArgumentCode → Argument
argument_of (ArgumentCode.Variable x) = variable x
argument_of (ArgumentCode.Constant v) = constant v

abbrev pub start_of : ForStart → Start
start_of ForStart.Nothing = nothing
start_of (ForStart.Declaration p items) = declares p (map initial_of items.items)
start_of (ForStart.Simple s) = performs (simple_of s)

abbrev pub head_of : ForHead → Head
head_of h =
    record {
      place = h.place;
      start = start_of h.start;
      condition = option_map condition_of h.condition;
      last = option_map simple_of h.last;
      variables = h.variables.items;
    }

-- statements in a row
abbrev pub stmts_of : List Stmt → Stmts
stmts_of [] = no_more
stmts_of (s ∷ ss) = then s (stmts_of ss)

-- one level of a statement
abbrev pub statement_step : Statement-F Stmt → Stmt
statement_step (Statement-F.Declaration p items) = declaration p (map initial_of items.items)
statement_step (Statement-F.Block xs ss) = block xs.items (stmts_of ss.items)
statement_step Statement-F.Empty = empty
statement_step (Statement-F.Simple s) = simple (simple_of s)
statement_step (Statement-F.Free p e) = free p (expression_of e)
statement_step (Statement-F.Assert p c) = assert p (condition_of c)
statement_step (Statement-F.Assume p c) = assume p (condition_of c)
statement_step (Statement-F.AssumeShape a) = assume_shape a.place a.predicate a.variable (map argument_of a.arguments.items)
statement_step (Statement-F.AssertShape a) = assert_shape a.place a.predicate (argument_of a.start) (map argument_of a.arguments.items)
statement_step (Statement-F.AssertEmpty p) = assert_empty p
statement_step (Statement-F.If p c s) = if_only p (condition_of c) (box_value s)
statement_step (Statement-F.IfElse p c s t) = if_else p (condition_of c) (box_value s) (box_value t)
statement_step (Statement-F.While p c s) = while_loop p (condition_of c) (box_value s)
statement_step (Statement-F.Do p s c) = do_loop p (box_value s) (condition_of c)
statement_step (Statement-F.For h s) = for_loop (head_of (box_value h)) (box_value s)
statement_step (Statement-F.Break p) = break_loop p
statement_step (Statement-F.Continue p) = continue_loop p
statement_step (Statement-F.Return p r) = returns p (option_map right_of r)

abbrev pub statement_of : Statement → Stmt
statement_of = fold-Statement Stmt statement_step

abbrev pub local_of : LocalCode → Local
local_of l = record { name = l.name; place = l.place; kind = l.kind }

abbrev pub function_of : FunctionCode → Function
function_of f =
    record {
      name = f.name;
      locals = map local_of f.locals.items;
      parameters = f.parameters;
      result = f.result;
      body = stmts_of (map statement_of f.body.items);
    }

-- with the definitions of its shapes
abbrev pub program_of : Resolved → List Def → Program
program_of r defs = record { functions = map function_of r.functions.items; entry = r.entry; defs = defs }
