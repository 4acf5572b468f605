-- What is left of a program when its names are resolved: each name is resolved in its scope.
use Rattle.std.specs.Prelude.{ℕ, pos, ◌-ℤ◌, List, [], ◌∷◌, ◌++◌, map, filter, reverse, length, option_map}
use Rattle.std.specs.Option.{option_map_or}
use Rattle.std.specs.List.{position_or_len}
use Rattle.mc_base.specs.declared.text.place.Place.{Place}
use Rattle.mc_flow.specs.declared.defs.rules.Def.{Def}
use Rattle.mc_c_syntax.specs.declared.ast.trees.Argument.{Argument as ArgumentTree}
use Rattle.mc_c_syntax.specs.declared.ast.trees.Argument.TheVariants as Argument
use Rattle.mc_c_syntax.specs.declared.ast.trees.Base.{Base}
use Rattle.mc_c_syntax.specs.declared.ast.trees.Malloc.{Malloc}
use Rattle.mc_c_syntax.specs.declared.ast.trees.Name.{Name}
use Rattle.mc_c_syntax.specs.Ast.Names.{is_same}
use Rattle.mc_c_syntax.specs.Ast.Trees as tree
use Rattle.mc_c_types.specs.declared.types.VariableType.{VariableType}
use Rattle.mc_c_types.specs.Tables.{Tables, Variable, variable_of as declared_variable, parameters_of, returned_type, is_defined, kind_of}
use Rattle.mc_c_types.specs.Scopes.{Scope, visible, inside, declare, behind, behind_start}
use Rattle.mc_c_types.specs.Faults.{variable_type, behind_fields, first_place, size_meaning}
use Rattle.mc_semantics.specs.Configs.{is_place}
use Rattle.mc_semantics.specs.Values.{variable_of, struct_behind, field_number}
use Rattle.mc_semantics.specs.Moves.{base_place, condition_place, block_variables, head_variables}
use Rattle.mc_semantics.specs.Steps.{struct_of, field_count, predicate_of, simple_place}
use Rattle.mc_semantics.specs.Resolved.Programs.{FieldAt, Left, Expr, number, input, value, minus, times, plus, difference}
use Rattle.mc_semantics.specs.Resolved.Programs.{Cond, plain, compare, negation, both, either, Call, Right, expression}
use Rattle.mc_semantics.specs.Resolved.Programs.{result_of, allocation, Action, assign, add, subtract, call, Simple, Initial}
use Rattle.mc_semantics.specs.Resolved.Programs.{Argument, variable, constant, Start, nothing, declares, performs, Head, Stmt}
use Rattle.mc_semantics.specs.Resolved.Programs.{declaration, block, empty, simple, free, assert, assume, assume_shape}
use Rattle.mc_semantics.specs.Resolved.Programs.{assert_shape, assert_empty, if_only, if_else, while_loop, do_loop, for_loop}
use Rattle.mc_semantics.specs.Resolved.Programs.{break_loop, continue_loop, returns, Stmts, no_more, then, Local, Function}
use Rattle.mc_semantics.specs.Resolved.Programs.{Program}

-- ---- variables and functions
-- what names mean in a function with these variables
pub record Naming : Type 0 where
  pub tables : Tables
  pub defs : List Def
  pub locals : List Variable

-- the variables that a declaration, a statement, and so on declare, in the order of the text
abbrev pub declaration_variables : Tables → tree.DeclarationTree → List Variable
declaration_variables t d = map (λ item. declared_variable t d.base item.declarator) d.items

abbrev pub start_variables : Tables → tree.Start → List Variable
start_variables t tree.nothing = []
start_variables t (tree.declares d) = declaration_variables t d
start_variables t (tree.performs x) = []

abbrev mutual
  pub statement_variables : Tables → tree.Stmt → List Variable
  statement_variables t (tree.declaration d) = declaration_variables t d
  statement_variables t (tree.block p ss) = statements_variables t ss
  statement_variables t (tree.empty p) = []
  statement_variables t (tree.simple x) = []
  statement_variables t (tree.free p e) = []
  statement_variables t (tree.assert p c) = []
  statement_variables t (tree.assume p c) = []
  statement_variables t (tree.assume_shape p predicate x args) = []
  statement_variables t (tree.assert_shape p predicate a args) = []
  statement_variables t (tree.assert_empty p) = []
  statement_variables t (tree.if_only p c a) = statement_variables t a
  statement_variables t (tree.if_else p c a b) = statement_variables t a ++ statement_variables t b
  statement_variables t (tree.while_loop p c a) = statement_variables t a
  statement_variables t (tree.do_loop p a c) = statement_variables t a
  statement_variables t (tree.for_loop h a) = start_variables t h.start ++ statement_variables t a
  statement_variables t (tree.break_loop p) = []
  statement_variables t (tree.continue_loop p) = []
  statement_variables t (tree.returns p r) = []

  pub statements_variables : Tables → tree.Stmts → List Variable
  statements_variables t tree.no_more = []
  statements_variables t (tree.then a more) = statement_variables t a ++ statements_variables t more

-- the statements of a function's body, and none where it has no body
abbrev pub body_statements : tree.FunctionTree → tree.Stmts
body_statements f = option_map_or (λ body. tree.stmts_of body.statements) f.body tree.no_more

-- the variables of a function: its parameters, and those of its body
abbrev pub function_variables : Tables → tree.FunctionTree → List Variable
function_variables t f = parameters_of t f ++ statements_variables t (body_statements f)

-- the number of the variable that is declared at a place
abbrev pub number_in : List Variable → Place → ℕ
number_in locals place = position_or_len (λ v. is_place v.place place) locals

abbrev pub numbers_in : List Variable → List Variable → List ℕ
numbers_in locals vs = map (λ v. number_in locals v.place) vs

-- the number of the variable that a name means among those that are visible
abbrev pub resolved_variable : Naming → List Variable → Name → ℕ
resolved_variable n vs name = option_map_or (λ v. number_in n.locals v.place) (variable_of vs name) (length n.locals)

-- the functions that are defined, and the number of the one of this name
abbrev pub defined_functions : Tables → List tree.FunctionTree
defined_functions t = filter is_defined t.functions

abbrev pub function_number : Tables → List ℕ → ℕ
function_number t name = position_or_len (λ f. is_same f.name.text name) (defined_functions t)

-- ---- expressions and conditions
abbrev pub resolved_fields : Tables → VariableType → List Name → List FieldAt
resolved_fields t type [] = []
resolved_fields t type (field ∷ fields) =
    record { shape = struct_behind type; field = field_number t type field } ∷ resolved_fields t (behind_fields t type (field ∷ [])) fields

abbrev pub resolved_left : Naming → List Variable → tree.Left → Left
resolved_left n vs l =
    record { variable = resolved_variable n vs l.name; fields = resolved_fields n.tables (variable_type vs l.name) l.fields }

abbrev pub resolved_expression : Naming → List Variable → tree.Expr → Expr
resolved_expression n vs (tree.number k p) = number k
resolved_expression n vs (tree.null p) = number 0
resolved_expression n vs (tree.input p) = input
resolved_expression n vs (tree.value l) = value (resolved_left n vs l)
resolved_expression n vs (tree.minus p e) = minus (resolved_expression n vs e)
resolved_expression n vs (tree.parens p e) = resolved_expression n vs e
resolved_expression n vs (tree.times a b) = times (resolved_expression n vs a) (resolved_expression n vs b)
resolved_expression n vs (tree.plus a b) = plus (resolved_expression n vs a) (resolved_expression n vs b)
resolved_expression n vs (tree.difference a b) = difference (resolved_expression n vs a) (resolved_expression n vs b)

abbrev pub resolved_condition : Naming → List Variable → tree.Cond → Cond
resolved_condition n vs (tree.plain e) = plain (first_place e) (resolved_expression n vs e)
resolved_condition n vs (tree.compare c a b) = compare (first_place a) c (resolved_expression n vs a) (resolved_expression n vs b)
resolved_condition n vs (tree.negation p c) = negation (resolved_condition n vs c)
resolved_condition n vs (tree.enclosed p c) = resolved_condition n vs c
resolved_condition n vs (tree.both c d) = both (resolved_condition n vs c) (resolved_condition n vs d)
resolved_condition n vs (tree.either c d) = either (resolved_condition n vs c) (resolved_condition n vs d)

-- ---- simple statements and declarations
-- the arguments of a call are resolved where the call stands
abbrev pub resolved_call : Naming → List Variable → tree.CallTree → Call
resolved_call n vs c = record
    { function = function_number n.tables c.function.text; arguments = map (resolved_expression n vs) c.arguments }

abbrev pub allocated_struct : Tables → List Variable → Malloc → ℕ
allocated_struct t vs m = struct_of (size_meaning t vs m.size)

abbrev pub resolved_right : Naming → List Variable → tree.Right → Right
resolved_right n vs (tree.expression e) = expression (resolved_expression n vs e)
resolved_right n vs (tree.result_of c) = result_of (resolved_call n vs c)
resolved_right n vs (tree.allocation m) = allocation (allocated_struct n.tables vs m)
    (field_count n.tables (allocated_struct n.tables vs m))

-- `++` and `--` add and subtract 1
abbrev pub resolved_action : Naming → List Variable → tree.SimpleTree → Action
resolved_action n vs (tree.assign l right) = assign (resolved_left n vs l) (resolved_right n vs right)
resolved_action n vs (tree.add l e) = add (resolved_left n vs l) (resolved_expression n vs e)
resolved_action n vs (tree.subtract l e) = subtract (resolved_left n vs l) (resolved_expression n vs e)
resolved_action n vs (tree.increment l) = add (resolved_left n vs l) (number 1)
resolved_action n vs (tree.decrement l) = subtract (resolved_left n vs l) (number 1)
resolved_action n vs (tree.increment_first p l) = add (resolved_left n vs l) (number 1)
resolved_action n vs (tree.decrement_first p l) = subtract (resolved_left n vs l) (number 1)
resolved_action n vs (tree.call c) = call (resolved_call n vs c)

abbrev pub resolved_simple : Naming → List Variable → tree.SimpleTree → Simple
resolved_simple n vs x = record { place = simple_place x; action = resolved_action n vs x }

-- a variable is visible in its own value
abbrev pub resolved_initial : Naming → Scope → Base → tree.InitialTree → Initial
resolved_initial n s base item =
    record { variable = number_in n.locals item.declarator.name.place; value = option_map (resolved_right n (visible s)) item.value }

abbrev pub resolved_items : Naming → Scope → Base → List tree.InitialTree → List Initial
resolved_items n s base [] = []
resolved_items n s base (item ∷ items) = resolved_initial n later base item ∷ resolved_items n later base items
  where
    later : Scope
    later = declare s (declared_variable n.tables base item.declarator)

-- ---- statements
abbrev pub resolved_argument : Naming → List Variable → ArgumentTree → Argument
resolved_argument n vs (Argument.Name name) = variable (resolved_variable n vs name)
resolved_argument n vs (Argument.Null p) = constant (pos 0)
resolved_argument n vs (Argument.Number k p) = constant (pos k)
resolved_argument n vs (Argument.Negative k p) = constant (pos 0 -ℤ pos k)

abbrev pub resolved_start : Naming → Scope → tree.Start → Start
resolved_start n s tree.nothing = nothing
resolved_start n s (tree.declares d) = declares (base_place d.base) (resolved_items n (inside s) d.base d.items)
resolved_start n s (tree.performs x) = performs (resolved_simple n (visible s) x)

abbrev pub resolved_head : Naming → Scope → tree.Head → Head
resolved_head n s h =
    record {
      place = h.place;
      start = resolved_start n s h.start;
      condition = option_map (resolved_condition n (visible (behind_start n.tables s h.start))) h.condition;
      last = option_map (resolved_simple n (visible (behind_start n.tables s h.start))) h.last;
      variables = numbers_in n.locals (head_variables n.tables s h.start);
    }

abbrev mutual
  pub resolved_statement : Naming → Scope → tree.Stmt → Stmt
  resolved_statement n s (tree.declaration d) = declaration (base_place d.base) (resolved_items n s d.base d.items)
  resolved_statement n s (tree.block p ss) =
      block (numbers_in n.locals (block_variables n.tables (inside s) ss)) (resolved_statements n (inside s) ss)
  resolved_statement n s (tree.empty p) = empty
  resolved_statement n s (tree.simple x) = simple (resolved_simple n (visible s) x)
  resolved_statement n s (tree.free p e) = free p (resolved_expression n (visible s) e)
  resolved_statement n s (tree.assert p c) = assert (condition_place c) (resolved_condition n (visible s) c)
  resolved_statement n s (tree.assume p c) = assume (condition_place c) (resolved_condition n (visible s) c)
  resolved_statement n s (tree.assume_shape p predicate x args) =
      assume_shape p (predicate_of n.defs predicate) (resolved_variable n (visible s) x) (map (resolved_argument n (visible s)) args)
  resolved_statement n s (tree.assert_shape p predicate a args) =
      assert_shape p (predicate_of n.defs predicate) (resolved_argument n (visible s) a) (map (resolved_argument n (visible s)) args)
  resolved_statement n s (tree.assert_empty p) = assert_empty p
  resolved_statement n s (tree.if_only p c a) = if_only p (resolved_condition n (visible s) c) (resolved_statement n s a)
  resolved_statement n s (tree.if_else p c a b) =
      if_else p (resolved_condition n (visible s) c) (resolved_statement n s a) (resolved_statement n (behind n.tables s a) b)
  resolved_statement n s (tree.while_loop p c a) = while_loop p (resolved_condition n (visible s) c) (resolved_statement n s a)
  resolved_statement n s (tree.do_loop p a c) = do_loop p (resolved_statement n s a)
      (resolved_condition n (visible (behind n.tables s a)) c)
  resolved_statement n s (tree.for_loop h a) = for_loop (resolved_head n s h) (resolved_statement n (behind_start n.tables s h.start) a)
  resolved_statement n s (tree.break_loop p) = break_loop p
  resolved_statement n s (tree.continue_loop p) = continue_loop p
  resolved_statement n s (tree.returns p right) = returns p (option_map (resolved_right n (visible s)) right)

  -- each statement sees what those before it declare
  pub resolved_statements : Naming → Scope → tree.Stmts → Stmts
  resolved_statements n s tree.no_more = no_more
  resolved_statements n s (tree.then a more) = then (resolved_statement n s a) (resolved_statements n (behind n.tables s a) more)

-- ---- functions and programs
abbrev pub local_of : Variable → Local
local_of v = record { name = v.name; place = v.place; kind = kind_of v.type }

abbrev pub naming_of : Tables → List Def → tree.FunctionTree → Naming
naming_of t defs f = record { tables = t; defs = defs; locals = function_variables t f }

-- the parameters are in the block of the body
abbrev pub parameter_scope : Tables → tree.FunctionTree → Scope
parameter_scope t f = record { heads = []; own = reverse (parameters_of t f); outer = [] }

abbrev pub resolved_function : Tables → List Def → tree.FunctionTree → Function
resolved_function t defs f =
    record {
      name = f.name.text;
      locals = map local_of (function_variables t f);
      parameters = length (parameters_of t f);
      result = option_map kind_of (returned_type t f.returned);
      body = resolved_statements (naming_of t defs f) (parameter_scope t f) (body_statements f);
    }

abbrev pub resolved_program : Tables → List Def → List ℕ → Program
resolved_program t defs entry =
    record { functions = map (resolved_function t defs) (defined_functions t); entry = function_number t entry; defs = defs }
