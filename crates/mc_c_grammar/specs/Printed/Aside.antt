-- What trees say, their places aside: each place is replaced by one and the same.
use Rattle.std.specs.Prelude.{◌≡◌, Option, map}
use Rattle.std.specs.Option.{option_map}
use Rattle.mc_base.specs.declared.text.place.Place.{Place}
use Rattle.mc_c_syntax.specs.declared.ast.trees.Name.{Name}
use Rattle.mc_c_syntax.specs.declared.ast.trees.Base.{Base}
use Rattle.mc_c_syntax.specs.declared.ast.trees.Declarator.{Declarator}
use Rattle.mc_c_syntax.specs.declared.ast.trees.Cast.{Cast}
use Rattle.mc_c_syntax.specs.declared.ast.trees.Size.{Size}
use Rattle.mc_c_syntax.specs.declared.ast.trees.Size.TheVariants.{OfType, OfParens, OfValue}
use Rattle.mc_c_syntax.specs.declared.ast.trees.Malloc.{Malloc}
use Rattle.mc_c_syntax.specs.declared.ast.trees.Argument.{Argument}
use Rattle.mc_c_syntax.specs.declared.ast.trees.Returned.{Returned}
use Rattle.mc_c_syntax.specs.declared.ast.trees.Parameter.{Parameter}
use Rattle.mc_c_syntax.specs.Ast.Trees.{Left, Expr, number, null, input, value, minus, parens, times, plus, difference, Cond}
use Rattle.mc_c_syntax.specs.Ast.Trees.{plain, compare, negation, enclosed, both, either, CallTree, Right, expression}
use Rattle.mc_c_syntax.specs.Ast.Trees.{result_of, allocation}
use Rattle.mc_c_syntax.specs.Ast.Trees.{InitialTree, DeclarationTree, SimpleTree, assign, add, subtract, increment}
use Rattle.mc_c_syntax.specs.Ast.Trees.{decrement, increment_first, decrement_first, call, Start, nothing, declares}
use Rattle.mc_c_syntax.specs.Ast.Trees.{performs, Head, Stmt, declaration, block, empty, simple, free, assert, assume}
use Rattle.mc_c_syntax.specs.Ast.Trees.{assume_shape, assert_shape, assert_empty, if_only, if_else, while_loop, do_loop}
use Rattle.mc_c_syntax.specs.Ast.Trees.{for_loop, break_loop, continue_loop, returns, Stmts, no_more, then, FieldTree}
use Rattle.mc_c_syntax.specs.Ast.Trees.{StructTree, AliasedTree, of_base, of_struct, TypedefTree, ParametersTree, unnamed}
use Rattle.mc_c_syntax.specs.Ast.Trees.{void, listed, BodyTree, FunctionTree, ItemTree, structure, typedef, function}
use Rattle.mc_c_syntax.specs.Ast.Trees.{UnitTree}

-- the place that stands for all
abbrev pub nowhere : Place
nowhere = record { line = 0; column = 0 }

-- a place, a name, a variable with its fields, and so on up to a program, each place in it replaced
abbrev pub place_aside : Place → Place
place_aside p = nowhere

abbrev pub name_aside : Name → Name
name_aside n = record { text = n.text; place = nowhere }

abbrev pub left_aside : Left → Left
left_aside l = record { name = name_aside l.name; fields = map name_aside l.fields }

abbrev pub expression_aside : Expr → Expr
expression_aside (number n p) = number n nowhere
expression_aside (null p) = null nowhere
expression_aside (input p) = input nowhere
expression_aside (value l) = value (left_aside l)
expression_aside (minus p e) = minus nowhere (expression_aside e)
expression_aside (parens p e) = parens nowhere (expression_aside e)
expression_aside (times a b) = times (expression_aside a) (expression_aside b)
expression_aside (plus a b) = plus (expression_aside a) (expression_aside b)
expression_aside (difference a b) = difference (expression_aside a) (expression_aside b)

abbrev pub condition_aside : Cond → Cond
condition_aside (plain e) = plain (expression_aside e)
condition_aside (compare mark a b) = compare mark (expression_aside a) (expression_aside b)
condition_aside (negation p c) = negation nowhere (condition_aside c)
condition_aside (enclosed p c) = enclosed nowhere (condition_aside c)
condition_aside (both a b) = both (condition_aside a) (condition_aside b)
condition_aside (either a b) = either (condition_aside a) (condition_aside b)

abbrev pub call_aside : CallTree → CallTree
call_aside c = record { function = name_aside c.function; arguments = map expression_aside c.arguments }

abbrev pub base_aside : Base → Base
base_aside (Base.Int p) = Base.Int nowhere
base_aside (Base.Struct p name) = Base.Struct nowhere (name_aside name)
base_aside (Base.Alias name) = Base.Alias (name_aside name)

abbrev pub star_aside : Option Place → Option Place
star_aside p = option_map place_aside p

abbrev pub declarator_aside : Declarator → Declarator
declarator_aside d = record { pointer = star_aside d.pointer; name = name_aside d.name }

abbrev pub cast_aside : Cast → Cast
cast_aside c = record { place = nowhere; base = base_aside c.base; pointer = star_aside c.pointer }

abbrev pub size_aside : Size → Size
size_aside (OfType p base) = OfType nowhere (base_aside base)
size_aside (OfParens p name) = OfParens nowhere (name_aside name)
size_aside (OfValue p name) = OfValue nowhere (name_aside name)

abbrev pub malloc_aside : Malloc → Malloc
malloc_aside m = record { cast = option_map cast_aside m.cast; place = nowhere; size = size_aside m.size }

abbrev pub right_aside : Right → Right
right_aside (expression e) = expression (expression_aside e)
right_aside (result_of c) = result_of (call_aside c)
right_aside (allocation m) = allocation (malloc_aside m)

abbrev pub initial_aside : InitialTree → InitialTree
initial_aside i = record { declarator = declarator_aside i.declarator; value = option_map right_aside i.value }

abbrev pub declaration_aside : DeclarationTree → DeclarationTree
declaration_aside d = record { base = base_aside d.base; items = map initial_aside d.items }

abbrev pub simple_aside : SimpleTree → SimpleTree
simple_aside (assign l r) = assign (left_aside l) (right_aside r)
simple_aside (add l e) = add (left_aside l) (expression_aside e)
simple_aside (subtract l e) = subtract (left_aside l) (expression_aside e)
simple_aside (increment l) = increment (left_aside l)
simple_aside (decrement l) = decrement (left_aside l)
simple_aside (increment_first p l) = increment_first nowhere (left_aside l)
simple_aside (decrement_first p l) = decrement_first nowhere (left_aside l)
simple_aside (call c) = call (call_aside c)

abbrev pub argument_aside : Argument → Argument
argument_aside (Argument.Name name) = Argument.Name (name_aside name)
argument_aside (Argument.Null p) = Argument.Null nowhere
argument_aside (Argument.Number n p) = Argument.Number n nowhere
argument_aside (Argument.Negative n p) = Argument.Negative n nowhere

abbrev pub start_aside : Start → Start
start_aside nothing = nothing
start_aside (declares d) = declares (declaration_aside d)
start_aside (performs s) = performs (simple_aside s)

abbrev pub head_aside : Head → Head
head_aside h = record
    { place = nowhere; start = start_aside h.start; condition = option_map condition_aside h.condition; last = option_map simple_aside h.last }

abbrev mutual
  pub statement_aside : Stmt → Stmt
  statement_aside (declaration d) = declaration (declaration_aside d)
  statement_aside (block p ss) = block nowhere (statements_aside ss)
  statement_aside (empty p) = empty nowhere
  statement_aside (simple s) = simple (simple_aside s)
  statement_aside (free p e) = free nowhere (expression_aside e)
  statement_aside (assert p c) = assert nowhere (condition_aside c)
  statement_aside (assume p c) = assume nowhere (condition_aside c)
  statement_aside (assume_shape p predicate variable args) = assume_shape nowhere (name_aside predicate)
      (name_aside variable) (map argument_aside args)
  statement_aside (assert_shape p predicate start args) = assert_shape nowhere (name_aside predicate)
      (argument_aside start) (map argument_aside args)
  statement_aside (assert_empty p) = assert_empty nowhere
  statement_aside (if_only p c s) = if_only nowhere (condition_aside c) (statement_aside s)
  statement_aside (if_else p c s t) = if_else nowhere (condition_aside c) (statement_aside s) (statement_aside t)
  statement_aside (while_loop p c s) = while_loop nowhere (condition_aside c) (statement_aside s)
  statement_aside (do_loop p s c) = do_loop nowhere (statement_aside s) (condition_aside c)
  statement_aside (for_loop h s) = for_loop (head_aside h) (statement_aside s)
  statement_aside (break_loop p) = break_loop nowhere
  statement_aside (continue_loop p) = continue_loop nowhere
  statement_aside (returns p r) = returns nowhere (option_map right_aside r)

  pub statements_aside : Stmts → Stmts
  statements_aside no_more = no_more
  statements_aside (then s ss) = then (statement_aside s) (statements_aside ss)

abbrev pub field_aside : FieldTree → FieldTree
field_aside f = record { base = base_aside f.base; declarators = map declarator_aside f.declarators }

abbrev pub struct_aside : StructTree → StructTree
struct_aside s = record { place = nowhere; name = name_aside s.name; fields = map field_aside s.fields }

abbrev pub aliased_aside : AliasedTree → AliasedTree
aliased_aside (of_base b) = of_base (base_aside b)
aliased_aside (of_struct s) = of_struct (struct_aside s)

abbrev pub typedef_aside : TypedefTree → TypedefTree
typedef_aside t = record { place = nowhere; aliased = aliased_aside t.aliased; declarators = map declarator_aside t.declarators }

abbrev pub returned_aside : Returned → Returned
returned_aside (Returned.Void p) = Returned.Void nowhere
returned_aside (Returned.Value base pointer) = Returned.Value (base_aside base) (star_aside pointer)

abbrev pub parameter_aside : Parameter → Parameter
parameter_aside p = record { base = base_aside p.base; declarator = declarator_aside p.declarator }

abbrev pub parameters_aside : ParametersTree → ParametersTree
parameters_aside unnamed = unnamed
parameters_aside (void p) = void nowhere
parameters_aside (listed ps) = listed (map parameter_aside ps)

abbrev pub body_aside : BodyTree → BodyTree
body_aside b = record { place = nowhere; statements = map statement_aside b.statements }

abbrev pub function_aside : FunctionTree → FunctionTree
function_aside f =
    record {
      static_place = star_aside f.static_place;
      returned = returned_aside f.returned;
      name = name_aside f.name;
      parameters = parameters_aside f.parameters;
      body = option_map body_aside f.body;
    }

abbrev pub item_aside : ItemTree → ItemTree
item_aside (structure s) = structure (struct_aside s)
item_aside (typedef t) = typedef (typedef_aside t)
item_aside (function f) = function (function_aside f)

abbrev pub unit_aside : UnitTree → UnitTree
unit_aside unit = map item_aside unit

-- two programs are the same, their places aside
abbrev pub IsSameAside : UnitTree → UnitTree → Type 0
IsSameAside one other = unit_aside one ≡ unit_aside other
