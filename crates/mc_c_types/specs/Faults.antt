-- The faults of a program, rule by rule; Recursion and NoEntry apart.
use Rattle.std.specs.Prelude.{ℕ, Bool, true, false, not, ◌==◌, ◌&&◌, ◌||◌, List, [], ◌∷◌, ◌++◌, Option, Some, None}
use Rattle.std.specs.Prelude.{map, flat_map, reverse, is_some, is_none, length, filter, unwrap_or, option_and_then}
use Rattle.std.specs.Prelude.{slice_get}
use Rattle.std.specs.List.{list_any}
use Rattle.mc_base.specs.declared.text.place.Place.{Place}
use Rattle.mc_c_syntax.specs.declared.ast.trees.Name.{Name}
use Rattle.mc_c_syntax.specs.declared.ast.trees.Comparison.{Comparison}
use Rattle.mc_c_syntax.specs.declared.ast.trees.Comparison.TheVariants.{Equal, Unequal, Below, AtMost, Above, AtLeast}
use Rattle.mc_c_syntax.specs.declared.ast.trees.Base.{Base}
use Rattle.mc_c_syntax.specs.declared.ast.trees.Base.TheVariants as Base
use Rattle.mc_c_syntax.specs.declared.ast.trees.Declarator.{Declarator}
use Rattle.mc_c_syntax.specs.declared.ast.trees.Cast.{Cast}
use Rattle.mc_c_syntax.specs.declared.ast.trees.Size.{Size}
use Rattle.mc_c_syntax.specs.declared.ast.trees.Size.TheVariants as Size
use Rattle.mc_c_syntax.specs.declared.ast.trees.Malloc.{Malloc}
use Rattle.mc_c_syntax.specs.declared.ast.trees.Argument.{Argument}
use Rattle.mc_c_syntax.specs.declared.ast.trees.Argument.TheVariants as Argument
use Rattle.mc_c_syntax.specs.declared.ast.trees.Returned.{Returned}
use Rattle.mc_c_syntax.specs.declared.ast.trees.Returned.TheVariants as Returned
use Rattle.mc_c_syntax.specs.declared.ast.trees.Parameter.{Parameter}
use Rattle.mc_c_syntax.specs.Ast.Trees.{Left, Expr, number, null, input, value, minus, parens, times, plus, difference, Cond}
use Rattle.mc_c_syntax.specs.Ast.Trees.{plain, compare, negation, enclosed, both, either, CallTree, Right, expression}
use Rattle.mc_c_syntax.specs.Ast.Trees.{result_of, allocation}
use Rattle.mc_c_syntax.specs.Ast.Trees.{InitialTree, DeclarationTree, SimpleTree, assign, add, subtract, increment}
use Rattle.mc_c_syntax.specs.Ast.Trees.{decrement, increment_first, decrement_first, call, Start, nothing, declares}
use Rattle.mc_c_syntax.specs.Ast.Trees.{performs, Head, Stmt, declaration, block, empty, simple, free, assert, assume}
use Rattle.mc_c_syntax.specs.Ast.Trees.{assume_shape, assert_shape, assert_empty, if_only, if_else, while_loop, do_loop}
use Rattle.mc_c_syntax.specs.Ast.Trees.{for_loop, break_loop, continue_loop, returns, Stmts, no_more, then, stmts_of}
use Rattle.mc_c_syntax.specs.Ast.Trees.{FieldTree, StructTree, AliasedTree, of_base, of_struct, TypedefTree, ParametersTree}
use Rattle.mc_c_syntax.specs.Ast.Trees.{unnamed, void, listed, BodyTree, FunctionTree, ItemTree, structure, typedef}
use Rattle.mc_c_syntax.specs.Ast.Trees.{function, UnitTree}
use Rattle.mc_c_syntax.specs.Ast.Names.{is_same, is_in}
use Rattle.mc_c_types.specs.Types.{agree, fits, number_type, is_int, is_pointer, are_comparable, result_fits, allocates, is_declarable}
use Rattle.mc_c_types.specs.Tables.{Variable, type_in, Tables, struct_number, alias_in, is_undefined, meaning_of}
use Rattle.mc_c_types.specs.Tables.{declared_type, variable_of, fields_of, parameters_of, listed_parameters}
use Rattle.mc_c_types.specs.Tables.{returned_type, same_type, is_defined, called_function, unit_structs, tables_of}
use Rattle.mc_c_types.specs.Scopes.{Scope, visible, inside, declare, behind, behind_start}
use Rattle.mc_c_types.specs.declared.types.VariableType.{VariableType}
use Rattle.mc_c_types.specs.declared.types.VariableType.TheVariants.{Int, Pointer, Anything}
use Rattle.mc_c_types.specs.declared.types.ValueType.{ValueType}
use Rattle.mc_c_types.specs.declared.types.ValueType.TheVariants.{Typed, Zero, Null}
use Rattle.mc_c_types.specs.declared.types.BaseType.{BaseType}
use Rattle.mc_c_types.specs.declared.types.BaseType.TheVariants as BaseType
use Rattle.mc_c_types.specs.declared.faults.Fault.{Fault}
use Rattle.mc_c_types.specs.declared.faults.FaultName.{FaultName}
use Rattle.mc_c_types.specs.declared.faults.FaultName.TheVariants.{Unknown, Mismatch, Twice, BadSizeof, Arity}

-- the fault, unless the rule is kept
abbrev pub unless : Bool → FaultName → Place → List Fault
unless true name place = []
unless false name place = record { name = name; place = place } ∷ []

-- ---- names
-- each name that stands among those before it
abbrev pub repeated : List (List ℕ) → List Name → List Fault
repeated before [] = []
repeated before (name ∷ names) = unless (not (is_in before name.text)) Twice name.place ++ repeated (name.text ∷ before) names

-- a variable that is not visible
abbrev pub variable_faults : List Variable → Name → List Fault
variable_faults vs name = unless (is_some (type_in vs name.text)) Unknown name.place

-- ---- declarators
-- what a base means is known; after it a `*` needs a struct that is defined
abbrev pub is_known : Tables → Base → Option Place → Bool
is_known t (Base.Int p) star = true
is_known t (Base.Struct p name) star = is_none star || is_some (struct_number t.structs name.text)
is_known t (Base.Alias name) None = is_some (alias_in t.aliases name.text)
is_known t (Base.Alias name) (Some star) = is_some (alias_in t.aliases name.text) && not (is_undefined (meaning_of t (Base.Alias name)))

-- what a base names is known: a tag after a `*`, a typedef
abbrev pub base_faults : Tables → Base → Option Place → List Fault
base_faults t (Base.Int p) star = []
base_faults t (Base.Struct p name) star = unless (is_known t (Base.Struct p name) star) Unknown name.place
base_faults t (Base.Alias name) star = unless (is_known t (Base.Alias name) star) Unknown name.place

-- a base and perhaps a `*` are the type of something; the fault of a type that does not fit is at the place
abbrev pub type_faults : Tables → Base → Option Place → Place → List Fault
type_faults t base star place = base_faults t base star ++ unless (is_declarable (meaning_of t base) star) Mismatch place

-- the first token of a declarator
abbrev pub declarator_place : Declarator → Place
declarator_place d = unwrap_or d.pointer d.name.place

-- a declarator's base is known, and its type is one that variables have
abbrev pub declarator_faults : Tables → Base → Declarator → List Fault
declarator_faults t base d = type_faults t base d.pointer (declarator_place d)

-- ---- expressions
-- the field after a pointer; without a fault there is one
abbrev pub field_in : Tables → VariableType → List ℕ → Option VariableType
field_in t Int name = None
field_in t (Pointer s) name = option_and_then (λ tree. type_in (fields_of t tree) name) (slice_get t.structs s.0)
field_in t Anything name = Some Anything

-- the type after all these fields
abbrev pub behind_fields : Tables → VariableType → List Name → VariableType
behind_fields t type [] = type
behind_fields t type (field ∷ fields) = behind_fields t (unwrap_or (field_in t type field.text) Anything) fields

-- each field is one of the struct that is pointed to by what stands before it
abbrev pub field_faults : Tables → VariableType → List Name → List Fault
field_faults t type [] = []
field_faults t type (field ∷ fields) =
    unless (is_some (field_in t type field.text)) Unknown field.place
    ++ field_faults t (unwrap_or (field_in t type field.text) Anything) fields

-- the type of a variable
abbrev pub variable_type : List Variable → Name → VariableType
variable_type vs name = unwrap_or (type_in vs name.text) Anything

-- the type of a variable, or of the field after it
abbrev pub left_type : Tables → List Variable → Left → VariableType
left_type t vs l = behind_fields t (variable_type vs l.name) l.fields

-- a variable is visible, and each field after it is one of its struct
abbrev pub left_faults : Tables → List Variable → Left → List Fault
left_faults t vs l = variable_faults vs l.name ++ field_faults t (variable_type vs l.name) l.fields

-- the first token of an expression
abbrev pub first_place : Expr → Place
first_place (number n p) = p
first_place (null p) = p
first_place (input p) = p
first_place (value l) = l.name.place
first_place (minus p e) = p
first_place (parens p e) = p
first_place (times a b) = first_place a
first_place (plus a b) = first_place a
first_place (difference a b) = first_place a

-- what an expression can be; parentheses change nothing
abbrev pub value_type : Tables → List Variable → Expr → ValueType
value_type t vs (number n p) = number_type n
value_type t vs (null p) = Null
value_type t vs (input p) = Typed Int
value_type t vs (value l) = Typed (left_type t vs l)
value_type t vs (minus p e) = Typed Int
value_type t vs (parens p e) = value_type t vs e
value_type t vs (times a b) = Typed Int
value_type t vs (plus a b) = Typed Int
value_type t vs (difference a b) = Typed Int

-- the expression is an `int`
abbrev pub no_int : Tables → List Variable → Expr → List Fault
no_int t vs e = unless (is_int (value_type t vs e)) Mismatch (first_place e)

-- the expression is a pointer
abbrev pub no_pointer : Tables → List Variable → Expr → List Fault
no_pointer t vs e = unless (is_pointer (value_type t vs e)) Mismatch (first_place e)

-- the expression fits where the type is wanted
abbrev pub no_fit : Tables → List Variable → VariableType → Expr → List Fault
no_fit t vs wanted e = unless (fits wanted (value_type t vs e)) Mismatch (first_place e)

-- names are visible, and what is computed with is an `int`
abbrev pub expression_faults : Tables → List Variable → Expr → List Fault
expression_faults t vs (number n p) = []
expression_faults t vs (null p) = []
expression_faults t vs (input p) = []
expression_faults t vs (value l) = left_faults t vs l
expression_faults t vs (minus p e) = no_int t vs e ++ expression_faults t vs e
expression_faults t vs (parens p e) = expression_faults t vs e
expression_faults t vs (times a b) = no_int t vs a ++ no_int t vs b ++ expression_faults t vs a ++ expression_faults t vs b
expression_faults t vs (plus a b) = no_int t vs a ++ no_int t vs b ++ expression_faults t vs a ++ expression_faults t vs b
expression_faults t vs (difference a b) = no_int t vs a ++ no_int t vs b ++ expression_faults t vs a ++ expression_faults t vs b

-- ---- conditions
-- `==` and `!=` compare what is comparable, the others compare `int`s
abbrev pub comparison_faults : Tables → List Variable → Comparison → Expr → Expr → List Fault
comparison_faults t vs Equal a b = unless (are_comparable (value_type t vs a) (value_type t vs b)) Mismatch (first_place b)
comparison_faults t vs Unequal a b = unless (are_comparable (value_type t vs a) (value_type t vs b)) Mismatch (first_place b)
comparison_faults t vs Below a b = no_int t vs a ++ no_int t vs b
comparison_faults t vs AtMost a b = no_int t vs a ++ no_int t vs b
comparison_faults t vs Above a b = no_int t vs a ++ no_int t vs b
comparison_faults t vs AtLeast a b = no_int t vs a ++ no_int t vs b

-- the faults of a condition
abbrev pub condition_faults : Tables → List Variable → Cond → List Fault
condition_faults t vs (plain e) = expression_faults t vs e
condition_faults t vs (compare c a b) = expression_faults t vs a ++ expression_faults t vs b ++ comparison_faults t vs c a b
condition_faults t vs (negation p c) = condition_faults t vs c
condition_faults t vs (enclosed p c) = condition_faults t vs c
condition_faults t vs (both c d) = condition_faults t vs c ++ condition_faults t vs d
condition_faults t vs (either c d) = condition_faults t vs c ++ condition_faults t vs d

-- ---- calls
-- each argument fits its parameter
abbrev pub argument_faults : Tables → List Variable → List Parameter → List Expr → List Fault
argument_faults t vs [] es = []
argument_faults t vs (p ∷ ps) [] = []
argument_faults t vs (p ∷ ps) (e ∷ es) = no_fit t vs (variable_of t p.base p.declarator).type e ++ argument_faults t vs ps es

-- the function is defined and has as many parameters
abbrev pub callee_faults : Tables → List Variable → CallTree → Option FunctionTree → List Fault
callee_faults t vs c None = unless false Unknown c.function.place
callee_faults t vs c (Some f) =
    unless (length c.arguments == length (listed_parameters f.parameters)) Arity c.function.place
    ++ argument_faults t vs (listed_parameters f.parameters) c.arguments

-- the faults of a call: of its name and number of arguments, then of its arguments
abbrev pub call_faults : Tables → List Variable → CallTree → List Fault
call_faults t vs c = callee_faults t vs c (called_function t c.function.text) ++ flat_map (expression_faults t vs) c.arguments

-- the function has a result that fits; one that is unknown fits
abbrev pub call_fits : Tables → VariableType → Option FunctionTree → Bool
call_fits t wanted None = true
call_fits t wanted (Some f) = result_fits wanted (returned_type t f.returned)

-- ---- right sides
-- what a pointer points to
abbrev pub pointed_meaning : VariableType → BaseType
pointed_meaning Int = BaseType.Typed Int
pointed_meaning (Pointer s) = BaseType.Struct s
pointed_meaning Anything = BaseType.Typed Anything

-- what `sizeof` takes the size of
abbrev pub size_meaning : Tables → List Variable → Size → BaseType
size_meaning t vs (Size.OfType p base) = meaning_of t base
size_meaning t vs (Size.OfParens p name) = pointed_meaning (variable_type vs name)
size_meaning t vs (Size.OfValue p name) = pointed_meaning (variable_type vs name)

-- the place of the token `sizeof`
abbrev pub size_place : Size → Place
size_place (Size.OfType p base) = p
size_place (Size.OfParens p name) = p
size_place (Size.OfValue p name) = p

-- a struct whose size is taken is defined; in `sizeof *p` p is a visible pointer
abbrev pub pointed_faults : List Variable → Name → List Fault
pointed_faults vs name = variable_faults vs name ++ unless (is_pointer (Typed (variable_type vs name))) Mismatch name.place

-- what `sizeof` names is known
abbrev pub size_faults : Tables → List Variable → Size → List Fault
size_faults t vs (Size.OfType p base) = base_faults t base (Some p)
size_faults t vs (Size.OfParens p name) = pointed_faults vs name
size_faults t vs (Size.OfValue p name) = pointed_faults vs name

-- a cast has the wanted type
abbrev pub cast_faults : Tables → VariableType → Option Cast → List Fault
cast_faults t wanted None = []
cast_faults t wanted (Some c) =
    base_faults t c.base c.pointer ++ unless
    (is_declarable (meaning_of t c.base) c.pointer
    && agree wanted (declared_type (meaning_of t c.base) c.pointer)) Mismatch c.place

-- a right side fits where the type is wanted, and `malloc` allocates what is pointed to
abbrev pub right_faults : Tables → List Variable → VariableType → Right → List Fault
right_faults t vs wanted (expression e) = expression_faults t vs e ++ no_fit t vs wanted e
right_faults t vs wanted (result_of c) =
    call_faults t vs c ++ unless (call_fits t wanted (called_function t c.function.text)) Mismatch c.function.place
right_faults t vs wanted (allocation m) =
    cast_faults t wanted m.cast ++ size_faults t vs m.size
    ++ unless (allocates wanted (size_meaning t vs m.size)) BadSizeof (size_place m.size)

-- ---- simple statements and declarations
-- what `++` and the like change is an `int`
abbrev pub changed_faults : Tables → List Variable → Left → List Fault
changed_faults t vs l = left_faults t vs l ++ unless (is_int (Typed (left_type t vs l))) Mismatch l.name.place

-- the faults of a simple statement
abbrev pub simple_faults : Tables → List Variable → SimpleTree → List Fault
simple_faults t vs (assign l r) = left_faults t vs l ++ right_faults t vs (left_type t vs l) r
simple_faults t vs (add l e) = changed_faults t vs l ++ expression_faults t vs e ++ no_int t vs e
simple_faults t vs (subtract l e) = changed_faults t vs l ++ expression_faults t vs e ++ no_int t vs e
simple_faults t vs (increment l) = changed_faults t vs l
simple_faults t vs (decrement l) = changed_faults t vs l
simple_faults t vs (increment_first p l) = changed_faults t vs l
simple_faults t vs (decrement_first p l) = changed_faults t vs l
simple_faults t vs (call c) = call_faults t vs c

-- a value fits the variable that it is the first value of
abbrev pub value_faults : Tables → List Variable → VariableType → Option Right → List Fault
value_faults t vs wanted None = []
value_faults t vs wanted (Some r) = right_faults t vs wanted r

-- a declarator introduces a name that its block does not have yet, and its value may use the name already
abbrev pub item_faults : Tables → Base → Scope → InitialTree → List Fault
item_faults t base s item =
    declarator_faults t base item.declarator
    ++ unless (is_none (type_in s.own item.declarator.name.text)) Twice item.declarator.name.place
    ++ value_faults t (visible (declare s (variable_of t base item.declarator))) (variable_of t base item.declarator).type item.value

-- the faults of declarators, each of which sees those before it
abbrev pub items_faults : Tables → Base → Scope → List InitialTree → List Fault
items_faults t base s [] = []
items_faults t base s (item ∷ items) = item_faults t base s item
    ++ items_faults t base (declare s (variable_of t base item.declarator)) items

-- the faults of a declaration
abbrev pub declaration_faults : Tables → Scope → DeclarationTree → List Fault
declaration_faults t s d = items_faults t d.base s d.items

-- ---- statements
-- what is around a statement: the tables, the result of its function, and whether a loop is around it
pub record Context : Type 0 where
  pub tables : Tables
  pub result : Option VariableType
  pub in_loop : Bool

-- the same within a loop
abbrev pub looping : Context → Context
looping c = record { tables = c.tables; result = c.result; in_loop = true }

-- `return` has a value exactly where the function has a result, and it fits
abbrev pub return_faults : Tables → List Variable → Option VariableType → Place → Option Right → List Fault
return_faults t vs None p None = []
return_faults t vs None p (Some r) = unless false Mismatch p
return_faults t vs (Some wanted) p None = unless false Mismatch p
return_faults t vs (Some wanted) p (Some r) = right_faults t vs wanted r

-- a name among the arguments of a shape command is visible
abbrev pub shape_argument_faults : List Variable → Argument → List Fault
shape_argument_faults vs (Argument.Name name) = variable_faults vs name
shape_argument_faults vs (Argument.Null p) = []
shape_argument_faults vs (Argument.Number n p) = []
shape_argument_faults vs (Argument.Negative n p) = []

-- the faults of what a `for` begins with
abbrev pub start_faults : Tables → Scope → Start → List Fault
start_faults t s nothing = []
start_faults t s (declares d) = declaration_faults t (inside s) d
start_faults t s (performs x) = simple_faults t (visible s) x

-- the faults of the condition of a `for`, which may be missing
abbrev pub maybe_condition_faults : Tables → List Variable → Option Cond → List Fault
maybe_condition_faults t vs None = []
maybe_condition_faults t vs (Some c) = condition_faults t vs c

-- the faults of the last part of a `for`, which may be missing
abbrev pub maybe_simple_faults : Tables → List Variable → Option SimpleTree → List Fault
maybe_simple_faults t vs None = []
maybe_simple_faults t vs (Some x) = simple_faults t vs x

-- the faults of the head of a `for`
abbrev pub head_faults : Tables → Scope → Head → List Fault
head_faults t s h =
    start_faults t s h.start
    ++ maybe_condition_faults t (visible (behind_start t s h.start)) h.condition
    ++ maybe_simple_faults t (visible (behind_start t s h.start)) h.last

abbrev mutual
  -- the faults of a statement in a scope
  pub statement_faults : Context → Scope → Stmt → List Fault
  statement_faults c s (declaration d) = declaration_faults c.tables s d
  statement_faults c s (block p ss) = statements_faults c (inside s) ss
  statement_faults c s (empty p) = []
  statement_faults c s (simple x) = simple_faults c.tables (visible s) x
  statement_faults c s (free p e) = expression_faults c.tables (visible s) e ++ no_pointer c.tables (visible s) e
  statement_faults c s (assert p d) = condition_faults c.tables (visible s) d
  statement_faults c s (assume p d) = condition_faults c.tables (visible s) d
  statement_faults c s (assume_shape p predicate x args) = variable_faults (visible s) x
      ++ flat_map (shape_argument_faults (visible s)) args
  statement_faults c s (assert_shape p predicate a args) = flat_map (shape_argument_faults (visible s)) (a ∷ args)
  statement_faults c s (assert_empty p) = []
  statement_faults c s (if_only p d a) = condition_faults c.tables (visible s) d ++ statement_faults c s a
  statement_faults c s (if_else p d a b) =
      condition_faults c.tables (visible s) d ++ statement_faults c s a ++ statement_faults c (behind c.tables s a) b
  statement_faults c s (while_loop p d a) = condition_faults c.tables (visible s) d ++ statement_faults (looping c) s a
  statement_faults c s (do_loop p a d) = statement_faults (looping c) s a ++ condition_faults c.tables (visible (behind c.tables s a)) d
  statement_faults c s (for_loop h a) = head_faults c.tables s h ++ statement_faults (looping c) (behind_start c.tables s h.start) a
  statement_faults c s (break_loop p) = unless c.in_loop Mismatch p
  statement_faults c s (continue_loop p) = unless c.in_loop Mismatch p
  statement_faults c s (returns p r) = return_faults c.tables (visible s) c.result p r

  -- each statement sees what those before it declare
  pub statements_faults : Context → Scope → Stmts → List Fault
  statements_faults c s no_more = []
  statements_faults c s (then a rest) = statement_faults c s a ++ statements_faults c (behind c.tables s a) rest

-- ---- items
-- fields have types, and no two of a struct have one name
abbrev pub struct_faults : Tables → StructTree → List Fault
struct_faults t s =
    flat_map (λ field. flat_map (declarator_faults t field.base) field.declarators) s.fields
    ++ repeated [] (flat_map (λ field. map (λ d. d.name) field.declarators) s.fields)

-- a typedef may name a struct itself, also one that is not defined
abbrev pub alias_faults : Tables → Base → Declarator → List Fault
alias_faults t base d = base_faults t base d.pointer
    ++ unless (is_none d.pointer || is_declarable (meaning_of t base) d.pointer) Mismatch (declarator_place d)

-- what a typedef names: a base, or the struct that it defines
abbrev pub aliased_base : AliasedTree → Base
aliased_base (of_base base) = base
aliased_base (of_struct s) = Base.Struct s.place s.name

-- the faults of the struct that a typedef defines
abbrev pub aliased_faults : Tables → AliasedTree → List Fault
aliased_faults t (of_base base) = []
aliased_faults t (of_struct s) = struct_faults t s

-- the faults of a typedef
abbrev pub typedef_faults : Tables → TypedefTree → List Fault
typedef_faults t d = aliased_faults t d.aliased ++ flat_map (alias_faults t (aliased_base d.aliased)) d.declarators

-- a function's result type is known, and is one that variables have, else the fault is at the function's name
abbrev pub returned_faults : Tables → FunctionTree → Returned → List Fault
returned_faults t f (Returned.Void p) = []
returned_faults t f (Returned.Value base star) = type_faults t base star f.name.place

-- the faults of a body, in whose block the parameters are
abbrev pub body_faults : Tables → FunctionTree → Option BodyTree → List Fault
body_faults t f None = []
body_faults t f (Some body) =
    statements_faults
    (record { tables = t; result = returned_type t f.returned; in_loop = false })
    (record { heads = []; own = reverse (parameters_of t f); outer = [] })
    (stmts_of body.statements)

-- the faults of a function: of its result, its parameters, its body
abbrev pub function_faults : Tables → FunctionTree → List Fault
function_faults t f =
    returned_faults t f f.returned
    ++ flat_map (λ p. declarator_faults t p.base p.declarator) (listed_parameters f.parameters)
    ++ repeated [] (map (λ p. p.declarator.name) (listed_parameters f.parameters))
    ++ body_faults t f f.body

-- the faults of an item
abbrev pub item_tree_faults : Tables → ItemTree → List Fault
item_tree_faults t (structure s) = struct_faults t s
item_tree_faults t (typedef d) = typedef_faults t d
item_tree_faults t (function f) = function_faults t f

-- ---- a whole program
-- a prototype and its function have one type
abbrev pub is_other : Tables → FunctionTree → FunctionTree → Bool
is_other t f g = is_same f.name.text g.name.text && not (is_defined f && is_defined g) && not (same_type t f g)

-- each function has the type that earlier prototypes of its name have
abbrev pub prototype_faults : Tables → List FunctionTree → List FunctionTree → List Fault
prototype_faults t before [] = []
prototype_faults t before (f ∷ fs) = unless (not (list_any (is_other t f) before)) Mismatch f.name.place
    ++ prototype_faults t (f ∷ before) fs

-- the names that an item introduces as types
abbrev pub typedef_names : ItemTree → List Name
typedef_names (structure s) = []
typedef_names (typedef t) = map (λ d. d.name) t.declarators
typedef_names (function f) = []

-- structs, typedefs and functions are introduced once
abbrev pub table_faults : UnitTree → Tables → List Fault
table_faults unit t =
    repeated [] (map (λ s. s.name) t.structs)
    ++ repeated [] (flat_map typedef_names unit)
    ++ repeated [] (map (λ f. f.name) (filter is_defined t.functions))
    ++ prototype_faults t [] t.functions

-- all faults but Recursion and NoEntry
abbrev pub plain_faults : UnitTree → List Fault
plain_faults unit = table_faults unit (tables_of unit) ++ flat_map (item_tree_faults (tables_of unit)) unit
