-- Shape commands and definitions: which commands of a program do not fit.
use Rattle.std.specs.Prelude.{◌≡◌, ℕ, Bool, false, ◌==◌, List, [], ◌∷◌, ◌++◌, Option, Some, None, find, flat_map, length, map, reverse}
use Rattle.mc_base.specs.declared.plain.Kind.{Kind}
use Rattle.mc_base.specs.declared.plain.Kind.TheVariants as Kind
use Rattle.mc_base.specs.declared.text.place.Place.{Place}
use Rattle.mc_flow.specs.declared.defs.rules.Def.{Def}
use Rattle.mc_c_syntax.specs.declared.ast.trees.Argument.{Argument}
use Rattle.mc_c_syntax.specs.declared.ast.trees.Argument.TheVariants as Argument
use Rattle.mc_c_syntax.specs.declared.ast.trees.Name.{Name}
use Rattle.mc_c_syntax.specs.Ast.Names.{is_same}
use Rattle.mc_c_syntax.specs.Ast.Trees.{Stmt, declaration, block, empty, simple, free, assert, assume, assume_shape}
use Rattle.mc_c_syntax.specs.Ast.Trees.{assert_shape, assert_empty, if_only, if_else, while_loop, do_loop, for_loop}
use Rattle.mc_c_syntax.specs.Ast.Trees.{break_loop, continue_loop, returns, Stmts, no_more, then, stmts_of, BodyTree}
use Rattle.mc_c_syntax.specs.Ast.Trees.{FunctionTree, ItemTree, structure, typedef, function, UnitTree}
use Rattle.mc_c_types.specs.Faults.{unless, variable_type}
use Rattle.mc_c_types.specs.First.{told_of}
use Rattle.mc_c_types.specs.Scopes.{Scope, visible, inside, behind, behind_start}
use Rattle.mc_c_types.specs.Tables.{Tables, Variable, tables_of, parameters_of}
use Rattle.mc_c_types.specs.Types.{number_type, is_int, is_pointer}
use Rattle.mc_c_types.specs.declared.faults.Fault.{Fault}
use Rattle.mc_c_types.specs.declared.faults.FaultName.{FaultName}
use Rattle.mc_c_types.specs.declared.faults.FaultName.TheVariants.{Unknown, Mismatch, Arity}
use Rattle.mc_c_types.specs.declared.types.ValueType.{ValueType}
use Rattle.mc_c_types.specs.declared.types.ValueType.TheVariants.{Typed, Zero, Null}
use Rattle.mc_c_types.specs.declared.types.VariableType.TheVariants.{Int}

-- an argument of a shape command: what it can be, at its first token
pub record Given : Type 0 where
  pub type : ValueType
  pub place : Place

-- a shape command where it stands
pub record ShapeUse : Type 0 where
  pub predicate : Name
  pub start : Given
  pub arguments : List Given

-- what a variable gives
abbrev pub variable_given : List Variable → Name → Given
variable_given vs name = record { type = Typed (variable_type vs name); place = name.place }

-- what an argument of a shape command gives
abbrev pub argument_given : List Variable → Argument → Given
argument_given vs (Argument.Name name) = variable_given vs name
argument_given vs (Argument.Null p) = record { type = Null; place = p }
argument_given vs (Argument.Number n p) = record { type = number_type n; place = p }
argument_given vs (Argument.Negative n p) = record { type = Typed Int; place = p }

abbrev mutual
  -- the shape commands of a statement in a scope
  pub statement_uses : Tables → Scope → Stmt → List ShapeUse
  statement_uses t s (declaration d) = []
  statement_uses t s (block p ss) = statements_uses t (inside s) ss
  statement_uses t s (empty p) = []
  statement_uses t s (simple x) = []
  statement_uses t s (free p e) = []
  statement_uses t s (assert p c) = []
  statement_uses t s (assume p c) = []
  statement_uses t s (assume_shape p predicate x args) =
      record { predicate = predicate; start = variable_given (visible s) x; arguments = map (argument_given (visible s)) args } ∷ []
  statement_uses t s (assert_shape p predicate a args) =
      record { predicate = predicate; start = argument_given (visible s) a; arguments = map (argument_given (visible s)) args } ∷ []
  statement_uses t s (assert_empty p) = []
  statement_uses t s (if_only p c a) = statement_uses t s a
  statement_uses t s (if_else p c a b) = statement_uses t s a ++ statement_uses t (behind t s a) b
  statement_uses t s (while_loop p c a) = statement_uses t s a
  statement_uses t s (do_loop p a c) = statement_uses t s a
  statement_uses t s (for_loop h a) = statement_uses t (behind_start t s h.start) a
  statement_uses t s (break_loop p) = []
  statement_uses t s (continue_loop p) = []
  statement_uses t s (returns p r) = []

  pub statements_uses : Tables → Scope → Stmts → List ShapeUse
  statements_uses t s no_more = []
  statements_uses t s (then a rest) = statement_uses t s a ++ statements_uses t (behind t s a) rest

-- the shape commands of a function's body
abbrev pub body_uses : Tables → FunctionTree → Option BodyTree → List ShapeUse
body_uses t f None = []
body_uses t f (Some body) = statements_uses t (record { heads = []; own = reverse (parameters_of t f); outer = [] })
    (stmts_of body.statements)

-- the shape commands of an item
abbrev pub item_uses : Tables → ItemTree → List ShapeUse
item_uses t (structure s) = []
item_uses t (typedef d) = []
item_uses t (function f) = body_uses t f f.body

-- the shape commands of a program, in the order of its text
abbrev pub unit_uses : UnitTree → List ShapeUse
unit_uses unit = flat_map (item_uses (tables_of unit)) unit

-- ---- what does not fit
-- a value of this type is one of this kind
abbrev pub kind_fits : Kind → ValueType → Bool
kind_fits Kind.Int value = is_int value
kind_fits Kind.Ptr value = is_pointer value

-- each argument is of the kind of its parameter, else the fault is at the argument
abbrev pub given_faults : List Kind → List Given → List Fault
given_faults [] given = []
given_faults (kind ∷ kinds) [] = []
given_faults (kind ∷ kinds) (g ∷ given) = unless (kind_fits kind g.type) Mismatch g.place ++ given_faults kinds given

-- the predicate is defined and has as many parameters, and what it speaks of is a pointer
abbrev pub predicate_faults : ShapeUse → Option Def → List Fault
predicate_faults command None = unless false Unknown command.predicate.place
predicate_faults command (Some def) =
    unless (length command.arguments == length def.params) Arity command.predicate.place
    ++ unless (is_pointer command.start.type) Mismatch command.start.place
    ++ given_faults def.params command.arguments

-- the faults of a shape command with these definitions
abbrev pub use_faults : List Def → ShapeUse → List Fault
use_faults defs command = predicate_faults command (find (λ def. is_same def.name command.predicate.text) defs)

-- the faults of a program's shape commands with these definitions
abbrev pub bind_faults : UnitTree → List Def → List Fault
bind_faults unit defs = flat_map (use_faults defs) (unit_uses unit)

-- every shape command fits the definitions
abbrev pub IsBound : UnitTree → List Def → Type 0
IsBound unit defs = bind_faults unit defs ≡ []

-- the first of them
abbrev pub IsFirstBindFault : UnitTree → List Def → Fault → Type 0
IsFirstBindFault unit defs fault = told_of None (bind_faults unit defs) ≡ Some fault
