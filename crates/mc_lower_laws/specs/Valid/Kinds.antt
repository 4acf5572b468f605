-- Resolved programs whose values are of the kinds that are wanted.
use Rattle.std.specs.Prelude.{◌≡◌, ℕ, pos, List, [], ◌∷◌, Option, Some, None, option_map, slice_get, take}
use Rattle.std.specs.List.{AllZip}
use Rattle.mc_base.specs.declared.ids.PredId.{PredId}
use Rattle.mc_base.specs.declared.plain.Kind.{Kind}
use Rattle.mc_base.specs.declared.plain.Kind.TheVariants.{Int, Ptr}
use Rattle.mc_c_syntax.specs.declared.ast.trees.Comparison.{Comparison}
use Rattle.mc_c_syntax.specs.declared.ast.trees.Comparison.TheVariants.{Equal, Unequal, Below, AtMost, Above, AtLeast}
use Rattle.mc_flow.specs.declared.defs.rules.Def.{Def}
use Rattle.mc_flow.specs.declared.defs.shapes.Structs.{Structs}
use Rattle.mc_flow.specs.Defs.Conditions.{DefsFit}
use Rattle.mc_flow.specs.declared.instr.Operand.TheVariants.{Const}
use Rattle.mc_flow.specs.Valid.{IsField, IsOperand, IsStruct}
use Rattle.mc_lower_spec.specs.Values.{struct_at}
use Rattle.mc_semantics.specs.Resolved.Programs.{FieldAt, Left, Expr, number, input, value, minus, times, plus, difference}
use Rattle.mc_semantics.specs.Resolved.Programs.{Cond, plain, compare, negation, both, either, Call, Right, expression}
use Rattle.mc_semantics.specs.Resolved.Programs.{result_of, allocation, Action, assign, add, subtract, call, Simple, Initial}
use Rattle.mc_semantics.specs.Resolved.Programs.{Argument, variable, constant, Start, nothing, declares, performs, Stmt}
use Rattle.mc_semantics.specs.Resolved.Programs.{declaration, block, empty, simple, free, assert, assume, assume_shape}
use Rattle.mc_semantics.specs.Resolved.Programs.{assert_shape, assert_empty, if_only, if_else, while_loop, do_loop, for_loop}
use Rattle.mc_semantics.specs.Resolved.Programs.{break_loop, continue_loop, returns, Stmts, no_more, then, Function, Program}

-- where a part of a program stands: with these structs, in a program, in a function
pub record Here : Type 0 where
  pub structs : Structs
  pub program : Program
  pub function : Function

-- ---- variables and expressions
abbrev pub IsVariable : Here → Kind → ℕ → Type 0
IsVariable h kind x = option_map (λ l. l.kind) (slice_get h.function.locals x) ≡ Some kind

-- after a value of a kind, each field but the last one is a pointer, and what is last is of a kind
abbrev pub LeadsTo : Structs → Kind → List FieldAt → Kind → Type 0
LeadsTo structs from [] kind = from ≡ kind
LeadsTo structs from (f ∷ fs) kind =
    (from ≡ Ptr) × ((k : Kind) × IsField structs (struct_at f.shape) f.field k × LeadsTo structs k fs kind)

abbrev pub IsLeft : Here → Kind → Left → Type 0
IsLeft h kind l = (from : Kind) × IsVariable h from l.variable × LeadsTo h.structs from l.fields kind

-- an expression may have this kind; 0 has both
abbrev pub IsOf : Here → Kind → Expr → Type 0
IsOf h kind (number n) = IsOperand [] kind (Const (pos n))
IsOf h kind input = kind ≡ Int
IsOf h kind (value l) = IsLeft h kind l
IsOf h kind (minus e) = (kind ≡ Int) × IsOf h Int e
IsOf h kind (times a b) = (kind ≡ Int) × IsOf h Int a × IsOf h Int b
IsOf h kind (plus a b) = (kind ≡ Int) × IsOf h Int a × IsOf h Int b
IsOf h kind (difference a b) = (kind ≡ Int) × IsOf h Int a × IsOf h Int b

-- `==` and `!=` compare two values of one kind, the others two numbers
abbrev pub AreCompared : Here → Comparison → Expr → Expr → Type 0
AreCompared h Equal a b = (kind : Kind) × IsOf h kind a × IsOf h kind b
AreCompared h Unequal a b = (kind : Kind) × IsOf h kind a × IsOf h kind b
AreCompared h Below a b = IsOf h Int a × IsOf h Int b
AreCompared h AtMost a b = IsOf h Int a × IsOf h Int b
AreCompared h Above a b = IsOf h Int a × IsOf h Int b
AreCompared h AtLeast a b = IsOf h Int a × IsOf h Int b

abbrev pub IsCondition : Here → Cond → Type 0
IsCondition h (plain place e) = (kind : Kind) × IsOf h kind e
IsCondition h (compare place c a b) = AreCompared h c a b
IsCondition h (negation c) = IsCondition h c
IsCondition h (both c d) = IsCondition h c × IsCondition h d
IsCondition h (either c d) = IsCondition h c × IsCondition h d

-- ---- simple statements
-- the arguments have the kinds of the parameters
pub record IsCall (h : Here) (result : Option Kind) (c : Call) : Type 0 where
  pub callee : Function
  pub there : slice_get h.program.functions c.function ≡ Some callee
  pub arguments : AllZip (λ e l. IsOf h l.kind e) c.arguments (take callee.parameters callee.locals)
  pub answers : callee.result ≡ result

abbrev pub IsRight : Here → Kind → Right → Type 0
IsRight h kind (expression e) = IsOf h kind e
IsRight h kind (result_of c) = IsCall h (Some kind) c
IsRight h kind (allocation shape fields) = (kind ≡ Ptr) × IsStruct h.structs (struct_at shape)

abbrev pub IsAction : Here → Action → Type 0
IsAction h (assign l right) = (kind : Kind) × IsLeft h kind l × IsRight h kind right
IsAction h (add l e) = IsLeft h Int l × IsOf h Int e
IsAction h (subtract l e) = IsLeft h Int l × IsOf h Int e
IsAction h (call c) = (result : Option Kind) × IsCall h result c

abbrev pub IsDeclared : Here → ℕ → Option Right → Type 0
IsDeclared h x None = Unit {0}
IsDeclared h x (Some right) = (kind : Kind) × IsVariable h kind x × IsRight h kind right

abbrev pub AreDeclared : Here → List Initial → Type 0
AreDeclared h [] = Unit {0}
AreDeclared h (item ∷ items) = IsDeclared h item.variable item.value × AreDeclared h items

-- ---- shape commands
abbrev pub IsArgument : Here → Kind → Argument → Type 0
IsArgument h kind (variable x) = IsVariable h kind x
IsArgument h kind (constant c) = IsOperand [] kind (Const c)

pub record AreArguments (h : Here) (predicate : PredId) (args : List Argument) : Type 0 where
  pub def : Def
  pub defined : slice_get h.program.defs predicate.0 ≡ Some def
  pub fit : AllZip (λ a kind. IsArgument h kind a) args def.params

-- ---- statements
abbrev pub IsStart : Here → Start → Type 0
IsStart h nothing = Unit {0}
IsStart h (declares place items) = AreDeclared h items
IsStart h (performs x) = IsAction h x.action

abbrev pub IsLast : Here → Option Simple → Type 0
IsLast h None = Unit {0}
IsLast h (Some x) = IsAction h x.action

abbrev pub IsConditionPerhaps : Here → Option Cond → Type 0
IsConditionPerhaps h None = Unit {0}
IsConditionPerhaps h (Some c) = IsCondition h c

abbrev pub IsReturned : Here → Option Right → Type 0
IsReturned h None = Unit {0}
IsReturned h (Some right) = (kind : Kind) × (h.function.result ≡ Some kind) × IsRight h kind right

abbrev mutual
  pub IsOfKinds : Here → Stmt → Type 0
  IsOfKinds h (declaration place items) = AreDeclared h items
  IsOfKinds h (block xs ss) = AreOfKinds h ss
  IsOfKinds h empty = Unit {0}
  IsOfKinds h (simple x) = IsAction h x.action
  IsOfKinds h (free place e) = IsOf h Ptr e
  IsOfKinds h (assert place c) = IsCondition h c
  IsOfKinds h (assume place c) = IsCondition h c
  IsOfKinds h (assume_shape place predicate x args) = IsVariable h Ptr x × AreArguments h predicate args
  IsOfKinds h (assert_shape place predicate a args) = IsArgument h Ptr a × AreArguments h predicate args
  IsOfKinds h (assert_empty place) = Unit {0}
  IsOfKinds h (if_only place c a) = IsCondition h c × IsOfKinds h a
  IsOfKinds h (if_else place c a b) = IsCondition h c × IsOfKinds h a × IsOfKinds h b
  IsOfKinds h (while_loop place c a) = IsCondition h c × IsOfKinds h a
  IsOfKinds h (do_loop place a c) = IsOfKinds h a × IsCondition h c
  IsOfKinds h (for_loop head a) =
      IsStart h head.start × IsConditionPerhaps h head.condition × IsLast h head.last × IsOfKinds h a
  IsOfKinds h (break_loop place) = Unit {0}
  IsOfKinds h (continue_loop place) = Unit {0}
  IsOfKinds h (returns place right) = IsReturned h right

  pub AreOfKinds : Here → Stmts → Type 0
  AreOfKinds h no_more = Unit {0}
  AreOfKinds h (then a more) = IsOfKinds h a × AreOfKinds h more

-- each function of a program, and the definitions of its shapes fit the structs
pub record IsWellMade (structs : Structs) (p : Program) : Type 0 where
  pub functions : (n : ℕ) (f : Function) → slice_get p.functions n ≡ Some f
      → AreOfKinds (record { structs = structs; program = p; function = f }) f.body
  pub definitions : DefsFit structs.list p.defs
