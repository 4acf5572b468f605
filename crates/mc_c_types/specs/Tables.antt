-- What the names of a program mean: its structs, typedefs and functions.
use Rattle.std.specs.Prelude.{ℕ, Bool, true, false, not, ◌&&◌, ◌||◌, List, [], ◌∷◌, ◌++◌, Option, Some, None, map}
use Rattle.std.specs.Prelude.{flat_map, find, position, filter, option_map, option_and_then, unwrap_or, is_some}
use Rattle.std.specs.Prelude.{slice_get}
use Rattle.std.specs.List.{list_any}
use Rattle.mc_base.specs.declared.ids.StructId.{StructId}
use Rattle.mc_base.specs.declared.plain.Kind.{Kind}
use Rattle.mc_base.specs.declared.plain.Kind.TheVariants as Kind
use Rattle.mc_base.specs.declared.text.place.Place.{Place}
use Rattle.mc_flow.specs.declared.defs.shapes.StructInfo.{StructInfo}
use Rattle.mc_flow.specs.declared.defs.shapes.FieldInfo.{FieldInfo}
use Rattle.mc_c_syntax.specs.declared.ast.trees.Name.{Name}
use Rattle.mc_c_syntax.specs.declared.ast.trees.Base.{Base}
use Rattle.mc_c_syntax.specs.declared.ast.trees.Base.TheVariants as Base
use Rattle.mc_c_syntax.specs.declared.ast.trees.Declarator.{Declarator}
use Rattle.mc_c_syntax.specs.declared.ast.trees.Returned.{Returned}
use Rattle.mc_c_syntax.specs.declared.ast.trees.Returned.TheVariants as Returned
use Rattle.mc_c_syntax.specs.declared.ast.trees.Parameter.{Parameter}
use Rattle.mc_c_syntax.specs.Ast.Trees.{FieldTree, StructTree, AliasedTree, of_base, of_struct, TypedefTree, ParametersTree}
use Rattle.mc_c_syntax.specs.Ast.Trees.{unnamed, void, listed, FunctionTree, ItemTree, structure, typedef, function}
use Rattle.mc_c_syntax.specs.Ast.Trees.{UnitTree}
use Rattle.mc_c_syntax.specs.Ast.Names.{is_same}
use Rattle.mc_c_types.specs.Types.{agree, all_agree}
use Rattle.mc_c_types.specs.declared.types.VariableType.{VariableType}
use Rattle.mc_c_types.specs.declared.types.VariableType.TheVariants.{Int, Pointer, Anything}
use Rattle.mc_c_types.specs.declared.types.BaseType.{BaseType}
use Rattle.mc_c_types.specs.declared.types.BaseType.TheVariants as BaseType

-- a variable, field or parameter, at the place of its name
pub record Variable : Type 0 where
  pub name : List ℕ
  pub place : Place
  pub type : VariableType

-- the type of the one with this name, the first if there are several
abbrev pub type_in : List Variable → List ℕ → Option VariableType
type_in variables name = option_map (λ v. v.type) (find (λ v. is_same v.name name) variables)

-- what a typedef made of a name
pub record Alias : Type 0 where
  pub name : List ℕ
  pub meaning : BaseType

-- ---- structs
-- the structs of a program in the order of its text
abbrev pub aliased_structs : AliasedTree → List StructTree
aliased_structs (of_base base) = []
aliased_structs (of_struct s) = s ∷ []

-- the structs that an item defines
abbrev pub item_structs : ItemTree → List StructTree
item_structs (structure s) = s ∷ []
item_structs (typedef t) = aliased_structs t.aliased
item_structs (function f) = []

-- the structs of a program, in the order of its text
abbrev pub unit_structs : UnitTree → List StructTree
unit_structs unit = flat_map item_structs unit

-- the number of a struct
abbrev pub struct_number : List StructTree → List ℕ → Option StructId
struct_number structs name = option_map (λ n. record { 0 = n }) (position (λ s. is_same s.name.text name) structs)

-- ---- bases and declarators
-- a struct that is not defined
abbrev pub is_undefined : BaseType → Bool
is_undefined (BaseType.Typed type) = false
is_undefined (BaseType.Struct s) = false
is_undefined BaseType.Undefined = true

-- what the name of a struct means
abbrev pub struct_meaning : Option StructId → BaseType
struct_meaning None = BaseType.Undefined
struct_meaning (Some s) = BaseType.Struct s

-- what a name means that a typedef introduced, the first if there are several
abbrev pub alias_in : List Alias → List ℕ → Option BaseType
alias_in aliases name = option_map (λ alias. alias.meaning) (find (λ alias. is_same alias.name name) aliases)

-- what a base means, with these structs and typedefs
abbrev pub base_meaning : List StructTree → List Alias → Base → BaseType
base_meaning structs aliases (Base.Int p) = BaseType.Typed Int
base_meaning structs aliases (Base.Struct p name) = struct_meaning (struct_number structs name.text)
base_meaning structs aliases (Base.Alias name) = unwrap_or (alias_in aliases name.text) (BaseType.Typed Anything)

-- the type of a name that is declared with a base that means this, and perhaps after a `*`
abbrev pub declared_type : BaseType → Option Place → VariableType
declared_type (BaseType.Typed type) None = type
declared_type (BaseType.Typed type) (Some star) = Anything
declared_type (BaseType.Struct s) None = Anything
declared_type (BaseType.Struct s) (Some star) = Pointer s
declared_type BaseType.Undefined None = Anything
declared_type BaseType.Undefined (Some star) = Anything

-- what a typedef makes of a name: a struct may stay one
abbrev pub alias_meaning : BaseType → Option Place → BaseType
alias_meaning base None = base
alias_meaning base (Some star) = BaseType.Typed (declared_type base (Some star))

-- ---- typedefs
-- what the base of a typedef means; a struct's own name means that struct
abbrev pub aliased_meaning : List StructTree → List Alias → AliasedTree → BaseType
aliased_meaning structs aliases (of_base base) = base_meaning structs aliases base
aliased_meaning structs aliases (of_struct s) = struct_meaning (struct_number structs s.name.text)

-- the typedefs after an item: those before it, and its own
abbrev pub aliases_behind : List StructTree → List Alias → ItemTree → List Alias
aliases_behind structs aliases (structure s) = aliases
aliases_behind structs aliases (typedef t) =
    aliases ++ map
    (λ d. record {
      name = d.name.text;
      meaning = alias_meaning
          (aliased_meaning structs aliases t.aliased) d.pointer;
    }) t.declarators
aliases_behind structs aliases (function f) = aliases

-- the typedefs of a program, those before it first
abbrev pub aliases_of : List StructTree → List Alias → UnitTree → List Alias
aliases_of structs aliases [] = aliases
aliases_of structs aliases (item ∷ items) = aliases_of structs (aliases_behind structs aliases item) items

-- ---- functions
-- the functions of a program and their prototypes, in the order of its text
abbrev pub item_functions : ItemTree → List FunctionTree
item_functions (structure s) = []
item_functions (typedef t) = []
item_functions (function f) = f ∷ []

-- ---- the tables of a program
-- what the names of a program mean: its structs, its typedefs, its functions and prototypes
pub record Tables : Type 0 where
  pub structs : List StructTree
  pub aliases : List Alias
  pub functions : List FunctionTree

-- the tables of a program
abbrev pub tables_of : UnitTree → Tables
tables_of unit =
    record { structs = unit_structs unit; aliases = aliases_of (unit_structs unit) [] unit; functions = flat_map item_functions unit }

-- what a base means in a program
abbrev pub meaning_of : Tables → Base → BaseType
meaning_of t base = base_meaning t.structs t.aliases base

-- the variable that a declarator makes
abbrev pub variable_of : Tables → Base → Declarator → Variable
variable_of t base d = record { name = d.name.text; place = d.name.place; type = declared_type (meaning_of t base) d.pointer }

-- the variables that a field declares
abbrev pub variables_of : Tables → FieldTree → List Variable
variables_of t field = map (variable_of t field.base) field.declarators

-- the fields of a struct, in the order of the text
abbrev pub fields_of : Tables → StructTree → List Variable
fields_of t s = flat_map (variables_of t) s.fields

-- the parameters of a function
abbrev pub listed_parameters : ParametersTree → List Parameter
listed_parameters unnamed = []
listed_parameters (void p) = []
listed_parameters (listed ps) = ps

-- the variables that are the parameters of a function
abbrev pub parameters_of : Tables → FunctionTree → List Variable
parameters_of t f = map (λ p. variable_of t p.base p.declarator) (listed_parameters f.parameters)

-- the type of a function's result, if it has one
abbrev pub returned_type : Tables → Returned → Option VariableType
returned_type t (Returned.Void p) = None
returned_type t (Returned.Value base star) = Some (declared_type (meaning_of t base) star)

-- two results are alike
abbrev pub same_result : Option VariableType → Option VariableType → Bool
same_result None None = true
same_result None (Some type) = false
same_result (Some type) None = false
same_result (Some type) (Some other) = agree type other

-- two functions have the same type
abbrev pub same_type : Tables → FunctionTree → FunctionTree → Bool
same_type t f g =
    same_result (returned_type t f.returned) (returned_type t g.returned)
    && all_agree (map (λ v. v.type) (parameters_of t f)) (map (λ v. v.type) (parameters_of t g))

-- the function has a body
abbrev pub is_defined : FunctionTree → Bool
is_defined f = is_some f.body

-- the function that a call of this name calls
abbrev pub called_function : Tables → List ℕ → Option FunctionTree
called_function t name = find (λ f. is_defined f && is_same f.name.text name) t.functions

-- ---- what is left of types when a program runs
-- the kind of the values of a type
abbrev pub kind_of : VariableType → Kind
kind_of Int = Kind.Int
kind_of (Pointer s) = Kind.Ptr
kind_of Anything = Kind.Int

-- the structs of a program by number, with the kinds of their fields
abbrev pub struct_infos : UnitTree → List StructInfo
struct_infos unit =
    map (λ s. record {
      name = s.name.text;
      fields = map (λ v. record { name = v.name; kind = kind_of v.type })
          (fields_of (tables_of unit) s);
    }) (unit_structs unit)
