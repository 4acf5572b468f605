-- What the code knows of names at one point of a function, as data.
use Rattle.std.specs.Prelude.{◌≡◌, ℕ, List, map, flat_map}
use Rattle.mc_c_syntax.specs.Ast.Trees.{StructTree}
use Rattle.mc_c_types.specs.Tables.{Tables, Variable}
use Rattle.mc_c_types.specs.Held.{tables_held, variable_held}
use Rattle.mc_c_types.specs.Scopes.{visible}
use Rattle.mc_semantics.specs.Resolved.Resolving.{Naming, defined_functions}
use Rattle.mc_resolve.specs.declared.naming.Naming.{Naming as NamingCode}
use Rattle.mc_resolve.specs.declared.naming.NamesHere.{NamesHere}

-- what names mean in the function
abbrev pub naming_held : NamingCode → Naming
naming_held n = record { tables = tables_held n.tables.now; defs = n.defs.now; locals = map variable_held n.locals.now }

-- the same at the point
abbrev pub naming_at : NamesHere → Naming
naming_at names = naming_held names.naming

-- the variables that are visible at the point
abbrev pub visible_at : NamesHere → List Variable
visible_at names = visible names.scope.now

-- the names of the fields of a struct
abbrev pub declared_names : StructTree → List (List ℕ)
declared_names s = flat_map (λ field. map (λ d. d.name.text) field.declarators) s.fields

-- the names of the fields of each struct
abbrev pub field_names : Tables → List (List (List ℕ))
field_names t = map declared_names t.structs

-- the names of the functions that are defined
abbrev pub defined_names : Tables → List (List ℕ)
defined_names t = map (λ f. f.name.text) (defined_functions t)

-- fields and functions are known by their names
pub record IsNumbered (naming : NamingCode) : Type 0 where
  pub fields : naming.fields.now.structs.items ≡ field_names (tables_held naming.tables.now)
  pub functions : naming.functions.now.names ≡ defined_names (tables_held naming.tables.now)
