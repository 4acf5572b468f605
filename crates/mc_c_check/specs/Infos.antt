-- What is left of structs when a program runs.
use Rattle.std.specs.Prelude.{List, map}
use Rattle.mc_flow.specs.declared.defs.shapes.FieldInfo.{FieldInfo}
use Rattle.mc_flow.specs.declared.defs.shapes.StructInfo.{StructInfo}
use Rattle.mc_c_syntax.specs.Ast.Trees.{FieldTree, StructTree}
use Rattle.mc_c_types.specs.Tables.{Tables, Variable, kind_of, variable_of, fields_of}

-- a field
abbrev pub field_info : Variable → FieldInfo
field_info v = record { name = v.name; kind = kind_of v.type }

-- the fields that are declared with one base
abbrev pub field_infos : Tables → FieldTree → List FieldInfo
field_infos t field = map (λ d. field_info (variable_of t field.base d)) field.declarators

-- a struct, with the kinds of its fields
abbrev pub struct_info : Tables → StructTree → StructInfo
struct_info t s = record { name = s.name.text; fields = map field_info (fields_of t s) }
