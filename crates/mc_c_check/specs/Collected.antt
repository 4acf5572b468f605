-- What is collected from a program.
use Rattle.std.specs.Prelude.{List, [], ◌∷◌, Option, Some, None, map, flat_map}
use denote.Bor.{Bor}
use Rattle.mc_c_syntax.specs.declared.ast.trees.Name.{Name}
use Rattle.mc_c_syntax.specs.declared.ast.trees.Function.{Function}
use Rattle.mc_c_syntax.specs.declared.ast.trees.Struct.{Struct}
use Rattle.mc_c_syntax.specs.Ast.Views.{function_of, struct_of}
use Rattle.mc_c_syntax.specs.Ast.Trees.{FieldTree, FunctionTree, StructTree}

-- one or none, as a list
abbrev pub at_most_one : {X : Type 0} → Option X → List X
at_most_one None = []
at_most_one (Some x) = x ∷ []

-- what is after references
abbrev pub names_held : List (Bor Name) → List Name
names_held names = map (λ n. n.now) names

abbrev pub structs_held : List (Bor Struct) → List StructTree
structs_held structs = map (λ s. struct_of s.now) structs

abbrev pub functions_held : List (Bor Function) → List FunctionTree
functions_held functions = map (λ f. function_of f.now) functions

-- the names of fields
abbrev pub field_names : List FieldTree → List Name
field_names fields = flat_map (λ field. map (λ d. d.name) field.declarators) fields
