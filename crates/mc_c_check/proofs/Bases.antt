-- Fields of structs, one base after another.
use Rattle.std.proofs.Common.{◌≡◌, ℕ, List, [], ◌∷◌, ◌++◌, map, flat_map, refl, ap, sym, ◌∙◌}
use Rattle.mc_flow.specs.declared.defs.shapes.FieldInfo.{FieldInfo}
use Rattle.mc_flow.specs.declared.defs.shapes.StructInfo.{StructInfo}
use Rattle.mc_c_syntax.specs.Ast.Trees.{FieldTree, StructTree}
use Rattle.mc_c_syntax.specs.declared.ast.trees.Base.{Base}
use Rattle.mc_c_syntax.specs.declared.ast.trees.Declarator.{Declarator}
use Rattle.mc_c_types.specs.Tables.{Tables, variable_of, variables_of}
use Rattle.mc_c_check.specs.Infos.{field_info, field_infos, struct_info}
use Rattle.mc_c_check.proofs.Rows.{map_append}

one_base : (t : Tables) (base : Base) (ds : List Declarator) → map (λ d. field_info (variable_of t base d)) ds ≡ map field_info (map (variable_of t base) ds)
one_base t base [] = refl
one_base t base (d ∷ ds) = ap (λ more. field_info (variable_of t base d) ∷ more) (one_base t base ds)

pub all_bases : (t : Tables) (fields : List FieldTree) → flat_map (field_infos t) fields ≡ map field_info (flat_map (variables_of t) fields)
all_bases t [] = refl
all_bases t (field ∷ fields) =
    ap (λ more. field_infos t field ++ more) (all_bases t fields)
    ∙ ap (λ some. some ++ map field_info (flat_map (variables_of t) fields)) (one_base t field.base field.declarators)
    ∙ sym (map_append field_info (variables_of t field) (flat_map (variables_of t) fields))

-- a struct of that name, with these fields
abbrev info_of : List FieldInfo → List ℕ → StructInfo
info_of fields name = record { name = name; fields = fields }

pub info_made : (t : Tables) (s : StructTree) (name : List ℕ) (fields : List FieldInfo) → name ≡ s.name.text → fields ≡ flat_map (field_infos t) s.fields → info_of fields name ≡ struct_info t s
info_made t s name fields named given =
    ap (info_of fields) named ∙ ap (λ all. info_of all s.name.text) (given ∙ all_bases t s.fields)
