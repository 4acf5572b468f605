-- The number of a field, by the names of the fields.
use Rattle.std.proofs.Common.{◌≡◌, ℕ, zero, suc, ◌+◌, Bool, not, cond, List, [], ◌∷◌, ◌++◌, Option, Some, None, map, refl, sym, ap, ap₂, ◌∙◌, slice_get}
use Rattle.std.specs.Prelude.{position, flat_map, option_and_then, unwrap_or, nat_lt}
use Rattle.std.specs.Option.{option_map_or}
use Rattle.std.specs.List.{prefix_len}
use Rattle.std.proofs.lemmas.List.{length-map, map-append}
use Rattle.mc_c_syntax.specs.declared.ast.trees.Name.{Name}
use Rattle.mc_c_syntax.specs.declared.ast.trees.Base.{Base}
use Rattle.mc_c_syntax.specs.declared.ast.trees.Declarator.{Declarator}
use Rattle.mc_c_syntax.specs.Ast.Names.{is_same}
use Rattle.mc_c_syntax.specs.Ast.Trees.{FieldTree, StructTree}
use Rattle.mc_c_types.specs.Tables.{Tables, Variable, variable_of, variables_of, fields_of}
use Rattle.mc_c_types.specs.declared.types.VariableType.{VariableType}
use Rattle.mc_semantics.specs.Values.{struct_behind, field_number}
use Rattle.mc_resolve.specs.Named.{declared_names, field_names}

pub prefix_map : {X Y : Type 0} (p : Y → Bool) (f : X → Y) (xs : List X) → prefix_len p (map f xs) ≡ prefix_len (λ x. p (f x)) xs
prefix_map p f [] = refl
prefix_map p f (x ∷ xs) = ap (λ n. cond (p (f x)) (1 + n) 0) (prefix_map p f xs)

position_map : {X Y : Type 0} (p : Y → Bool) (f : X → Y) (xs : List X) → position p (map f xs) ≡ position (λ x. p (f x)) xs
position_map p f xs = ap₂ (λ (n k : ℕ). cond (nat_lt n k) (Some n) None) (prefix_map (λ y. not (p y)) f xs) (length-map xs f)

one_base : (t : Tables) (base : Base) (ds : List Declarator) → map (λ d. d.name.text) ds ≡ map (λ v. v.name) (map (variable_of t base) ds)
one_base t base [] = refl
one_base t base (d ∷ ds) = ap (λ ns. d.name.text ∷ ns) (one_base t base ds)

pub names_in : (t : Tables) (fields : List FieldTree) → flat_map (λ field. map (λ d. d.name.text) field.declarators) fields ≡ map (λ v. v.name) (flat_map (variables_of t) fields)
names_in t [] = refl
names_in t (field ∷ fields) =
    ap₂ (λ (a b : List (List ℕ)). a ++ b) (one_base t field.base field.declarators) (names_in t fields)
    ∙ sym (map-append (λ v. v.name) (variables_of t field) (flat_map (variables_of t) fields))

in_struct : (t : Tables) (name : List ℕ) (s : StructTree) → position (λ n. is_same n name) (declared_names s) ≡ position (λ v. is_same v.name name) (fields_of t s)
in_struct t name s = ap (position (λ n. is_same n name)) (names_in t s.fields) ∙ position_map (λ n. is_same n name) (λ (v : Variable). v.name) (fields_of t s)

in_structs : (t : Tables) (name : List ℕ) (structs : List StructTree) (shape : ℕ)
    → option_and_then (position (λ n. is_same n name)) (slice_get (map declared_names structs) shape) ≡ position (λ v. is_same v.name name) (option_map_or (fields_of t) (slice_get structs shape) [])
in_structs t name [] shape = refl
in_structs t name (s ∷ structs) zero = in_struct t name s
in_structs t name (s ∷ structs) (suc shape) = in_structs t name structs shape

pub field_number_of : (t : Tables) (names : List (List (List ℕ))) (type : VariableType) (field : Name) → names ≡ field_names t
    → unwrap_or (option_and_then (position (λ n. is_same n field.text)) (slice_get names (struct_behind type))) 0 ≡ field_number t type field
field_number_of t names type field e =
    ap (λ ns. unwrap_or (option_and_then (position (λ n. is_same n field.text)) (slice_get ns (struct_behind type))) 0) e
    ∙ ap (λ (o : Option ℕ). unwrap_or o 0) (in_structs t field.text t.structs (struct_behind type))
