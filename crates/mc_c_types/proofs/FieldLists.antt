-- The fields of a struct, one base after another.
use Rattle.std.proofs.Common.{◌≡◌, ℕ, List, [], ◌∷◌, ◌++◌, ◌+◌, ◌<◌, refl, ap, sym, map, flat_map, drop, get_or, length, Some, None, arith}
use Rattle.mc_c_syntax.specs.declared.ast.trees.Field.{Field}
use Rattle.mc_c_syntax.specs.Ast.Views.{field_of}
use Rattle.mc_c_types.specs.Tables.{Tables, Variable, type_in, variables_of}
use Rattle.mc_c_types.specs.declared.types.VariableType.{VariableType}
use Rattle.mc_c_types.proofs.Finds.{type_in-here, type_in-later, drop_at}

-- what is left of the fields from a place on
abbrev pub rest_of : Tables → List Field → ℕ → List Variable
rest_of t fields i = flat_map (variables_of t) (map field_of (drop i fields))

pub found_here : (t : Tables) (fields : List Field) (i : ℕ) (x : Field) (name : List ℕ) (type : VariableType)
    → i < length fields → x ≡ get_or fields i x → type_in (variables_of t (field_of x)) name ≡ Some type → type_in (rest_of t fields i) name ≡ Some type
found_here t fields i x name type below is e =
    rw (drop_at fields i x below is) (type_in-here (variables_of t (field_of x)) (rest_of t fields (i + 1)) name type e)

pub found_later : (t : Tables) (fields : List Field) (i : ℕ) (x : Field) (name : List ℕ)
    → i < length fields → x ≡ get_or fields i x → type_in (variables_of t (field_of x)) name ≡ None → type_in (rest_of t fields i) name ≡ type_in (rest_of t fields (i + 1)) name
found_later t fields i x name below is e =
    rw (drop_at fields i x below is) (type_in-later (variables_of t (field_of x)) (rest_of t fields (i + 1)) name e)
