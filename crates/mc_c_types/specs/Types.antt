-- Types: which values fit where.
use Rattle.std.specs.Prelude.{ℕ, zero, suc, Bool, true, false, ◌==◌, ◌&&◌, List, [], ◌∷◌, Option, Some, None, is_some, is_none}
use Rattle.mc_base.specs.declared.text.place.Place.{Place}
use Rattle.mc_c_types.specs.declared.types.VariableType.{VariableType}
use Rattle.mc_c_types.specs.declared.types.VariableType.TheVariants.{Int, Pointer, Anything}
use Rattle.mc_c_types.specs.declared.types.ValueType.{ValueType}
use Rattle.mc_c_types.specs.declared.types.ValueType.TheVariants.{Typed, Zero, Null}
use Rattle.mc_c_types.specs.declared.types.BaseType.{BaseType}
use Rattle.mc_c_types.specs.declared.types.BaseType.TheVariants as BaseType

-- two types are one, as far as is known
abbrev pub agree : VariableType → VariableType → Bool
agree Anything given = true
agree Int Int = true
agree Int (Pointer s) = false
agree Int Anything = true
agree (Pointer s) Int = false
agree (Pointer s) (Pointer s') = s.0 == s'.0
agree (Pointer s) Anything = true

-- a value fits where a type is wanted; the literal 0 fits every type, and `NULL` every pointer
abbrev pub fits : VariableType → ValueType → Bool
fits wanted (Typed given) = agree wanted given
fits wanted Zero = true
fits Int Null = false
fits (Pointer s) Null = true
fits Anything Null = true

-- the type of a number
abbrev pub number_type : ℕ → ValueType
number_type zero = Zero
number_type (suc n) = Typed Int

-- a value is an `int`
abbrev pub is_int : ValueType → Bool
is_int value = fits Int value

-- a value is a pointer, to whatever struct
abbrev pub is_pointer : ValueType → Bool
is_pointer (Typed Int) = false
is_pointer (Typed (Pointer s)) = true
is_pointer (Typed Anything) = true
is_pointer Zero = true
is_pointer Null = true

-- two values can be compared by `==`
abbrev pub are_comparable : ValueType → ValueType → Bool
are_comparable (Typed left) right = fits left right
are_comparable Zero (Typed right) = true
are_comparable Zero Zero = true
are_comparable Zero Null = true
are_comparable Null (Typed right) = fits right Null
are_comparable Null Zero = true
are_comparable Null Null = true

-- a call's result fits where a type is wanted; nothing fits nowhere
abbrev pub result_fits : VariableType → Option VariableType → Bool
result_fits wanted None = false
result_fits wanted (Some given) = agree wanted given

-- memory for what a base means may be what a pointer of the wanted type points to
abbrev pub allocates : VariableType → BaseType → Bool
allocates wanted (BaseType.Typed Int) = false
allocates wanted (BaseType.Typed (Pointer s)) = false
allocates wanted (BaseType.Typed Anything) = is_pointer (Typed wanted)
allocates wanted (BaseType.Struct s) = is_pointer (Typed wanted) && agree wanted (Pointer s)
allocates wanted BaseType.Undefined = is_pointer (Typed wanted)

-- a variable, field, parameter or result can be declared with a base that means this, and perhaps a `*`: no struct itself, and no pointer to an `int` or a pointer
abbrev pub is_declarable : BaseType → Option Place → Bool
is_declarable (BaseType.Typed Int) star = is_none star
is_declarable (BaseType.Typed (Pointer s)) star = is_none star
is_declarable (BaseType.Typed Anything) star = true
is_declarable (BaseType.Struct s) star = is_some star
is_declarable BaseType.Undefined star = is_some star

-- as many types, and they agree one by one
abbrev pub all_agree : List VariableType → List VariableType → Bool
all_agree [] [] = true
all_agree [] (given ∷ more) = false
all_agree (wanted ∷ more) [] = false
all_agree (wanted ∷ more) (given ∷ others) = agree wanted given && all_agree more others
