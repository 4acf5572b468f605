-- Types that are known, and the kinds of their values.
use Rattle.std.proofs.Common.{◌≡◌, ◌<◌, ℕ, Bool, true, false, refl, arith, eq-eqb, List, [], ◌∷◌, ◌++◌}
use Rattle.mc_base.specs.declared.ids.StructId.{StructId}
use Rattle.mc_base.specs.declared.text.place.Place.{Place}
use Rattle.mc_c_types.specs.Types.{agree, fits, is_pointer, are_comparable}
use Rattle.mc_c_types.specs.Tables.{kind_of}
use Rattle.mc_c_types.specs.Faults.{unless}
use Rattle.mc_c_types.specs.declared.types.VariableType.{VariableType}
use Rattle.mc_c_types.specs.declared.types.VariableType.TheVariants.{Int, Pointer, Anything}
use Rattle.mc_c_types.specs.declared.types.ValueType.{ValueType}
use Rattle.mc_c_types.specs.declared.types.ValueType.TheVariants.{Typed, Zero, Null}
use Rattle.mc_c_types.specs.declared.faults.FaultName.{FaultName}

-- ---- lists
abbrev pub Each : {X : Type 0} → (X → Type 0) → List X → Type 0
Each P [] = Unit {0}
Each P (x ∷ xs) = P x × Each P xs

pub each_left : {X : Type 0} (P : X → Type 0) (xs ys : List X) → Each P (xs ++ ys) → Each P xs
each_left P [] ys all = tt
each_left P (x ∷ xs) ys all = (all.0, each_left P xs ys all.1)

pub each_right : {X : Type 0} (P : X → Type 0) (xs ys : List X) → Each P (xs ++ ys) → Each P ys
each_right P [] ys all = all
each_right P (x ∷ xs) ys all = each_right P xs ys all.1

pub each_both : {X : Type 0} (P : X → Type 0) (xs ys : List X) → Each P xs → Each P ys → Each P (xs ++ ys)
each_both P [] ys first second = second
each_both P (x ∷ xs) ys first second = (first.0, each_both P xs ys first.1 second)

-- ---- known types
abbrev pub IsDefinite : VariableType → Type 0
IsDefinite Int = Unit {0}
IsDefinite (Pointer s) = Unit {0}
IsDefinite Anything = ⊥

-- with so many structs
abbrev pub IsProper : ℕ → VariableType → Type 0
IsProper count Int = Unit {0}
IsProper count (Pointer s) = s.0 < count
IsProper count Anything = ⊥

pub definite : (count : ℕ) (type : VariableType) → IsProper count type → IsDefinite type
definite count Int proper = tt
definite count (Pointer s) proper = tt
definite count Anything proper = absurd proper

pub false_true : false ≡ true → ⊥
false_true e = grind (arith, e)

pub agreed : (wanted given : VariableType) → IsDefinite wanted → IsDefinite given → agree wanted given ≡ true → kind_of wanted ≡ kind_of given
agreed Int Int p q e = refl
agreed Int (Pointer s) p q e = absurd (false_true e)
agreed Int Anything p q e = absurd q
agreed (Pointer s) Int p q e = absurd (false_true e)
agreed (Pointer s) (Pointer r) p q e = refl
agreed (Pointer s) Anything p q e = absurd q
agreed Anything given p q e = absurd p

pub agree_self : (type : VariableType) → agree type type ≡ true
agree_self Int = refl
agree_self (Pointer s) = eq-eqb s.0 s.0 refl
agree_self Anything = refl

-- ---- values
abbrev pub IsDefiniteValue : ValueType → Type 0
IsDefiniteValue (Typed type) = IsDefinite type
IsDefiniteValue Zero = Unit {0}
IsDefiniteValue Null = Unit {0}

-- a type that values fit
pub record Fitting (value : ValueType) : Type 0 where
  pub type : VariableType
  pub definite : IsDefinite type
  pub fits : fits type value ≡ true

pub fitting : (value : ValueType) → IsDefiniteValue value → Fitting value
fitting (Typed type) known = record { type = type; definite = known; fits = agree_self type }
fitting Zero known = record { type = Int; definite = tt; fits = refl }
fitting Null known = let s : StructId = record { 0 = 0 } in record { type = Pointer s; definite = tt; fits = refl }

pub record FittingPointer (value : ValueType) : Type 0 where
  pub struct : StructId
  pub fits : fits (Pointer struct) value ≡ true

pub fitting_pointer : (value : ValueType) → IsDefiniteValue value → is_pointer value ≡ true → FittingPointer value
fitting_pointer (Typed Int) known e = absurd (false_true e)
fitting_pointer (Typed (Pointer s)) known e = record { struct = s; fits = agree_self (Pointer s) }
fitting_pointer (Typed Anything) known e = absurd known
fitting_pointer Zero known e = record { struct = record { 0 = 0 }; fits = refl }
fitting_pointer Null known e = record { struct = record { 0 = 0 }; fits = refl }

pub record FittingBoth (left right : ValueType) : Type 0 where
  pub type : VariableType
  pub definite : IsDefinite type
  pub left_fits : fits type left ≡ true
  pub right_fits : fits type right ≡ true

pub fitting_both : (left right : ValueType) → IsDefiniteValue left → IsDefiniteValue right → are_comparable left right ≡ true → FittingBoth left right
fitting_both (Typed type) right known other e = record { type = type; definite = known; left_fits = agree_self type; right_fits = e }
fitting_both Zero (Typed type) known other e = record { type = type; definite = other; left_fits = refl; right_fits = agree_self type }
fitting_both Zero Zero known other e = record { type = Int; definite = tt; left_fits = refl; right_fits = refl }
fitting_both Zero Null known other e = let s : StructId = record { 0 = 0 } in record { type = Pointer s; definite = tt; left_fits = refl; right_fits = refl }
fitting_both Null (Typed type) known other e = record { type = type; definite = other; left_fits = e; right_fits = agree_self type }
fitting_both Null Zero known other e = let s : StructId = record { 0 = 0 } in record { type = Pointer s; definite = tt; left_fits = refl; right_fits = refl }
fitting_both Null Null known other e = let s : StructId = record { 0 = 0 } in record { type = Pointer s; definite = tt; left_fits = refl; right_fits = refl }

-- ---- faults
pub kept : (b : Bool) (name : FaultName) (place : Place) → unless b name place ≡ [] → b ≡ true
kept true name place e = refl
kept false name place e = absurd (cc)
