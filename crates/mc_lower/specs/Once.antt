-- Variables of which no two have one owner.
use Rattle.std.specs.Prelude.{◌≡◌, ℕ, List, Some, slice_get}
use Rattle.mc_lower.specs.declared.variables.Owner.{Owner as OwnerCode}
use Rattle.mc_lower.specs.declared.variables.Variable.{Variable}

-- no two variables have one owner
abbrev pub AreOnce : List Variable → Type 0
AreOnce variables =
    (i j : ℕ) (v u : Variable) → slice_get variables i ≡ Some v → slice_get variables j ≡ Some u → v.owner ≡ u.owner
    → i ≡ j

-- none of these variables has this owner
abbrev pub IsNew : List Variable → OwnerCode → Type 0
IsNew variables owner = (i : ℕ) (v : Variable) → slice_get variables i ≡ Some v → v.owner ≡ owner → ⊥
