-- The fault that is known of several.
use Rattle.std.specs.Prelude.{ℕ, Bool, ◌==◌, ◌&&◌, ◌||◌, nat_lt, nat_le, List, [], ◌∷◌, Option, Some, None, cond}
use Rattle.mc_base.specs.declared.text.place.Place.{Place}
use Rattle.mc_c_types.specs.declared.faults.Fault.{Fault}
use Rattle.mc_c_types.specs.declared.faults.FaultName.{FaultName}
use Rattle.mc_c_types.specs.declared.faults.FaultName.TheVariants as FaultName

-- the numbers of the faults
abbrev pub number_of : FaultName → ℕ
number_of FaultName.Unknown = 1
number_of FaultName.Mismatch = 2
number_of FaultName.Twice = 3
number_of FaultName.Recursion = 4
number_of FaultName.NoEntry = 5
number_of FaultName.BadSizeof = 6
number_of FaultName.Arity = 7

-- the first is known rather than the second: it stands before it in the text, or at the same place with a number that is not greater
abbrev pub is_told : Fault → Fault → Bool
is_told f g =
    nat_lt f.place.line g.place.line ||
    (f.place.line == g.place.line &&
    (nat_lt f.place.column g.place.column
    || (f.place.column == g.place.column && nat_le (number_of f.name) (number_of g.name))))

-- the one that is known of one, if there is one, and these
abbrev pub told_of : Option Fault → List Fault → Option Fault
told_of told [] = told
told_of None (fault ∷ faults) = told_of (Some fault) faults
told_of (Some told) (fault ∷ faults) = told_of (Some (cond (is_told told fault) told fault)) faults
