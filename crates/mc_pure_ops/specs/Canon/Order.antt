-- The order of atoms, and what a list gains.
use Rattle.std.specs.Prelude.{◌≡◌, ℕ, suc, ◌<◌, ◌≤◌, ℤ, pos, ◌<ℤ◌, ◌⊎◌, List, [], ◌∷◌, Some, None, Option, slice_get, length}
use Rattle.mc_base.specs.declared.plain.Atom.{Atom}
use Rattle.mc_base.specs.declared.plain.Atom.TheVariants.{Eq, Ne, In}
use Rattle.mc_pure_ops.specs.declared.canon.order.Key.{Key}
use Rattle.mc_pure_ops.specs.declared.canon.order.Place.{Place}
use Rattle.mc_pure_ops.specs.declared.canon.order.Place.TheVariants.{Before, Same, After}
use Rattle.mc_pure_ops.specs.declared.canon.order.Spot.{Spot}
use Rattle.mc_pure_ops.specs.declared.canon.order.Spot.TheVariants.{There, At}

-- the atom stands at a place of the list
abbrev pub Among : List Atom → Atom → Type 0
Among atoms f = (i : ℕ) × (slice_get atoms i ≡ Some f)

-- ranges first, then equalities, then disequalities
abbrev pub key : Atom → Key
key (In a lo hi) = record { rank = 0; node = a.0; second = lo; third = hi }
key (Eq a b c) = record { rank = 1; node = a.0; second = pos b.0; third = c }
key (Ne a b c) = record { rank = 2; node = a.0; second = pos b.0; third = c }

-- by rank, then by the first node, the second part and the third
abbrev pub KeyBefore : Key → Key → Type 0
KeyBefore p q =
    (p.rank < q.rank)
    ⊎ ((p.rank ≡ q.rank) × ((p.node < q.node)
    ⊎ ((p.node ≡ q.node) × ((p.second <ℤ q.second) ⊎ ((p.second ≡ q.second) × (p.third <ℤ q.third))))))

-- where a key stands to another
abbrev pub PlaceIs : Key → Key → Place → Type 0
PlaceIs p q Before = KeyBefore p q
PlaceIs p q Same = (p.rank ≡ q.rank) × (p.node ≡ q.node) × (p.second ≡ q.second) × (p.third ≡ q.third)
PlaceIs p q After = KeyBefore q p

-- by the atoms' keys
abbrev pub IsBefore : Atom → Atom → Type 0
IsBefore f g = KeyBefore (key f) (key g)

-- each comes before the next
abbrev pub AreSorted : List Atom → Type 0
AreSorted [] = Unit {0}
AreSorted (f ∷ []) = Unit {0}
AreSorted (f ∷ g ∷ fs) = IsBefore f g × AreSorted (g ∷ fs)

-- the atoms at the places before this one and at it leave room for the atom between them
abbrev pub FitsAfter : List Atom → Atom → ℕ → Type 0
FitsAfter fs f i = (k : ℕ) (g : Atom) → suc k ≡ i → slice_get fs k ≡ Some g → IsBefore g f

-- the atom comes before the one at the place
abbrev pub FitsBefore : List Atom → Atom → ℕ → Type 0
FitsBefore fs f i = (g : Atom) → slice_get fs i ≡ Some g → IsBefore f g

-- the place of an atom in a list
abbrev pub SpotIs : List Atom → Atom → Spot → Type 0
SpotIs fs f There = Among fs f
SpotIs fs f (At i) = (i ≤ length fs) × FitsAfter fs f i × FitsBefore fs f i

-- the list, still in order, gains exactly these atoms
pub record Added (P : Atom → Type 0) (old new : List Atom) : Type 0 where
  pub order : AreSorted old → AreSorted new
  pub from : (g : Atom) → Among new g → Among old g ⊎ P g
  pub kept : (g : Atom) → Among old g → Among new g
  pub added : (g : Atom) → P g → Among new g

-- what an option holds
abbrev pub IsSomeOf : Option Atom → Atom → Type 0
IsSomeOf None g = ⊥
IsSomeOf (Some f) g = g ≡ f

-- exactly this atom, or none
abbrev pub GivesAtMost : (Atom → Type 0) → Option Atom → Type 0
GivesAtMost P None = (g : Atom) → P g → ⊥
GivesAtMost P (Some f) = P f × ((g : Atom) → P g → g ≡ f)
