-- Which disequalities may still ask something.
use Rattle.std.specs.Prelude.{◌≡◌, ◌⊎◌, List}
use Rattle.mc_base.specs.declared.plain.Atom.{Atom}
use Rattle.mc_base.specs.declared.plain.Atom.TheVariants.{Eq, Ne, In}
use Rattle.mc_pure.specs.declared.rows.Row.{Row}
use Rattle.mc_pure.specs.declared.scope.Scope.{Scope}
use Rattle.mc_pure.specs.declared.scope.Scope.TheVariants.{All, Class}
use Rattle.mc_pure.specs.Pure.{Pure, Base}
use Rattle.mc_pure.specs.Rows.{row_at, Settled}

-- a row is of a class that is looked at
abbrev pub IsWithin : Scope → Row → Type 0
IsWithin All r = Unit {0}
IsWithin (Class k) r = r.rep ≡ k

-- a disequality touches such a class
abbrev pub Touches : List Row → Scope → Atom → Type 0
Touches rows scope (Eq a b c) = ⊥
Touches rows scope (In a lo hi) = ⊥
Touches rows scope (Ne a b c) = IsWithin scope (row_at rows a) ⊎ IsWithin scope (row_at rows b)

-- all that is known is settled, but for disequalities that touch such a class
abbrev pub SettledElsewhere : Pure → List Row → Scope → Type 0
SettledElsewhere p rows scope = (f : Atom) → Base p f → Settled p rows f ⊎ Touches rows scope f

-- and but for one atom
abbrev pub SettledElsewhereBut : Pure → List Row → Scope → Atom → Type 0
SettledElsewhereBut p rows scope atom = (f : Atom) → Base p f → Settled p rows f ⊎ (Touches rows scope f ⊎ (f ≡ atom))
