-- The disequalities among atoms.
use Rattle.std.specs.Prelude.{Bool, true, false, List, [], ◌∷◌, cond}
use Rattle.mc_base.specs.declared.plain.Atom.{Atom}
use Rattle.mc_base.specs.declared.plain.Atom.TheVariants.{Eq, Ne, In}

-- the atom is a disequality
abbrev pub is_apart : Atom → Bool
is_apart (Eq a b c) = false
is_apart (Ne a b c) = true
is_apart (In a lo hi) = false

-- the disequalities of a list, in order
abbrev pub apart_of : List Atom → List Atom
apart_of [] = []
apart_of (f ∷ atoms) = cond (is_apart f) (f ∷ apart_of atoms) (apart_of atoms)
