-- Atoms that are written one after the other.
use Rattle.std.proofs.Common.{◌≡◌, List, [], ◌∷◌, ◌++◌, ap, ◌∙◌, append_assoc}
use Rattle.std.proofs.lemmas.List.{append-nil}
use Rattle.mc_base.specs.declared.plain.Atom.{Atom}
use Rattle.mc_state.specs.State.{State, with_atom, with_atoms}

pub no_atoms : (s : State) → with_atoms s [] ≡ s
no_atoms s = ap (λ (atoms : List Atom). record s { atoms = atoms }) (append-nil s.atoms)

pub more_atoms : (s : State) (xs ys : List Atom) → with_atoms (with_atoms s xs) ys ≡ with_atoms s (xs ++ ys)
more_atoms s xs ys = ap (λ (atoms : List Atom). record s { atoms = atoms }) (append_assoc s.atoms xs ys)

pub two_atoms : (s : State) (f g : Atom) → with_atom (with_atom s f) g ≡ with_atoms s (f ∷ g ∷ [])
two_atoms s f g = more_atoms s (f ∷ []) (g ∷ [])

pub three_atoms : (s : State) (f g h : Atom) → with_atom (with_atom (with_atom s f) g) h ≡ with_atoms s (f ∷ g ∷ h ∷ [])
three_atoms s f g h = ap (λ (t : State). with_atom t h) (two_atoms s f g) ∙ more_atoms s (f ∷ g ∷ []) (h ∷ [])
