-- Changes one after the other are changes at once.
use Rattle.std.specs.Prelude.{◌≡◌, ◌<◌, ◌+◌, ℕ, suc, List, [], ◌∷◌, ◌++◌, drop, length, pos}
use Rattle.std.specs.List.{AllByRecursion}
use Rattle.std.proofs.Common.{ap, get_or, subst}
use Rattle.std.proofs.lemmas.List.{append_assoc, drop_more}
use Rattle.mc_base.specs.declared.plain.Atom.{Atom}
use Rattle.mc_base.specs.declared.plain.Atom.TheVariants.{In}
use Rattle.mc_base.specs.Nodes.{null}
use Rattle.mc_pure.specs.Pure.{IsWellFormed}
use Rattle.mc_state.specs.State.{State, with_atom, with_atoms}

-- an atom, and others after it
pub after_atom : (s : State) (a : Atom) (as' : List Atom) → with_atoms (with_atom s a) as' ≡ with_atoms s (a ∷ as')
after_atom s a as' = ap (λ atoms. record s { atoms = atoms }) (append_assoc s.atoms (a ∷ []) as')

-- what holds of all items from a place on holds of the item there and of those after it
pub all_more : {X : Type 0} (P : X → Type 0) (xs : List X) (i : ℕ) (d : X) → i < length xs → AllByRecursion P (drop i xs) → P (get_or xs i d) × AllByRecursion P (drop (i + 1) xs)
all_more P xs i d inside all = subst (AllByRecursion P) (drop_more xs i d inside) all
