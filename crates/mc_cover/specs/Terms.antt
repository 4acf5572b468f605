-- What is known of terms, and terms for the names of a rule.
use Rattle.std.specs.Prelude.{◌-ℤ◌, ◌++◌, List, [], ◌∷◌, Bool, true, false}
use Rattle.std.specs.List.{list_all}
use Rattle.mc_base.specs.declared.plain.Atom.TheVariants as atom
use Rattle.mc_base.specs.declared.plain.Kind.{Kind}
use Rattle.mc_flow.specs.declared.defs.rules.DefAtom.{DefAtom}
use Rattle.mc_flow.specs.declared.defs.rules.DefAtom.TheVariants.{Eq, Ne, In}
use Rattle.mc_pure.specs.Pure.{low_of, high_of}
use Rattle.mc_state.specs.declared.terms.Term.{Term}
use Rattle.mc_state.specs.Terms.{plus, base_term, atom_on}
use Rattle.mc_state.specs.Known.{Test}
use Rattle.mc_state.specs.Lists.{all_both}

-- the terms are known to be equal
abbrev pub equal_terms : Test → Term → Term → Bool
equal_terms know t u = know (atom.Eq t.node u.node (u.add -ℤ t.add))

-- the terms of two lists are, one by one
abbrev pub all_equal_terms : Test → List Term → List Term → Bool
all_equal_terms know = all_both (equal_terms know)

-- the term is known to lie in the range of a kind
abbrev pub lies_in : Test → Kind → Term → Bool
lies_in know kind t = know (atom.In t.node (low_of kind -ℤ t.add) (high_of kind -ℤ t.add))

-- there is one term for each kind, and it lies in its range
abbrev pub all_lie_in : Test → List Kind → List Term → Bool
all_lie_in know = all_both (lies_in know)

-- the atoms of a rule are known, with terms for its names
abbrev pub atoms_known : Test → List Term → List DefAtom → Bool
atoms_known know names atoms = list_all (λ a. know (atom_on names a)) atoms

-- the terms of a rule's names, from those of the first of them on: each atom that introduces a name gives it its sum
abbrev pub with_fixed : List Term → List DefAtom → List Term
with_fixed names [] = names
with_fixed names (Eq left base add true ∷ atoms) = with_fixed (names ++ plus (base_term names base) add ∷ []) atoms
with_fixed names (Eq left base add false ∷ atoms) = with_fixed names atoms
with_fixed names (Ne left base add ∷ atoms) = with_fixed names atoms
with_fixed names (In left lo hi ∷ atoms) = with_fixed names atoms
