-- The values of a rule's names at its nodes, and nodes that are there.
use Rattle.std.proofs.Common.{◌≡◌, ◌<◌, ℕ, zero, suc, ℤ, pos, Bool, true, false, Option, Some, None, List, [], ◌∷◌, ◌++◌, map, length, drop, get_or, refl, sym, ◌∙◌, ap, subst, inl, inr, eqb-true, arith}
use Rattle.std.specs.Prelude.{◌==◌, if◌then◌else◌}
use Rattle.std.specs.List.{AllByRecursion}
use Rattle.std.proofs.Math.ListN.{get_or-map}
use Rattle.mc_base.specs.declared.ids.NodeId.{NodeId}
use Rattle.mc_base.specs.declared.plain.Kind.{Kind}
use Rattle.mc_base.specs.declared.plain.Kind.TheVariants.{Ptr}
use Rattle.mc_base.specs.Atoms.{IsTrueAtom, nodes_of_atom}
use Rattle.mc_base.specs.Nodes.{Valuation, at_node, null}
use Rattle.mc_flow.specs.declared.defs.rules.DefAtom.{DefAtom}
use Rattle.mc_flow.specs.declared.defs.rules.DefAtom.TheVariants.{Eq, Ne, In}
use Rattle.mc_flow.specs.Defs.Instances.{node_of, base_node, atom_of}
use Rattle.mc_flow.specs.Defs.Values as named
use Rattle.mc_flow.specs.Defs.Values.{value_of, base_of, InKinds}
use Rattle.mc_pure.specs.Pure.{Kinds, IsNode, kind_of}
use Rattle.mc_state.specs.Fits.{NodesAscend, AreNodes}

module _ (v : Valuation) (nodes : List NodeId) (zero_is : v 0 ≡ pos 0) where
  -- the value of a name is that of its node
  name_value : (name : ℕ) → value_of (map (at_node v) nodes) name ≡ v (node_of nodes name).0
  name_value name = ap (λ d. get_or (map (at_node v) nodes) name d) (sym zero_is) ∙ get_or-map (at_node v) nodes name null

  base_value : (base : Option ℕ) → base_of (map (at_node v) nodes) base ≡ v (base_node nodes base).0
  base_value None = sym zero_is
  base_value (Some name) = name_value name

  atom_true : (a : DefAtom) → named.IsTrueAtom (map (at_node v) nodes) a → IsTrueAtom v (atom_of nodes a)
  atom_true (Eq left base add fixes) t = rw (sym (name_value left), sym (base_value base)) t
  atom_true (Ne left base add) t = rw (sym (name_value left), sym (base_value base)) t
  atom_true (In left lo hi) t = rw (sym (name_value left)) t

  pub atoms_true : (atoms : List DefAtom) → AllByRecursion (named.IsTrueAtom (map (at_node v) nodes)) atoms → AllByRecursion (IsTrueAtom v) (map (atom_of nodes) atoms)
  atoms_true [] t = tt
  atoms_true (a ∷ atoms) t = (atom_true a t.0, atoms_true atoms t.1)

-- one number for each kind
pub numbers_count : (kinds : List Kind) (numbers : List ℤ) → InKinds kinds numbers → length kinds ≡ length numbers
numbers_count [] [] t = refl
numbers_count [] (z ∷ numbers) t = absurd t
numbers_count (kind ∷ kinds) [] t = absurd t
numbers_count (kind ∷ kinds) (z ∷ numbers) t = ap suc (numbers_count kinds numbers t.1)

-- and after some of them for each other one
pub numbers_behind : (front rest : List ℤ) (kinds : List Kind) → InKinds kinds (front ++ rest) → InKinds (drop (length front) kinds) rest
numbers_behind [] rest kinds t = t
numbers_behind (z ∷ front) rest [] t = absurd t
numbers_behind (z ∷ front) rest (kind ∷ kinds) t = numbers_behind front rest kinds t.1

-- nodes that are there have numbers below one that nodes stay below
kind_below : (low high : ℕ) (kinds : Kinds) (n : NodeId) (kind : Kind) → NodesAscend low kinds high → kind_of kinds n ≡ Some kind → n.0 < high
kind_below low high [] n kind a e = cc
kind_below low high (k ∷ kinds) n kind a e = at (λ more. kind_below (suc k.0.0) high kinds n kind a.2 more) (k.0.0 == n.0) refl e
  where
    at : (kind_of kinds n ≡ Some kind → n.0 < high) → (here : Bool) → (k.0.0 == n.0) ≡ here → (if here then Some k.1 else kind_of kinds n) ≡ Some kind → n.0 < high
    at rest true t e = let same : k.0.0 ≡ n.0 = eqb-true k.0.0 n.0 t in omega (arith, a.1)
    at rest false t e = rest e

pub node_below : (low high : ℕ) (kinds : Kinds) (n : NodeId) → 0 < high → NodesAscend low kinds high → IsNode kinds n → n.0 < high
node_below low high kinds n positive ascend there = elim there.1 [
  | inl e ↦ subst (λ (m : NodeId). m.0 < high) (sym e) positive
  | inr e ↦ kind_below low high kinds n there.0 ascend e
]

-- the nodes of names are there
pub name_there : (kinds : Kinds) (nodes : List NodeId) (name : ℕ) → AreNodes kinds nodes → IsNode kinds (node_of nodes name)
name_there kinds [] name a = (Ptr, inl refl)
name_there kinds (n ∷ nodes) zero a = a.0
name_there kinds (n ∷ nodes) (suc name) a = name_there kinds nodes name a.1

base_there : (kinds : Kinds) (nodes : List NodeId) (base : Option ℕ) → AreNodes kinds nodes → IsNode kinds (base_node nodes base)
base_there kinds nodes None a = (Ptr, inl refl)
base_there kinds nodes (Some name) a = name_there kinds nodes name a

pub names_there : (kinds : Kinds) (nodes : List NodeId) (names : List ℕ) → AreNodes kinds nodes → AreNodes kinds (map (node_of nodes) names)
names_there kinds nodes [] a = tt
names_there kinds nodes (name ∷ names) a = (name_there kinds nodes name a, names_there kinds nodes names a)

pub atom_there : (kinds : Kinds) (nodes : List NodeId) (atom : DefAtom) → AreNodes kinds nodes → AreNodes kinds (nodes_of_atom (atom_of nodes atom))
atom_there kinds nodes (Eq left base add fixes) a = (name_there kinds nodes left a, (base_there kinds nodes base a, tt))
atom_there kinds nodes (Ne left base add) a = (name_there kinds nodes left a, (base_there kinds nodes base a, tt))
atom_there kinds nodes (In left lo hi) a = (name_there kinds nodes left a, tt)
