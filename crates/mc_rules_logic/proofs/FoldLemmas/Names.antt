-- The values of a rule's names at its nodes, and nodes that are there.
use Rattle.std.proofs.Common.{◌≡◌, ◌<◌, ℕ, zero, suc, pos, Bool, true, false, Option, Some, None, List, [], ◌∷◌, map, get_or, refl, sym, ◌∙◌, ap, ap₂, subst, inl, inr, eqb-true, arith}
use Rattle.std.specs.Prelude.{◌==◌, if◌then◌else◌}
use Rattle.std.specs.List.{AllByRecursion}
use Rattle.std.proofs.Math.ListN.{get_or-map}
use Rattle.std.proofs.lemmas.Int.{ints}
use Rattle.mc_base.specs.declared.ids.NodeId.{NodeId}
use Rattle.mc_base.specs.declared.plain.Kind.{Kind}
use Rattle.mc_base.specs.declared.plain.Kind.TheVariants.{Int, Ptr}
use Rattle.mc_base.specs.Atoms.{IsTrueAtom}
use Rattle.mc_base.specs.Kinds.{InKind}
use Rattle.mc_base.specs.Nodes.{Valuation, at_node, null}
use Rattle.mc_flow.specs.declared.defs.rules.DefAtom.{DefAtom}
use Rattle.mc_flow.specs.declared.defs.rules.DefAtom.TheVariants.{Eq, Ne, In}
use Rattle.mc_flow.specs.Defs.Instances.{node_of, base_node, atom_of}
use Rattle.mc_flow.specs.Defs.Values as named
use Rattle.mc_flow.specs.Defs.Values.{value_of, base_of, InKinds}
use Rattle.mc_pure.specs.Pure.{Kinds, HasKind, IsNode, kind_of}
use Rattle.mc_state.specs.Fits.{NodesAscend, AreNodes, HaveKinds}

module _ (v : Valuation) (nodes : List NodeId) (zero_is : v 0 ≡ pos 0) where
  -- the value of a name is that of its node
  pub name_value : (name : ℕ) → value_of (map (at_node v) nodes) name ≡ v (node_of nodes name).0
  name_value name = ap (λ d. get_or (map (at_node v) nodes) name d) (sym zero_is) ∙ get_or-map (at_node v) nodes name null

  pub name_values : (names : List ℕ) → map (value_of (map (at_node v) nodes)) names ≡ map (at_node v) (map (node_of nodes) names)
  name_values [] = refl
  name_values (name ∷ names) = ap₂ (λ z zs. z ∷ zs) (name_value name) (name_values names)

  base_value : (base : Option ℕ) → base_of (map (at_node v) nodes) base ≡ v (base_node nodes base).0
  base_value None = sym zero_is
  base_value (Some name) = name_value name

  pub atom_true : (a : DefAtom) → IsTrueAtom v (atom_of nodes a) → named.IsTrueAtom (map (at_node v) nodes) a
  atom_true (Eq left base add fixes) t = rw (name_value left, base_value base) t
  atom_true (Ne left base add) t = rw (name_value left, base_value base) t
  atom_true (In left lo hi) t = rw (name_value left) t

-- zero is of each kind
zero_in : (kind : Kind) → InKind kind (pos 0)
zero_in Int = (omega (arith, ints), omega (arith, ints))
zero_in Ptr = (omega (arith, ints), omega (arith, ints))

-- a node that is there and not null is one of the list
module _ (P : NodeId → Kind → Type 0) where
  pub listed : (kinds : Kinds) (n : NodeId) (kind : Kind) → AllByRecursion (λ k. P k.0 k.1) kinds → kind_of kinds n ≡ Some kind → P n kind
  listed [] n kind a e = cc
  listed (k ∷ kinds) n kind a e = at (λ more. listed kinds n kind a.1 more) (k.0.0 == n.0) refl e
    where
      at : (kind_of kinds n ≡ Some kind → P n kind) → (here : Bool) → (k.0.0 == n.0) ≡ here → (if here then Some k.1 else kind_of kinds n) ≡ Some kind → P n kind
      at rest true t e =
          let same : k.0 ≡ n = ap (λ (m : ℕ). record { 0 = m }) (eqb-true k.0.0 n.0 t) in
          let both : k.1 ≡ kind = cc in
          subst (λ m. P m kind) same (subst (P k.0) both a.0)
      at rest false t e = rest e

-- its value lies in the range of its kind
pub in_kind : (v : Valuation) (kinds : Kinds) (kind : Kind) (n : NodeId) → v 0 ≡ pos 0 → AllByRecursion (λ k. InKind k.1 (v k.0.0)) kinds → HasKind kinds kind n → InKind kind (v n.0)
in_kind v kinds kind n zero_is a has = elim has [
  | inl e ↦ let value : v n.0 ≡ pos 0 = ap (λ (m : NodeId). v m.0) e ∙ zero_is in subst (InKind kind) (sym value) (zero_in kind)
  | inr e ↦ listed (λ m k. InKind k (v m.0)) kinds n kind a e
]

pub in_kinds : (v : Valuation) (kinds : Kinds) (names : List Kind) (nodes : List NodeId) → v 0 ≡ pos 0 → AllByRecursion (λ k. InKind k.1 (v k.0.0)) kinds → HaveKinds kinds names nodes → InKinds names (map (at_node v) nodes)
in_kinds v kinds [] [] zero_is a has = tt
in_kinds v kinds [] (n ∷ nodes) zero_is a has = absurd has
in_kinds v kinds (kind ∷ names) [] zero_is a has = absurd has
in_kinds v kinds (kind ∷ names) (n ∷ nodes) zero_is a has = (in_kind v kinds kind n zero_is a has.0, in_kinds v kinds names nodes zero_is a has.1)

-- nodes of kinds are there
pub kinds_there : (kinds : Kinds) (names : List Kind) (nodes : List NodeId) → HaveKinds kinds names nodes → AreNodes kinds nodes
kinds_there kinds [] [] has = tt
kinds_there kinds [] (n ∷ nodes) has = absurd has
kinds_there kinds (kind ∷ names) [] has = absurd has
kinds_there kinds (kind ∷ names) (n ∷ nodes) has = ((kind, has.0), kinds_there kinds names nodes has.1)

-- numbers of nodes stay below the next one
kinds_below : (low high : ℕ) (kinds : Kinds) → NodesAscend low kinds high → AllByRecursion (λ k. k.0.0 < high) kinds
kinds_below low high [] a = tt
kinds_below low high (k ∷ kinds) a = (a.1, kinds_below (suc k.0.0) high kinds a.2)

pub node_below : (low high : ℕ) (kinds : Kinds) (n : NodeId) → 0 < high → NodesAscend low kinds high → IsNode kinds n → n.0 < high
node_below low high kinds n positive ascend there = elim there.1 [
  | inl e ↦ subst (λ (m : NodeId). m.0 < high) (sym e) positive
  | inr e ↦ listed (λ m k. m.0 < high) kinds n there.0 (kinds_below low high kinds ascend) e
]
