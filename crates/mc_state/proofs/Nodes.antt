-- Which nodes are there, and their kinds.
use Rattle.std.proofs.Common.{◌≡◌, ◌≢◌, ◌+◌, ◌<◌, ◌≤◌, ◌⊎◌, ℕ, suc, List, [], ◌∷◌, ◌++◌, length, Bool, true, false, Some, refl, sym, ap, ap₂, ◌∙◌, subst, inl, inr, arith, eqb-true, eq-eqb}
use Rattle.std.specs.Prelude.{◌==◌, if◌then◌else◌}
use Rattle.std.specs.List.{AllByRecursion}
use Rattle.std.proofs.lemmas.Bool.{cases_eq, ne_eqb}
use Rattle.mc_base.specs.declared.ids.NodeId.{NodeId}
use Rattle.mc_base.specs.declared.plain.Kind.{Kind}
use Rattle.mc_base.specs.declared.plain.Kind.TheVariants.{Ptr}
use Rattle.mc_base.specs.Nodes.{null}
use Rattle.mc_pure.specs.Pure.{Kinds, HasKind, IsNode, kind_of}
use Rattle.mc_state.specs.State.{numbered_kinds, numbered_nodes}
use Rattle.mc_pure.specs.Whole.{kinds_without}
use Rattle.mc_state.specs.Fits.{NodesAscend, HaveKinds}
use Rattle.mc_state.proofs.Lists.{all_map, all_both}

pub same_node : (a b : NodeId) → a.0 ≡ b.0 → a ≡ b
same_node a b e = ap (λ (j : ℕ). let n : NodeId = record { 0 = j } in n) e

pub null_there : (kinds : Kinds) → IsNode kinds null
null_there kinds = (Ptr, inl refl)

-- the node is the first one of the list, or its kind is that in the others
pub first_or : (k : NodeId × Kind) (kinds : Kinds) (n : NodeId) (kind : Kind) → kind_of (k ∷ kinds) n ≡ Some kind → ((k.0.0 ≡ n.0) × (k.1 ≡ kind)) ⊎ (kind_of kinds n ≡ Some kind)
first_or k kinds n kind e = at (k.0.0 == n.0) refl e
  where
    at : (here : Bool) → (k.0.0 == n.0) ≡ here → (if here then Some k.1 else kind_of kinds n) ≡ Some kind → ((k.0.0 ≡ n.0) × (k.1 ≡ kind)) ⊎ (kind_of kinds n ≡ Some kind)
    at true t e = let same : k.1 ≡ kind = cc in inl (eqb-true k.0.0 n.0 t, same)
    at false t e = inr e

-- a kind that a node has stays one with a node more in front, if perhaps another
pub kind_more : (k : NodeId × Kind) (kinds : Kinds) (n : NodeId) (kind : Kind) → kind_of kinds n ≡ Some kind → (other : Kind) × (kind_of (k ∷ kinds) n ≡ Some other)
kind_more k kinds n kind e = at (k.0.0 == n.0)
  where
    at : (here : Bool) → (other : Kind) × ((if here then Some k.1 else kind_of kinds n) ≡ Some other)
    at true = (k.1, refl)
    at false = (kind, e)

pub node_more : (k : NodeId × Kind) (kinds : Kinds) (n : NodeId) → IsNode kinds n → IsNode (k ∷ kinds) n
node_more k kinds n there = elim there.1 [
  | inl e ↦ (Ptr, inl e)
  | inr e ↦ let more = kind_more k kinds n there.0 e in (more.0, inr more.1)
]

pub kind_here : (k : NodeId × Kind) (kinds : Kinds) → kind_of (k ∷ kinds) k.0 ≡ Some k.1
kind_here k kinds = let same : (k.0.0 == k.0.0) ≡ true = eq-eqb k.0.0 k.0.0 refl in rw same refl

-- each node of the list is there
pub listed_there : (kinds : Kinds) → AllByRecursion (λ (k : NodeId × Kind). IsNode kinds k.0) kinds
listed_there [] = tt
listed_there (k ∷ kinds) =
    ((k.1, inr (kind_here k kinds)), all_map (λ (j : NodeId × Kind). IsNode kinds j.0) (λ (j : NodeId × Kind). IsNode (k ∷ kinds) j.0) (λ j there. node_more k kinds j.0 there) kinds (listed_there kinds))

-- what holds of each node of the list and its kind holds of a node with its kind
pub kind_at : (P : NodeId × Kind → Type 0) (kinds : Kinds) (n : NodeId) (kind : Kind) → kind_of kinds n ≡ Some kind → AllByRecursion P kinds → P (n, kind)
kind_at P [] n kind e a = cc
kind_at P (k ∷ kinds) n kind e a = elim (first_or k kinds n kind e) [
  | inl same ↦ let both : k ≡ (n, kind) = ap₂ (λ (m : NodeId) (other : Kind). (m, other)) (same_node k.0 n same.0) same.1 in subst P both a.0
  | inr more ↦ kind_at P kinds n kind more a.1
]

-- nodes that are there are null or lie between two numbers
pub ascend_between : (low : ℕ) (kinds : Kinds) (high : ℕ) → NodesAscend low kinds high → AllByRecursion (λ (k : NodeId × Kind). (low ≤ k.0.0) × (k.0.0 < high)) kinds
ascend_between low [] high a = tt
ascend_between low (k ∷ kinds) high a =
    let first : low < suc k.0.0 = a.0 in
    ((omega arith, a.1), all_map (λ (j : NodeId × Kind). (suc k.0.0 ≤ j.0.0) × (j.0.0 < high)) (λ (j : NodeId × Kind). (low ≤ j.0.0) × (j.0.0 < high)) (λ j b. (omega arith, b.1)) kinds (ascend_between (suc k.0.0) kinds high a.2))

pub node_below : (kinds : Kinds) (low high : ℕ) (n : NodeId) → 0 < high → NodesAscend low kinds high → IsNode kinds n → n.0 < high
node_below kinds low high n positive ascend there = elim there.1 [
  | inl e ↦ subst (λ (m : NodeId). m.0 < high) (sym e) positive
  | inr e ↦ (kind_at (λ (k : NodeId × Kind). (low ≤ k.0.0) × (k.0.0 < high)) kinds n there.0 e (ascend_between low kinds high ascend)).1
]

-- ---- without one

pub all_without_node : (P : NodeId × Kind → Type 0) (kinds : Kinds) (n : NodeId) → AllByRecursion P kinds → AllByRecursion P (kinds_without kinds n)
all_without_node P [] n a = tt
all_without_node P (k ∷ kinds) n a = at (all_without_node P kinds n a.1) (k.0.0 == n.0)
  where
    at : AllByRecursion P (kinds_without kinds n) → (here : Bool) → AllByRecursion P (if here then kinds_without kinds n else k ∷ kinds_without kinds n)
    at rest true = rest
    at rest false = (a.0, rest)

-- a node after the first one
kind_behind : (k : NodeId × Kind) (kinds : Kinds) (n : NodeId) (kind : Kind) → k.0.0 ≢ n.0 → kind_of kinds n ≡ Some kind → kind_of (k ∷ kinds) n ≡ Some kind
kind_behind k kinds n kind differ e = let other : (k.0.0 == n.0) ≡ false = ne_eqb k.0.0 n.0 differ in rw other e

pub kind_kept : (kinds : Kinds) (gone n : NodeId) (kind : Kind) → n.0 ≢ gone.0 → kind_of kinds n ≡ Some kind → kind_of (kinds_without kinds gone) n ≡ Some kind
kind_kept [] gone n kind differ e = e
kind_kept (k ∷ kinds) gone n kind differ e = at (kind_kept kinds gone n kind differ) (k.0.0 == gone.0) refl
  where
    at : (kind_of kinds n ≡ Some kind → kind_of (kinds_without kinds gone) n ≡ Some kind) → (here : Bool) → (k.0.0 == gone.0) ≡ here → kind_of (if here then kinds_without kinds gone else k ∷ kinds_without kinds gone) n ≡ Some kind
    at more true t =
        let is : k.0.0 ≡ gone.0 = eqb-true k.0.0 gone.0 t in
        elim (first_or k kinds n kind e) [ inl same ↦ absurd (differ (sym same.0 ∙ is)) | inr rest ↦ more rest ]
    at more false t = elim (cases_eq k.0.0 n.0) [
      | inl is ↦ (let here : (k.0.0 == n.0) ≡ true = eq-eqb k.0.0 n.0 is in rw here (rw here at e))
      | inr other ↦ (let there : (k.0.0 == n.0) ≡ false = ne_eqb k.0.0 n.0 other in rw there (more (rw there at e)))
    ]

pub node_kept : (kinds : Kinds) (gone n : NodeId) → n.0 ≢ gone.0 → IsNode kinds n → IsNode (kinds_without kinds gone) n
node_kept kinds gone n differ there = (there.0, elim there.1 [ inl e ↦ inl e | inr e ↦ inr (kind_kept kinds gone n there.0 differ e) ])

ascend_lower : (low bound : ℕ) (kinds : Kinds) (high : ℕ) → low ≤ bound → NodesAscend bound kinds high → NodesAscend low kinds high
ascend_lower low bound [] high less a = tt
ascend_lower low bound (k ∷ kinds) high less a = let first = a.0 in (omega arith, a.1, a.2)

pub ascend_without : (low : ℕ) (kinds : Kinds) (high : ℕ) (n : NodeId) → NodesAscend low kinds high → NodesAscend low (kinds_without kinds n) high
ascend_without low [] high n a = tt
ascend_without low (k ∷ kinds) high n a = at (ascend_without (suc k.0.0) kinds high n a.2) (k.0.0 == n.0)
  where
    at : NodesAscend (suc k.0.0) (kinds_without kinds n) high → (here : Bool) → NodesAscend low (if here then kinds_without kinds n else k ∷ kinds_without kinds n) high
    at rest true = let first = a.0 in ascend_lower low (suc k.0.0) (kinds_without kinds n) high (omega arith) rest
    at rest false = (a.0, a.1, rest)

-- ---- with more

pub kind_left : (kinds more : Kinds) (n : NodeId) (kind : Kind) → kind_of kinds n ≡ Some kind → kind_of (kinds ++ more) n ≡ Some kind
kind_left [] more n kind e = cc
kind_left (k ∷ kinds) more n kind e = at (kind_left kinds more n kind) (k.0.0 == n.0) e
  where
    at : (kind_of kinds n ≡ Some kind → kind_of (kinds ++ more) n ≡ Some kind) → (here : Bool) → (if here then Some k.1 else kind_of kinds n) ≡ Some kind → (if here then Some k.1 else kind_of (kinds ++ more) n) ≡ Some kind
    at rest true e = e
    at rest false e = rest e

pub kind_right : (kinds more : Kinds) (n : NodeId) (kind : Kind) → AllByRecursion (λ (k : NodeId × Kind). k.0.0 ≢ n.0) kinds → kind_of more n ≡ Some kind → kind_of (kinds ++ more) n ≡ Some kind
kind_right [] more n kind others e = e
kind_right (k ∷ kinds) more n kind others e = kind_behind k (kinds ++ more) n kind others.0 (kind_right kinds more n kind others.1 e)

pub node_left : (kinds more : Kinds) (n : NodeId) → IsNode kinds n → IsNode (kinds ++ more) n
node_left kinds more n there = (there.0, elim there.1 [ inl e ↦ inl e | inr e ↦ inr (kind_left kinds more n there.0 e) ])

pub node_right : (kinds more : Kinds) (n : NodeId) → IsNode more n → IsNode (kinds ++ more) n
node_right [] more n there = there
node_right (k ∷ kinds) more n there = node_more k (kinds ++ more) n (node_right kinds more n there)

pub ascend_append : (low mid high : ℕ) (kinds more : Kinds) → low ≤ mid → mid ≤ high → NodesAscend low kinds mid → NodesAscend mid more high → NodesAscend low (kinds ++ more) high
ascend_append low mid high [] more below above a b = ascend_lower low mid more high below b
ascend_append low mid high (k ∷ kinds) more below above a b =
    let last = a.1 in
    (a.0, omega arith, ascend_append (suc k.0.0) mid high kinds more (omega arith) above a.2 b)

pub numbered_ascend : (n high : ℕ) (kinds : List Kind) → high ≡ n + length kinds → NodesAscend n (numbered_kinds n kinds) high
numbered_ascend n high [] e = tt
numbered_ascend n high (kind ∷ kinds) e = (omega arith, omega arith, numbered_ascend (suc n) high kinds (omega arith))

-- new nodes are there, with their kinds
pub numbered_there : (n : ℕ) (kinds : List Kind) → AllByRecursion (IsNode (numbered_kinds n kinds)) (numbered_nodes n (length kinds))
numbered_there n [] = tt
numbered_there n (kind ∷ kinds) =
    let first : NodeId × Kind = (record { 0 = n }, kind) in
    let rest = numbered_kinds (suc n) kinds in
    ((kind, inr (kind_here first rest)), all_map (IsNode rest) (IsNode (first ∷ rest)) (λ m there. node_more first rest m there) (numbered_nodes (suc n) (length kinds)) (numbered_there (suc n) kinds))

have_kinds : (known : Kinds) (n : ℕ) (kinds : List Kind) → ((m : NodeId) (kind : Kind) → kind_of (numbered_kinds n kinds) m ≡ Some kind → HasKind known kind m) → HaveKinds known kinds (numbered_nodes n (length kinds))
have_kinds known n [] h = tt
have_kinds known n (kind ∷ kinds) h =
    let first : NodeId × Kind = (record { 0 = n }, kind) in
    let rest = numbered_kinds (suc n) kinds in (
      h first.0 kind (kind_here first rest),
      have_kinds known (suc n) kinds (λ m other e.
          let between = kind_at (λ (k : NodeId × Kind). (suc n ≤ k.0.0) × (k.0.0 < suc n + length kinds)) rest m other e (ascend_between (suc n) rest (suc n + length kinds) (numbered_ascend (suc n) (suc n + length kinds) kinds refl)) in
          h m other (kind_behind first rest m other (λ same. omega arith) e)),
    )

pub numbered_have_kinds : (low n : ℕ) (known : Kinds) (kinds : List Kind) → NodesAscend low known n → HaveKinds (known ++ numbered_kinds n kinds) kinds (numbered_nodes n (length kinds))
numbered_have_kinds low n known kinds ascend =
    have_kinds (known ++ numbered_kinds n kinds) n kinds (λ m kind e.
    let between = kind_at (λ (k : NodeId × Kind). (n ≤ k.0.0) × (k.0.0 < n + length kinds)) (numbered_kinds n kinds) m kind e (ascend_between n (numbered_kinds n kinds) (n + length kinds) (numbered_ascend n (n + length kinds) kinds refl)) in
    inr (kind_right known (numbered_kinds n kinds) m kind
    (all_map (λ (k : NodeId × Kind). (low ≤ k.0.0) × (k.0.0 < n)) (λ (k : NodeId × Kind). k.0.0 ≢ m.0) (λ k b same. omega arith) known (ascend_between low known n ascend)) e))

-- where numbers ascend, each node of the list is listed once
pub listed_once : (low : ℕ) (kinds : Kinds) (high : ℕ) → NodesAscend low kinds high → AllByRecursion (λ (k : NodeId × Kind). kind_of kinds k.0 ≡ Some k.1) kinds
listed_once low [] high a = tt
listed_once low (k ∷ kinds) high a = (
  kind_here k kinds,
  all_both (λ (j : NodeId × Kind). (suc k.0.0 ≤ j.0.0) × (j.0.0 < high)) (λ (j : NodeId × Kind). kind_of kinds j.0 ≡ Some j.1) (λ (j : NodeId × Kind). kind_of (k ∷ kinds) j.0 ≡ Some j.1)
      (λ j b e. kind_behind k kinds j.0 j.1 (λ same. omega arith) e) kinds (ascend_between (suc k.0.0) kinds high a.2) (listed_once (suc k.0.0) kinds high a.2),
)
