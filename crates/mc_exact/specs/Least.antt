-- The valuation that gives each class of pointers the number of its least node, and each number itself.
use Rattle.std.specs.Prelude.{◌≡◌, ◌⊎◌, ◌<◌, ℕ, zero, suc, ℤ, pos, ◌≤ℤ◌, Option, Some, None, slice_get, refl, if◌then◌else◌}
use Rattle.mc_base.specs.declared.ids.NodeId.{NodeId}
use Rattle.mc_base.specs.declared.plain.Kind.{Kind}
use Rattle.mc_base.specs.declared.plain.Kind.TheVariants.{Int, Ptr}
use Rattle.mc_base.specs.declared.plain.Atom.{Atom}
use Rattle.mc_base.specs.declared.plain.Atom.TheVariants.{Eq, Ne, In}
use Rattle.mc_base.specs.Nodes.{Valuation, null}
use Rattle.mc_pure.specs.Pure.{Pure, Kinds, HasKind, kind_of}
use Rattle.mc_pure.specs.Classes.{TellsDerived}
use Rattle.mc_pure.specs.Derived.{Follows, IsFalse, AreEqual}
use Rattle.mc_pure.specs.Laws.{IsTrue}
use Rattle.mc_state.specs.Known.{Test, equal}

-- the node is one number
abbrev pub IsNumber : Pure → NodeId → Type 0
IsNumber p n = (k : ℤ) × Follows p (In n k k)

-- the nodes are numbers, or they are pointers and there is no offset
abbrev pub ArePlain : Kinds → NodeId → NodeId → ℤ → Type 0
ArePlain kinds a b c = (HasKind kinds Int a × HasKind kinds Int b) ⊎ (HasKind kinds Ptr a × HasKind kinds Ptr b × (c ≡ pos 0))

-- an atom that is written where there was no input: of numbers, or of pointers that are equal, differ or are addresses
abbrev pub IsPlainAtom : Kinds → Atom → Type 0
IsPlainAtom kinds (Eq a b c) = ArePlain kinds a b c
IsPlainAtom kinds (Ne a b c) = ArePlain kinds a b c
IsPlainAtom kinds (In a lo hi) = HasKind kinds Int a ⊎ (HasKind kinds Ptr a × (lo ≤ℤ pos 1) × (pos 4611686018427387903 ≤ℤ hi))

-- what is known where there was no input: each node of kind Int is one number, atoms are plain, and blocks start at
-- pointers; and nodes have one kind each, and numbers below 2^62
pub record IsPlain (p : Pure) : Type 0 where
  pub numbers : (n : NodeId) → kind_of p.kinds n ≡ Some Int → IsNumber p n
  pub atoms : (place : ℕ) (f : Atom) → slice_get p.written place ≡ Some f → IsPlainAtom p.kinds f
  pub starts : (place : ℕ) (a : NodeId) → slice_get p.starts place ≡ Some a → HasKind p.kinds Ptr a
  pub named : (place : ℕ) (n : NodeId) (k : Kind) → slice_get p.kinds place ≡ Some (n, k) → kind_of p.kinds n ≡ Some k
  pub origin : kind_of p.kinds null ≡ None
  pub small : (n : NodeId) (k : Kind) → kind_of p.kinds n ≡ Some k → n.0 < 4611686018427387904

-- the least of so many numbers from one on whose node is known to be equal, or the one after them
abbrev pub least_from : Test → NodeId → ℕ → ℕ → ℕ
least_from know n m zero = m
least_from know n m (suc more) = if equal know n (record { 0 = m }) then m else least_from know n (suc m) more

-- the number of the least node that is known to be equal
abbrev pub least : Test → NodeId → ℕ
least know n = least_from know n 0 n.0

-- a number for a node by its kind: itself where it is one, else this one
abbrev pub by_kind : (p : Pure) (n : NodeId) (kind : Option Kind) → (kind ≡ Some Int → IsNumber p n) → ℕ → ℤ
by_kind p n None number l = pos l
by_kind p n (Some Int) number l = (number refl).0
by_kind p n (Some Ptr) number l = pos l

-- each number is itself, and each pointer is the number of the least node that is equal
abbrev pub least_valuation : (p : Pure) → Test → IsPlain p → Valuation
least_valuation p know plain m =
    by_kind p (record { 0 = m }) (kind_of p.kinds (record { 0 = m })) (plain.numbers (record { 0 = m })) (least know (record { 0 = m }))

-- by that valuation all that is known is true, where it is not false
abbrev pub LeastIsTrue : Type 0
LeastIsTrue =
    (p : Pure) (know : Test) (plain : IsPlain p) → TellsDerived p know → (IsFalse p → ⊥) → IsTrue (least_valuation p know plain) p

-- and pointers of one number are entailed equal
abbrev pub LeastSeparates : Type 0
LeastSeparates =
    (p : Pure) (know : Test) (plain : IsPlain p) (a b : NodeId)
    → TellsDerived p know → HasKind p.kinds Ptr a → HasKind p.kinds Ptr b
    → least_valuation p know plain a.0 ≡ least_valuation p know plain b.0 → AreEqual p a b
