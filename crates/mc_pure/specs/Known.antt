-- What a state holds.
use Rattle.std.specs.Prelude.{◌≡◌, ◌⊎◌, ℕ, Bool, true, false, List, [], ◌∷◌, ◌++◌, Some, slice_get}
use Rattle.mc_base.specs.declared.plain.Kind.{Kind}
use Rattle.mc_base.specs.declared.ids.NodeId.{NodeId}
use Rattle.mc_base.specs.declared.plain.Atom.{Atom}
use Rattle.mc_pure.specs.declared.known.Known.{Known}
use Rattle.mc_pure.specs.declared.rows.Row.{Row}
use Rattle.mc_pure.specs.Pure.{Pure, IsNode, Base, IsWellFormed}
use Rattle.mc_pure.specs.Derived.{IsFalse}
use Rattle.mc_pure.specs.Firsts.{without_first}
use Rattle.mc_pure.specs.Nodes.{with_kind}
use Rattle.mc_pure.specs.Rows.{IsSound, Settled}
use Rattle.mc_pure.specs.Steps.{IsStable}

-- what is known
abbrev pub pure_of : Known → Pure
pure_of k = record { kinds = k.nodes; written = k.written; starts = k.starts.items }

-- the written atoms are well formed, and blocks start at nodes
pub record IsFit (p : Pure) : Type 0 where
  pub written : (i : ℕ) (f : Atom) → slice_get p.written i ≡ Some f → IsWellFormed p.kinds f
  pub starts : (i : ℕ) (a : NodeId) → slice_get p.starts i ≡ Some a → IsNode p.kinds a

-- the rows say all that follows, or what is known is false
abbrev pub IsClosed : Pure → List Row → (wrong : Bool) → Type 0
IsClosed p rows true = IsFalse p
IsClosed p rows false = IsSound p rows × IsStable p rows

-- nothing is known but node 0
abbrev pub nothing : Pure
nothing = record { kinds = []; written = []; starts = [] }

-- one more node, atom or block
abbrev pub with_node : Pure → NodeId → Kind → Pure
with_node p n k = record { kinds = with_kind p.kinds n k; written = p.written; starts = p.starts }

abbrev pub with_atom : Pure → Atom → Pure
with_atom p f = record { kinds = p.kinds; written = p.written ++ f ∷ []; starts = p.starts }

abbrev pub with_start : Pure → NodeId → Pure
with_start p a = record { kinds = p.kinds; written = p.written; starts = p.starts ++ a ∷ [] }

-- one block less
abbrev pub without_start : Pure → NodeId → Pure
without_start p a = record { kinds = p.kinds; written = p.written; starts = without_first p.starts a }

-- all that is known is settled, but for one atom
abbrev pub SettledBut : Pure → List Row → Atom → Type 0
SettledBut p rows atom = (f : Atom) → Base p f → Settled p rows f ⊎ (f ≡ atom)
