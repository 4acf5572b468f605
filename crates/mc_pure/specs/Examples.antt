-- What is known of four nodes, three of which blocks start at or follow a number after.
use Rattle.std.specs.Prelude.{ℕ, pos, [], ◌∷◌, get_or}
use Rattle.mc_base.specs.declared.ids.NodeId.{NodeId}
use Rattle.mc_base.specs.declared.plain.Kind.TheVariants.{Int, Ptr}
use Rattle.mc_base.specs.declared.plain.Atom.{Atom}
use Rattle.mc_base.specs.declared.plain.Atom.TheVariants.{Eq, In}
use Rattle.mc_base.specs.Nodes.{Valuation, null}
use Rattle.mc_pure.specs.Pure.{Pure}

-- the node with a number
abbrev pub node : ℕ → NodeId
node n = record { 0 = n }

-- blocks start at nodes 1 and 2; node 4 is node 3 plus 1, and node 3 lies from 5 to 7
abbrev pub known : Pure
known =
    record {
      kinds = (node 1, Ptr) ∷ (node 2, Ptr) ∷ (node 3, Int) ∷ (node 4, Int) ∷ [];
      written = Eq (node 4) (node 3) (pos 1) ∷ In (node 3) (pos 5) (pos 7) ∷ [];
      starts = node 1 ∷ node 2 ∷ [];
    }

-- the blocks start at 10 and 20; node 3 is 6
abbrev pub values : Valuation
values n = get_or (pos 0 ∷ pos 10 ∷ pos 20 ∷ pos 6 ∷ pos 7 ∷ []) n (pos 0)

-- the same with another atom written
abbrev pub with_written : Pure → Atom → Pure
with_written p f = record { kinds = p.kinds; written = f ∷ p.written; starts = p.starts }

-- the blocks start at one node
abbrev pub at_one : Pure
at_one = with_written known (Eq (node 2) (node 1) (pos 0))

-- a block starts at null
abbrev pub at_null : Pure
at_null = with_written known (Eq (node 1) null (pos 0))

-- node 3 lies from 5 to 4
abbrev pub between : Pure
between = with_written known (In (node 3) (pos 5) (pos 4))
