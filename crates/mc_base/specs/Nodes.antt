-- Nodes, the numbers that they stand for, and other nodes in their places.
use Rattle.std.specs.Prelude.{ℕ, ℤ}
use Rattle.mc_base.specs.declared.ids.NodeId.{NodeId}

-- node 0 is null and zero
abbrev pub null : NodeId
null = record { 0 = 0 }

-- a whole number for each node
abbrev pub Valuation : Type 0
Valuation = ℕ → ℤ

-- the node that a renaming of numbers puts in this one's place
abbrev pub moved : (ℕ → ℕ) → NodeId → NodeId
moved f n = record { 0 = f n.0 }

-- the value of a node
abbrev pub at_node : Valuation → NodeId → ℤ
at_node v n = v n.0
