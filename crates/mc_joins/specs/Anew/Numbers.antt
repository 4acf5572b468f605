-- The numbers that nodes get anew.
use Rattle.std.specs.Prelude.{◌≡◌, ◌-◌, ℕ, suc, Option, option_map, length, take}
use Rattle.mc_base.specs.declared.ids.NodeId.{NodeId}
use Rattle.mc_base.specs.Nodes.{moved}
use Rattle.mc_pure.specs.Pure.{Kinds, kind_of}
use Rattle.mc_pure_ops.specs.Renaming.Images.{Images, image_of}
use Rattle.mc_state.specs.State.{State, unknown}
use Rattle.mc_state.specs.Laws.{moved_kinds}
use Rattle.mc_joins.specs.Same.Same.{place_from}

-- the new number of a node other than node 0; None where the node is not there
abbrev pub number_of : Kinds → NodeId → Option NodeId
number_of kinds n = option_map (λ kind. moved (place_from 1 kinds) n) (kind_of kinds n)

-- each node other than node 0 has its new number as its image, and no other node has an image
abbrev pub AreNumbers : Kinds → Images → Type 0
AreNumbers kinds images = (n : NodeId) → image_of images n ≡ number_of kinds n

-- the nodes alone, numbered anew
abbrev pub numbered_nodes : ℕ → Kinds → State
numbered_nodes vars kinds = record (unknown vars) { kinds = moved_kinds (place_from 1 kinds) kinds; next = suc (length kinds) }

-- the kinds of the first nodes, of which node 0 has none
abbrev pub first_kinds : ℕ → Kinds → Kinds
first_kinds count kinds = take (count - 1) kinds
