-- Names that fit a rule are nodes that are there.
use Rattle.std.specs.Prelude.{◌≡◌, ℕ, true, List, drop, map, take}
use Rattle.mc_base.specs.declared.ids.NodeId.{NodeId}
use Rattle.mc_base.specs.declared.plain.Kind.{Kind}
use Rattle.mc_flow.specs.Defs.Instances.{node_of}
use Rattle.mc_state.specs.Known.{has_kind}
use Rattle.mc_state.specs.Lists.{all_both}
use Rattle.mc_pure.specs.Pure.{Kinds, IsNode}
use Rattle.mc_state.specs.Fits.{AreNodes}

-- nodes that are known to have kinds are there
abbrev pub AreKindsThere : Type 0
AreKindsThere = (kinds : Kinds) (ks : List Kind) (ns : List NodeId) → all_both (has_kind kinds) ks ns ≡ true → AreNodes kinds ns

-- of nodes that are there, those of names and those of parameters are there
pub record AreNamesThere : Type 0 where
  pub name : (kinds : Kinds) (ns : List NodeId) (name : ℕ) → AreNodes kinds ns → IsNode kinds (node_of ns name)
  pub names : (kinds : Kinds) (ns : List NodeId) (names : List ℕ) → AreNodes kinds ns → AreNodes kinds (map (node_of ns) names)
  pub params : (kinds : Kinds) (ns : List NodeId) (count : ℕ) → AreNodes kinds ns → AreNodes kinds (take count (drop 1 ns))
