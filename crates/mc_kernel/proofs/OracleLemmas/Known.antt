-- What is known of well-made states: what is entailed, and the list that is written where a node is forgotten.
use Rattle.std.proofs.Common.{inl, inr, ℕ, suc, false, List, [], ◌∷◌, arith}
use Rattle.std.specs.List.{AllByRecursion}
use Rattle.mc_base.specs.declared.ids.NodeId.{NodeId}
use Rattle.mc_base.specs.declared.plain.Atom.{Atom}
use Rattle.mc_base.specs.declared.plain.VarInfo.{VarInfo}
use Rattle.mc_flow.specs.declared.defs.rules.Def.{Def}
use Rattle.mc_flow.specs.declared.defs.shapes.StructInfo.{StructInfo}
use Rattle.mc_rules_logic.specs.Fold.Changed.{IsListWithout}
use Rattle.mc_state.specs.declared.graph.edge.Edge.TheVariants.{Block, Ind, Seg}
use Rattle.mc_state.specs.Graph.Edges.{nodes_of}
use Rattle.mc_state.specs.Graph.Graph.{Edges, block_starts}
use Rattle.mc_rules_logic.specs.Listed.Lists.{ListsAreThere}
use Rattle.mc_state.specs.Known.{Test, Tells}
use Rattle.mc_pure.specs.Classes.{EachIsDecided}
use Rattle.mc_pure.specs.Known.{IsFit}
use Rattle.mc_pure.specs.Nodes.{RiseFrom}
use Rattle.mc_pure.specs.Pure.{Kinds, IsNode, IsWellFormed}
use Rattle.mc_state.specs.Fits.{NodesAscend, AreNodes, IsWellMade}
use Rattle.mc_state.specs.State.{State, pure_of}
use Rattle.mc_kernel.proofs.OracleLemmas.Decided.{Or, all_get}
use Rattle.mc_kernel.proofs.OracleLemmas.MadeOr.{made_or}

pub rises : (low : ℕ) (kinds : Kinds) (high : ℕ) → NodesAscend low kinds high → RiseFrom low kinds
rises low [] high a = tt
rises low (k ∷ kinds) high a = ((let l = a.0 in omega arith), rises (suc k.0.0) kinds high a.2)

pub starts_there : (kinds : Kinds) (es : Edges) → AllByRecursion (λ e. AreNodes kinds (nodes_of e.1)) es → AllByRecursion (IsNode kinds) (block_starts es)
starts_there kinds [] all = tt
starts_there kinds ((id, Block at shape fields) ∷ es) all = (all.0.0, starts_there kinds es all.1)
starts_there kinds ((id, Ind at pred args) ∷ es) all = starts_there kinds es all.1
starts_there kinds ((id, Seg at args pred «end» ends) ∷ es) all = starts_there kinds es all.1

module _ (defs : List Def) (vars : List VarInfo) (structs : List StructInfo) where
  abbrev pub Made : State → Type 0
  Made s = IsWellMade defs vars structs s

  pub made_rises : (s : State) → Made s → RiseFrom 1 s.kinds
  made_rises s m = rises 1 s.kinds s.next m.bounded.kinds

  pub made_fits : (s : State) → Made s → IsFit (pure_of s)
  made_fits s m = record {
    written = all_get (IsWellFormed s.kinds) s.atoms m.atoms;
    starts = all_get (IsNode s.kinds) (block_starts s.graph.edges) (starts_there s.kinds s.graph.edges m.bounded.edges);
  }

  module _ (decided : EachIsDecided) (lists : ListsAreThere) where
    -- a test for each state, that tells what is entailed in those that are well made
    test_by : (s : State) → Or (Made s) → Test
    test_by s (inl m) = (decided (pure_of s) (made_rises s m) (made_fits s m)).0
    test_by s (inr never) = λ f. false

    test_tells : (s : State) (o : Or (Made s)) → Made s → Tells (test_by s o) s
    unfolding test_by
    test_tells s (inl m) made = (decided (pure_of s) (made_rises s m) (made_fits s m)).1
    test_tells s (inr never) made = absurd (never made)

    pub know : State → Test
    know s = test_by s (made_or defs vars structs s)

    pub know_tells : (s : State) → Made s → Tells (know s) s
    unfolding know
    know_tells s m = test_tells s (made_or defs vars structs s) m

    -- a list for each node
    list_by : (s : State) (node : NodeId) → Or (Made s) → List Atom
    list_by s node (inl m) = (lists s node (made_rises s m) (made_fits s m)).0
    list_by s node (inr never) = []

    list_is : (s : State) (node : NodeId) (o : Or (Made s)) → Made s → IsListWithout node s (list_by s node o)
    unfolding list_by
    list_is s node (inl m) made = (lists s node (made_rises s m) (made_fits s m)).1
    list_is s node (inr never) made = absurd (never made)

    pub left : State → NodeId → List Atom
    left s node = list_by s node (made_or defs vars structs s)

    pub left_is : (s : State) (node : NodeId) → Made s → IsListWithout node s (left s node)
    unfolding left
    left_is s node m = list_is s node (made_or defs vars structs s) m
