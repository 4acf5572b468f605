-- What a side gives to a step of a join: an edge as it is, edges that are folded, or an empty segment.
use Rattle.std.specs.Prelude.{◌++◌, List, [], ◌∷◌, Option, Some, None, Ok, Err, length, map, replicate}
use Rattle.std.specs.Prelude.{filter, find, option_map, option_and_then, unwrap_or, slice_get}
use Rattle.std.specs.Option.{option_or}
use Rattle.mc_base.specs.declared.ids.EdgeId.{EdgeId}
use Rattle.mc_base.specs.declared.ids.NodeId.{NodeId}
use Rattle.mc_base.specs.declared.ids.PredId.{PredId}
use Rattle.mc_base.specs.declared.plain.Kind.{Kind}
use Rattle.mc_base.specs.Nodes.{null}
use Rattle.mc_flow.specs.declared.defs.rules.Def.{Def}
use Rattle.mc_state.specs.declared.graph.edge.Edge.{Edge}
use Rattle.mc_state.specs.declared.graph.edge.Edge.TheVariants.{Ind, Seg}
use Rattle.mc_pure_ops.specs.Join.Joint.{Pairs}
use Rattle.mc_state.specs.Known.{Test, same_kind}
use Rattle.mc_state.specs.Premises.{Judged}
use Rattle.mc_state.specs.declared.line.Side.{Side}
use Rattle.mc_state.specs.declared.terms.Term.{Term}
use Rattle.mc_state.specs.State.{State, next_node}
use Rattle.mc_state.specs.Terms.{plain}
use Rattle.mc_rules_logic.specs.Fold.ChangeJudges.{naming_spare}
use Rattle.mc_cover.specs.First.{Choice, first_cover, first_seg_cover}
use Rattle.mc_cover.specs.Goals.{Stop}
use Rattle.mc_cover.specs.Guessed.{first_edge, guess, summary_of}
use Rattle.mc_cover.specs.Terms.{equal_terms}
use Rattle.mc_joins.specs.Joinings.{Half, Joining, Pair, half, of_side, partner, free_edges}

-- what joins are judged by: what is entailed in a state, and the definitions
pub record Basis : Type 0 where
  pub know : State → Test
  pub defs : List Def

-- what a side gives: its state with the nodes that are named for it, the edge that is joined, and the edges that it
-- uses
pub record Part : Type 0 where
  pub state : State
  pub edge : Edge
  pub used : List EdgeId

-- ---- nodes of terms

-- a state, and nodes of it
pub record Named : Type 0 where
  pub state : State
  pub nodes : List NodeId

-- node 0 and the nodes of a kind
abbrev pub nodes_of_kind : State → Kind → List NodeId
nodes_of_kind s kind = null ∷ map (λ k. k.0) (filter (λ k. same_kind k.1 kind) s.kinds)

-- a term's own node: the least of these that is entailed equal to it
abbrev pub own_node : Basis → State → Kind → Term → Option NodeId
own_node w s kind t = find (λ n. equal_terms (w.know s) t (plain n)) (nodes_of_kind s kind)

-- the only state that a rule gives
abbrev pub only_state : Judged (List State) → Option State
only_state (Ok (s ∷ [])) = Some s
only_state (Ok []) = None
only_state (Ok (s ∷ t ∷ states)) = None
only_state (Err k) = None

-- the node that L8 names a term in a kind
abbrev pub spare_node : Basis → State → Kind → Term → Option Named
spare_node w s kind t =
    option_map (λ after. record { state = after; nodes = next_node s ∷ [] }) (only_state (naming_spare (w.know s) t.node t.add kind s))

-- the node of a term in a kind: its own, or, where it has none, the one that L8 names
abbrev pub node_of_term : Basis → State → Kind → Term → Option Named
node_of_term w s kind t = option_or (option_map (λ n. record { state = s; nodes = n ∷ [] }) (own_node w s kind t)) (spare_node w s kind t)

-- more nodes in front
abbrev pub behind : List NodeId → Named → Named
behind ns more = record { state = more.state; nodes = ns ++ more.nodes }

-- the nodes of terms, one after the other, each in a kind
abbrev pub nodes_of_terms : Basis → State → List Kind → List Term → Option Named
nodes_of_terms w s [] [] = Some (record { state = s; nodes = [] })
nodes_of_terms w s [] (t ∷ ts) = None
nodes_of_terms w s (kind ∷ kinds) [] = None
nodes_of_terms w s (kind ∷ kinds) (t ∷ ts) =
    option_and_then (λ first. option_map (behind first.nodes) (nodes_of_terms w first.state kinds ts)) (node_of_term w s kind t)

-- the nodes of a predicate's arguments, in the kinds of its parameters
abbrev pub nodes_of_args : Basis → PredId → State → List Term → Option Named
nodes_of_args w pred s args = option_and_then (λ def. nodes_of_terms w s def.params args) (slice_get w.defs pred.0)

-- ---- arguments

-- zero for each parameter
abbrev pub zeros : Basis → PredId → List NodeId
zeros w pred = unwrap_or (option_map (λ def. replicate (length def.params) null) (slice_get w.defs pred.0)) []

-- the arguments of a side's least unused Ind or Seg of the predicate at a node, else zeros
abbrev pub standing_args : Basis → Half → PredId → NodeId → List NodeId
standing_args w h pred n =
    unwrap_or (option_map (λ found. found.1) (first_edge (summary_of (w.know h.state) pred (plain n)) h.unused)) (zeros w pred)

-- what is guessed at a side's node
abbrev pub guessed : Basis → Half → PredId → NodeId → Option Stop → List Term
guessed w h pred n stop = guess (w.know h.state) w.defs pred (plain n) stop h.unused

-- where a side's argument is in a pair already, its first partner takes the place of a term of the other side
abbrev pub with_partners : Pairs → Side → List NodeId → List Term → List Term
with_partners pairs side [] ts = []
with_partners pairs side (n ∷ ns) [] = []
with_partners pairs side (n ∷ ns) (t ∷ ts) =
    unwrap_or (option_map plain (partner pairs side n)) t ∷ with_partners pairs side ns ts

-- ---- parts

-- an edge as it is
abbrev pub as_it_is : Half → EdgeId × Edge → Part
as_it_is h e = record { state = h.state; edge = e.1; used = e.0 ∷ [] }

-- an empty segment at a side's node, with the same arguments at both ends
abbrev pub empty_seg : Basis → Half → PredId → NodeId → Part
empty_seg w h pred n =
    record { state = h.state; edge = Seg n (standing_args w h pred n) pred n (standing_args w h pred n); used = [] }

-- the Ind that edges are folded into, with nodes of its arguments
abbrev pub ind_part : Basis → Joining → Side → Pair → PredId → List Term → Choice → Option Part
ind_part w j side p pred args found =
    option_map (λ named. record { state = named.state; edge = Ind (of_side side p) pred named.nodes; used = found.used })
    (nodes_of_args w pred (half j side).state args)

-- an Ind of free edges: the first cover of the predicate with these arguments
abbrev pub folded_ind : Basis → Joining → Side → Pair → PredId → List Term → Option Part
folded_ind w j side p pred args =
    option_and_then (ind_part w j side p pred args)
    (first_cover (w.know (half j side).state) w.defs pred (plain (of_side side p)) args (free_edges j side p))

-- the Seg that edges are folded into, with nodes of its end arguments
abbrev pub ended_part : Basis → Side → Pair → PredId → NodeId → List Term → List EdgeId → Named → Option Part
ended_part w side p pred «end» ends used first =
    option_map (λ last. record { state = last.state; edge = Seg (of_side side p) first.nodes pred end last.nodes; used = used })
    (nodes_of_args w pred first.state ends)

-- and with nodes of its arguments
abbrev pub seg_part : Basis → Joining → Side → Pair → PredId → List Term → NodeId → List Term → Choice → Option Part
seg_part w j side p pred args «end» ends found =
    option_and_then (ended_part w side p pred end ends found.used) (nodes_of_args w pred (half j side).state args)

-- a Seg of free edges to a node with end arguments: the first segment cover of the predicate with these arguments
abbrev pub folded_seg : Basis → Joining → Side → Pair → PredId → List Term → NodeId → List Term → Option Part
folded_seg w j side p pred args «end» ends =
    option_and_then (seg_part w j side p pred args end ends)
    (first_seg_cover (w.know (half j side).state) w.defs pred (plain (of_side side p)) args (plain end) ends (free_edges j side p))

-- the same, where the arguments are guessed with that end as stop
abbrev pub guessed_seg : Basis → Joining → Side → Pair → PredId → NodeId → List Term → Option Part
guessed_seg w j side p pred «end» ends =
    folded_seg w j side p pred (guessed w (half j side) pred (of_side side p) (Some (plain end, ends))) end ends
