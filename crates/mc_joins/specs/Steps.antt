-- The steps of joins.
use Rattle.std.specs.Prelude.{◌==◌, ◌&&◌, ◌||◌, ◌++◌, not, ℕ, Bool, true, false, List, [], ◌∷◌, Option, Some, None}
use Rattle.std.specs.Prelude.{is_some, is_none, length, map, flat_map, option_map, option_and_then, position, slice_get}
use Rattle.std.specs.Prelude.{unwrap_or, zip}
use Rattle.std.specs.List.{list_all, range_with_len}
use Rattle.std.specs.Option.{option_or, option_zip}
use Rattle.mc_base.specs.declared.ids.EdgeId.{EdgeId}
use Rattle.mc_base.specs.declared.ids.NodeId.{NodeId}
use Rattle.mc_base.specs.declared.ids.PredId.{PredId}
use Rattle.mc_base.specs.declared.plain.Kind.TheVariants.{Ptr}
use Rattle.mc_state.specs.declared.graph.edge.Edge.{Edge}
use Rattle.mc_state.specs.declared.graph.edge.Edge.TheVariants.{Block, Ind, Seg}
use Rattle.mc_state.specs.Graph.Edges.{has_shape}
use Rattle.mc_pure_ops.specs.Join.Joint.{Pairs}
use Rattle.mc_state.specs.Known.{has_kind}
use Rattle.mc_state.specs.Named.{SegParts, IndParts, others, seg_of, ind_of}
use Rattle.mc_state.specs.declared.line.Side.{Side}
use Rattle.mc_state.specs.declared.line.Side.TheVariants.{Left, Right}
use Rattle.mc_state.specs.declared.line.JoinStep.{JoinStep}
use Rattle.mc_state.specs.declared.line.JoinStep.TheVariants.{J1, J2, J3, J4, J5, J6, J7}
use Rattle.mc_state.specs.declared.terms.Term.{Term}
use Rattle.mc_state.specs.Terms.{plain}
use Rattle.mc_joins.specs.Joinings.{Half, Joining, Pair, across, half, of_side, with_pairs, known_both, same_pair}
use Rattle.mc_joins.specs.Joinings.{edge_at, next_pair}
use Rattle.mc_joins.specs.Parts.{Basis, Part, standing_args, guessed, with_partners, as_it_is, empty_seg, folded_ind, guessed_seg}

-- ---- edges of the result

-- the pairs that two edges of one form make, in the order in which documents write them
abbrev pub pairs_of : Edge → Edge → Pairs
pairs_of (Block a shape fields) (Block b own others) = known_both fields others
pairs_of (Ind a pred args) (Ind b own others) = zip args others
pairs_of (Seg a args pred «end» ends) (Seg b others own stop stops) = zip args others ++ ((end, stop) ∷ zip ends stops)
pairs_of e f = []

-- the node of the result that stands for a pair: the pair's place
abbrev pub node_for : Pairs → NodeId → NodeId → NodeId
node_for pairs l r = record { 0 = unwrap_or (position (same_pair (l, r)) pairs) 0 }

-- the nodes of the result for nodes of both sides, place by place
abbrev pub nodes_for : Pairs → List NodeId → List NodeId → List NodeId
nodes_for pairs ls rs = map (λ p. node_for pairs p.0 p.1) (zip ls rs)

-- the same where a node that is not known on both sides is unknown
abbrev pub known_for : Pairs → List (Option NodeId) → List (Option NodeId) → List (Option NodeId)
known_for pairs ls rs = map (λ both. option_map (λ p. node_for pairs p.0 p.1) (option_zip both.0 both.1)) (zip ls rs)

-- the edge of the result for two edges of one form
abbrev pub edge_for : Pairs → Edge → Edge → Option Edge
edge_for pairs (Block a shape fields) (Block b own others) = Some (Block (node_for pairs a b) shape (known_for pairs fields others))
edge_for pairs (Ind a pred args) (Ind b own others) = Some (Ind (node_for pairs a b) pred (nodes_for pairs args others))
edge_for pairs (Seg a args pred «end» ends) (Seg b others own stop stops) =
    Some (Seg (node_for pairs a b) (nodes_for pairs args others) pred (node_for pairs end stop) (nodes_for pairs ends stops))
edge_for pairs e f = None

-- what a side has after it gave a part
abbrev pub half_after : Half → Part → Half
half_after h part = record { state = part.state; unused = others h.unused part.used }

-- the join with an edge more, made of what the left and the right give
abbrev pub joined : Joining → Part → Part → Option Joining
joined j l r =
    option_map (λ e.
    record {
      left = half_after j.left l;
      right = half_after j.right r;
      pairs = with_pairs j.pairs (pairs_of l.edge r.edge);
      edges = j.edges ++ e ∷ [];
      closed = j.closed;
    })
    (edge_for (with_pairs j.pairs (pairs_of l.edge r.edge)) l.edge r.edge)

-- the same of what a side and the other give
abbrev pub joined_from : Joining → Side → Part → Part → Option Joining
joined_from j Left mine theirs = joined j mine theirs
joined_from j Right mine theirs = joined j theirs mine

-- ---- forms of edges

-- two Blocks of one struct
abbrev pub are_blocks : Edge → Edge → Bool
are_blocks (Block a shape fields) e = has_shape shape e
are_blocks (Ind a pred args) e = false
are_blocks (Seg a args pred «end» ends) e = false

-- two Inds of one predicate
abbrev pub are_inds : Edge → Edge → Bool
are_inds (Block a shape fields) e = false
are_inds (Ind a pred args) e = is_some (ind_of pred (Some e))
are_inds (Seg a args pred «end» ends) e = false

-- two Segs of one predicate
abbrev pub are_segs : Edge → Edge → Bool
are_segs (Seg a args pred «end» ends) (Seg b others own stop stops) = pred.0 == own.0
are_segs e f = false

-- two edges of one form and one struct or predicate
abbrev pub are_alike : Edge → Edge → Bool
are_alike e f = are_blocks e f || are_inds e f || are_segs e f

-- an Ind
abbrev pub is_ind : Edge → Bool
is_ind (Ind a pred args) = true
is_ind other = false

-- the edge of a side at a pair, without its id
abbrev pub edge_there : Joining → Side → Pair → Option Edge
edge_there j side p = option_map (λ e. e.1) (edge_at j side p)

-- what a condition lets through
abbrev pub only_if : {A : Type 0} → Bool → Option A → Option A
only_if true x = x
only_if false x = None

-- ---- segments

-- where a segment is to end: its predicate, the side whose edges are folded, and the number of the end's pair
pub record Ending : Type 0 where
  pub pred : PredId
  pub side : Side
  pub place : ℕ

-- the pair from which J6 has made a Seg, where the edges of the side with the empty segment do not count any more
abbrev pub closing : Side → Pair → Joining → Joining
closing side p j = record j { closed = (side, p) ∷ j.closed }

-- the end's pair has the same other node as this pair, and another node than it on the folded side; none of these is
-- node 0
abbrev pub may_end : Side → Pair → Pair → Bool
may_end side p q =
    not (p.0.0 == 0) && not (p.1.0 == 0) && (of_side (across side) q).0 == (of_side (across side) p).0
    && not ((of_side side q).0 == (of_side side p).0) && not ((of_side side q).0 == 0)

-- it uses an edge
abbrev pub uses_edge : Part → Bool
uses_edge part = not (length part.used == 0)

-- the join by a Seg of a side's folded edges, which uses one, and an empty segment on the other side
abbrev pub six_with : Basis → Joining → Pair → Ending → Part → Option Joining
six_with w j p e mine =
    only_if (uses_edge mine)
    (option_map (closing (across e.side) p)
    (joined_from j e.side mine (empty_seg w (half j (across e.side)) e.pred (of_side (across e.side) p))))

-- the end arguments at the end's pair: those of an edge there
abbrev pub six_ends : Basis → Joining → Ending → Pair → List Term
six_ends w j e q = map plain (standing_args w (half j e.side) e.pred (of_side e.side q))

-- the Seg ends at this pair
abbrev pub six_to : Basis → Joining → Pair → Ending → Pair → Option Joining
six_to w j p e q =
    only_if (may_end e.side p q)
    (option_and_then (six_with w j p e)
    (guessed_seg w j e.side p e.pred (of_side e.side q) (six_ends w j e q)))

-- J6: a side's edges are folded from its node of the pair to that of another pair; the other node of both is one, and
-- has an empty segment
abbrev pub by_j6 : Basis → Joining → Pair → Ending → Option Joining
by_j6 w j p e = option_and_then (six_to w j p e) (slice_get j.pairs e.place)

-- the edge of the side that is not folded is a Seg of the predicate to the end's pair, whose nodes are pointers
abbrev pub is_seg_to : Joining → Ending → Pair → SegParts → Bool
is_seg_to j e q s =
    s.pred.0 == e.pred.0 && s.stop.0 == (of_side (across e.side) q).0 && has_kind j.left.state.kinds Ptr q.0
    && has_kind j.right.state.kinds Ptr q.1

-- the end arguments there for those of the Seg: of one that is in a pair its first partner, of any other that of an
-- edge there
abbrev pub seven_ends : Basis → Joining → Ending → Pair → SegParts → List Term
seven_ends w j e q s =
    with_partners j.pairs (across e.side) s.ends (map plain (standing_args w (half j e.side) e.pred (of_side e.side q)))

-- the join by that Seg and one of the other side's folded edges
abbrev pub seven_with : Basis → Joining → Pair → Ending → Pair → EdgeId × Edge → SegParts → Option Joining
seven_with w j p e q found s =
    only_if (is_seg_to j e q s)
    (option_and_then (λ mine. joined_from j e.side mine (as_it_is (half j (across e.side)) found))
    (guessed_seg w j e.side p e.pred (of_side e.side q) (seven_ends w j e q s)))

-- the edge is a Seg
abbrev pub seven_from : Basis → Joining → Pair → Ending → Pair → EdgeId × Edge → Option Joining
seven_from w j p e q found = option_and_then (seven_with w j p e q found) (seg_of (Some found.1))

-- J7: one side's edge is a Seg; the other side's edges are folded from its node of the pair to that of the pair where
-- the Seg ends
abbrev pub by_j7 : Basis → Joining → Pair → Ending → Option Joining
by_j7 w j p e =
    option_and_then (λ q. option_and_then (seven_from w j p e q) (edge_at j (across e.side) p)) (slice_get j.pairs e.place)

-- the predicates
abbrev pub predicates : Basis → List PredId
predicates w = map (λ i. record { 0 = i }) (range_with_len 0 (length w.defs))

-- each predicate with each side and each pair
abbrev pub endings : Basis → Joining → List Ending
endings w j =
    flat_map (λ pred. flat_map (λ side. map (λ place. record { pred = pred; side = side; place = place })
    (range_with_len 0 (length j.pairs))) (Left ∷ Right ∷ [])) (predicates w)

-- J6 does not apply
abbrev pub no_j6 : Basis → Joining → Pair → Bool
no_j6 w j p = list_all (λ e. is_none (by_j6 w j p e)) (endings w j)

-- J7 does not apply
abbrev pub no_j7 : Basis → Joining → Pair → Bool
no_j7 w j p = list_all (λ e. is_none (by_j7 w j p e)) (endings w j)

-- ---- other steps

-- J1 to J3: both sides' edges as they are, where they are of a form
abbrev pub by_both : (Edge → Edge → Bool) → Joining → Pair → Option Joining
by_both of_form j p =
    option_and_then (λ both. only_if (of_form both.0.1 both.1.1) (joined j (as_it_is j.left both.0) (as_it_is j.right both.1)))
    (option_zip (edge_at j Left p) (edge_at j Right p))

-- the arguments there for those of a side's Ind: of one that is in a pair its first partner, of any other what is
-- guessed
abbrev pub four_args : Basis → Joining → Pair → PredId → Side → IndParts → List Term
four_args w j p pred side i =
    with_partners j.pairs side i.args (guessed w (half j (across side)) pred (of_side (across side) p) None)

-- the join by a side's Ind and an Ind of the other side's folded edges
abbrev pub four_with : Basis → Joining → Pair → PredId → Side → EdgeId × Edge → IndParts → Option Joining
four_with w j p pred side found i =
    only_if (is_none (ind_of pred (edge_there j (across side) p)))
    (option_and_then (λ theirs. joined_from j side (as_it_is (half j side) found) theirs)
    (folded_ind w j (across side) p pred (four_args w j p pred side i)))

-- the edge is an Ind of the predicate
abbrev pub four_from : Basis → Joining → Pair → PredId → Side → EdgeId × Edge → Option Joining
four_from w j p pred side found = option_and_then (four_with w j p pred side found) (ind_of pred (Some found.1))

-- J4, where a side's edge is an Ind of the predicate and the other's is not: that one's edges are folded
abbrev pub by_ind : Basis → Joining → Pair → PredId → Side → Option Joining
by_ind w j p pred side = option_and_then (four_from w j p pred side) (edge_at j side p)

-- neither side's edge is an Ind, and they are not alike, or one is missing
abbrev pub are_unlike : Option Edge → Option Edge → Bool
are_unlike None None = true
are_unlike None (Some f) = not (is_ind f)
are_unlike (Some e) None = not (is_ind e)
are_unlike (Some e) (Some f) = not (is_ind e) && not (is_ind f) && not (are_alike e f)

-- a side's edges folded into an Ind with guessed arguments
abbrev pub guessed_ind : Basis → Joining → Pair → PredId → Side → Option Part
guessed_ind w j p pred side = folded_ind w j side p pred (guessed w (half j side) pred (of_side side p) None)

-- the join by two Inds of folded edges, of which at least one is used
abbrev pub five_with : Joining → Part × Part → Option Joining
five_with j both = only_if (uses_edge both.0 || uses_edge both.1) (joined j both.0 both.1)

-- J5: both sides' edges are folded
abbrev pub by_folds : Basis → Joining → Pair → PredId → Option Joining
by_folds w j p pred =
    only_if (are_unlike (edge_there j Left p) (edge_there j Right p))
    (option_and_then (five_with j) (option_zip (guessed_ind w j p pred Left) (guessed_ind w j p pred Right)))

-- ---- steps

-- a step at a pair
abbrev pub step_at : Basis → Joining → Pair → JoinStep → Option Joining
step_at w j p J1 = only_if (no_j6 w j p) (by_both are_blocks j p)
step_at w j p J2 = only_if (no_j6 w j p) (by_both are_inds j p)
step_at w j p J3 = only_if (no_j6 w j p && no_j7 w j p) (by_both are_segs j p)
step_at w j p (J4 pred) = only_if (no_j6 w j p && no_j7 w j p) (option_or (by_ind w j p pred Left) (by_ind w j p pred Right))
step_at w j p (J5 pred) = only_if (no_j6 w j p && no_j7 w j p) (by_folds w j p pred)
step_at w j p (J6 pred side place) = by_j6 w j p (record { pred = pred; side = side; place = place })
step_at w j p (J7 pred side place) = only_if (no_j6 w j p) (by_j7 w j p (record { pred = pred; side = side; place = place }))

-- what comes of a step, if it applies
abbrev pub after_step : Basis → Joining → JoinStep → Option Joining
after_step w j step = option_and_then (λ p. step_at w j p step) (next_pair j)

-- what comes of steps, if each applies in its place
abbrev pub after_steps : Basis → Joining → List JoinStep → Option Joining
after_steps w j [] = Some j
after_steps w j (step ∷ steps) = option_and_then (λ next. after_steps w next steps) (after_step w j step)

-- the steps that there are, by the predicates, sides and pairs
abbrev pub all_steps : Basis → Joining → List JoinStep
all_steps w j =
    J1 ∷ J2 ∷ J3 ∷ (map J4 (predicates w) ++ (map J5 (predicates w)
    ++ (map (λ e. J6 e.pred e.side e.place) (endings w j) ++ map (λ e. J7 e.pred e.side e.place) (endings w j))))

-- there is a next pair, and no step applies there
abbrev pub is_stuck : Basis → Joining → Bool
is_stuck w j = is_some (next_pair j) && list_all (λ step. is_none (after_step w j step)) (all_steps w j)
