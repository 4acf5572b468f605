-- Steps as code takes them.
use Rattle.std.specs.Prelude.{◌≡◌, ◌==◌, ◌&&◌, ◌||◌, not, Bool, true, false, List, [], ◌∷◌, Option, Some, None, if◌then◌else◌}
use Rattle.std.specs.Prelude.{is_some, length, map, flat_map, option_map, option_and_then}
use Rattle.std.specs.List.{list_any, range_with_len}
use Rattle.std.specs.Option.{option_or, option_zip}
use Rattle.mc_base.specs.declared.ids.NodeId.{NodeId}
use Rattle.mc_base.specs.declared.ids.PredId.{PredId}
use Rattle.mc_base.specs.declared.plain.Kind.TheVariants.{Ptr}
use Rattle.mc_flow.specs.declared.defs.rules.Def.{Def}
use Rattle.mc_state.specs.declared.graph.edge.Edge.{Edge}
use Rattle.mc_state.specs.declared.graph.edge.Edge.TheVariants.{Block, Ind, Seg}
use Rattle.mc_state.specs.Known.{has_kind}
use Rattle.mc_state.specs.declared.line.JoinStep.{JoinStep}
use Rattle.mc_state.specs.declared.line.JoinStep.TheVariants.{J1, J2, J3, J4, J5, J6, J7}
use Rattle.mc_state.specs.declared.line.Side.{Side}
use Rattle.mc_state.specs.declared.line.Side.TheVariants.{Left, Right}
use Rattle.mc_joins.specs.Joinings.{Joining, Pair, half, across}
use Rattle.mc_joins.specs.Parts.{Basis}
use Rattle.mc_joins.specs.Steps.{Ending, joined, joined_from, closing, only_if, is_ind, are_blocks, are_inds, are_segs}
use Rattle.mc_joins.specs.Steps.{by_j6, by_j7, no_j6, no_j7, by_both, by_ind, by_folds, predicates}
use Rattle.mc_replay.specs.declared.folds.IndFold.{IndFold as KeptInd}
use Rattle.mc_replay.specs.declared.folds.SegFold.{SegFold as KeptSeg}
use Rattle.mc_replay.specs.declared.folds.Part.{Part as KeptPart}
use Rattle.mc_replay.specs.declared.joining.Joining.{Joining as Kept}
use Rattle.mc_replay.specs.declared.steps.Ending.{Ending as KeptEnding}
use Rattle.mc_replay.specs.declared.steps.OtherFold.{OtherFold}
use Rattle.mc_replay.specs.declared.steps.SegStep.{SegStep}
use Rattle.mc_replay.specs.declared.steps.SegStep.TheVariants.{Six, Seven}
use Rattle.mc_replay.specs.Folds.{seen_part, seen_ind, seen_seg, made_ind, made_seg}
use Rattle.mc_replay.specs.Joined.{seen}
use Rattle.mc_replay.specs.Named.{TellsFrom}

-- the tests tell what is entailed in both states of a join
pub record TellsBoth (w : Basis) (j : Kept) : Type 0 where
  pub left : TellsFrom w j.left.state
  pub right : TellsFrom w j.right.state

-- it holds of all tests that tell what is entailed in both states of a join, with these definitions
abbrev pub ForTests : List Def → Kept → (Basis → Type 0) → Type 0
ForTests defs j P = (w : Basis) → w.defs ≡ defs → TellsBoth w j → P w

-- this join is what a step comes to, if it is done; else the step does not apply
pub record ComesTo (w : Basis) (new : Kept) (done : Bool) (to : Option Joining) : Type 0 where
  pub joins : to ≡ (if done then Some (seen new) else None)
  pub tells : TellsBoth w new

-- ---- J1 to J3

-- the join by what both sides give
abbrev pub both_joined : Joining → KeptPart × KeptPart → Option Joining
both_joined j f = joined j (seen_part j.left.state f.0) (seen_part j.right.state f.1)

-- J1, J2 or J3 applies, where J6 and J7 do not
abbrev pub has_both : Joining → Pair → Bool
has_both j p = is_some (by_both are_blocks j p) || is_some (by_both are_inds j p) || is_some (by_both are_segs j p)

-- ---- J6 and J7

-- where a segment is to end
abbrev pub seen_ending : KeptEnding → Ending
seen_ending e = record { pred = e.pred; side = e.side; place = e.place }

-- one of the two
abbrev pub by_seg : SegStep → Basis → Joining → Pair → Ending → Option Joining
by_seg Six w j p e = by_j6 w j p e
by_seg Seven w j p e = by_j7 w j p e

-- it applies
abbrev pub has_seg : SegStep → Basis → Joining → Pair → Ending → Bool
has_seg step w j p e = is_some (by_seg step w j p e)

-- it does not apply to any ending
abbrev pub no_seg : SegStep → Basis → Joining → Pair → Bool
no_seg Six w j p = no_j6 w j p
no_seg Seven w j p = no_j7 w j p

-- the end arguments of an edge that is a Seg of a predicate to a node
abbrev pub ends_to : PredId → NodeId → Edge → Option (List NodeId)
ends_to pred stop (Block a shape fields) = None
ends_to pred stop (Ind a own args) = None
ends_to pred stop (Seg a args own «end» ends) = only_if (own.0 == pred.0 && end.0 == stop.0) (Some ends)

-- a pair's nodes are pointers
abbrev pub are_pointers : Joining → Pair → Bool
are_pointers j p = has_kind j.left.state.kinds Ptr p.0 && has_kind j.right.state.kinds Ptr p.1

-- J6 closes the pair
abbrev pub closed_by : SegStep → Side → Pair → Joining → Joining
closed_by Six side p j = closing (across side) p j
closed_by Seven side p j = j

-- the join by the Seg of edges that were found, and what the other side gives
abbrev pub seg_joined : Basis → Joining → Ending → Pair → KeptSeg × KeptPart → Option Joining
seg_joined w j e p f =
    option_and_then (λ mine. joined_from j e.side mine (seen_part (half j (across e.side)).state f.1))
    (made_seg w j e.side p e.pred (seen_seg f.0))

-- what comes of the step, if such were found
abbrev pub seg_found : SegStep → Basis → Joining → Ending → Pair → Option (KeptSeg × KeptPart) → Option Joining
seg_found step w j e p found = option_map (closed_by step e.side p) (option_and_then (seg_joined w j e p) found)

-- a Seg
abbrev pub is_seg : Edge → Bool
is_seg (Block a shape fields) = false
is_seg (Ind a pred args) = false
is_seg (Seg a args pred «end» ends) = true

-- the other side gives one
abbrev pub GivesSeg : Option (KeptSeg × KeptPart) → Type 0
GivesSeg found = (f : KeptSeg × KeptPart) → found ≡ Some f → is_seg f.1.edge ≡ true

-- the endings of a predicate on a side
abbrev pub endings_on : Joining → PredId → Side → List Ending
endings_on j pred side = map (λ place. record { pred = pred; side = side; place = place }) (range_with_len 0 (length j.pairs))

-- and on both
abbrev pub endings_of : Joining → PredId → List Ending
endings_of j pred = flat_map (endings_on j pred) (Left ∷ Right ∷ [])

-- ---- J4 and J5

-- J4, by either side's Ind
abbrev pub by_either : Basis → Joining → Pair → PredId → Option Joining
by_either w j p pred = option_or (by_ind w j p pred Left) (by_ind w j p pred Right)

-- the join by a side's Ind, and the Ind of the other side's edges that were found
abbrev pub four_joined : Basis → Joining → Pair → PredId → OtherFold → Option Joining
four_joined w j p pred f =
    option_and_then (λ theirs. joined_from j f.side (seen_part (half j f.side).state f.mine) theirs)
    (made_ind w j (across f.side) p pred (seen_ind f.fold))

-- the side gives an Ind
abbrev pub GivesInd : Option OtherFold → Type 0
GivesInd found = (f : OtherFold) → found ≡ Some f → is_ind f.mine.edge ≡ true

-- the join by the Inds of both sides' edges that were found
abbrev pub five_joined : Basis → Joining → Pair → PredId → KeptInd × KeptInd → Option Joining
five_joined w j p pred f =
    option_and_then (λ both. joined j both.0 both.1)
    (option_zip (made_ind w j Left p pred (seen_ind f.0)) (made_ind w j Right p pred (seen_ind f.1)))

-- J4 or J5 applies with a predicate, where J6 and J7 do not
abbrev pub has_fold : Basis → Joining → Pair → PredId → Bool
has_fold w j p pred = is_some (by_either w j p pred) || is_some (by_folds w j p pred)

-- ---- all steps

-- J6 or J7 applies and goes before the step
abbrev pub gives_way : Basis → Joining → Pair → JoinStep → Bool
gives_way w j p J1 = not (no_j6 w j p)
gives_way w j p J2 = not (no_j6 w j p)
gives_way w j p J3 = not (no_j6 w j p && no_j7 w j p)
gives_way w j p (J4 pred) = not (no_j6 w j p && no_j7 w j p)
gives_way w j p (J5 pred) = not (no_j6 w j p && no_j7 w j p)
gives_way w j p (J6 pred side place) = false
gives_way w j p (J7 pred side place) = not (no_j6 w j p)

-- the step where none goes before it
abbrev pub by_step : Basis → Joining → Pair → JoinStep → Option Joining
by_step w j p J1 = by_both are_blocks j p
by_step w j p J2 = by_both are_inds j p
by_step w j p J3 = by_both are_segs j p
by_step w j p (J4 pred) = by_either w j p pred
by_step w j p (J5 pred) = by_folds w j p pred
by_step w j p (J6 pred side place) = by_j6 w j p (record { pred = pred; side = side; place = place })
by_step w j p (J7 pred side place) = by_j7 w j p (record { pred = pred; side = side; place = place })

-- any step applies
abbrev pub has_step : Basis → Joining → Pair → Bool
has_step w j p = not (no_j6 w j p && no_j7 w j p) || has_both j p || list_any (has_fold w j p) (predicates w)
