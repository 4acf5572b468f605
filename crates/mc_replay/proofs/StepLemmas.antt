-- Steps: what is found, named and joined.
use Rattle.std.proofs.Common.{◌≡◌, Bool, true, false, List, [], ◌∷◌, ◌++◌, Option, Some, None, Ok, Err, IfOk, map, length, slice_get, refl, sym, ap, ap₂, subst}
use Rattle.std.proofs.Common.{◌∙◌}
use Rattle.std.specs.Prelude.{Result, ◌==◌, ◌&&◌, ◌||◌, not, is_some, is_none, option_map, option_and_then}
use Rattle.std.specs.List.{list_any, list_all}
use Rattle.std.specs.Option.{option_zip}
use Rattle.mc_base.specs.declared.ids.EdgeId.{EdgeId}
use Rattle.mc_base.specs.declared.ids.NodeId.{NodeId}
use Rattle.mc_base.specs.declared.ids.PredId.{PredId}
use Rattle.mc_state.specs.declared.graph.edge.Edge.{Edge}
use Rattle.mc_state.specs.declared.graph.edge.Edge.TheVariants.{Block, Ind, Seg}
use Rattle.mc_state.specs.Graph.Graph.{Edges, without}
use Rattle.mc_state.specs.Named.{IndParts, SegParts, ind_of, seg_of, others}
use Rattle.mc_state.specs.declared.line.JoinStep.{JoinStep}
use Rattle.mc_state.specs.declared.line.JoinStep.TheVariants.{J1, J2, J3, J4, J5, J6, J7}
use Rattle.mc_state.specs.declared.line.Side.{Side}
use Rattle.mc_state.specs.declared.line.Side.TheVariants.{Left, Right}
use Rattle.mc_state.specs.State.{State}
use Rattle.mc_pure_ops.specs.Join.Joint.{Pairs}
use Rattle.mc_joins.specs.Joinings.{Half, Joining, Pair, across, half, of_side, with_pairs, edge_at, next_pair}
use Rattle.mc_joins.specs.Parts.{Basis, Named, Part, nodes_of_args, ended_part, as_it_is, empty_seg, folded_ind, guessed_seg}
use Rattle.mc_joins.specs.Steps.{Ending, pairs_of, edge_for, joined, joined_from, is_ind, edge_there, only_if, closing, may_end, uses_edge, six_with, six_to}
use Rattle.mc_joins.specs.Steps.{six_ends, by_j6, is_seg_to, seven_ends, seven_with, seven_from, by_j7, no_j6, no_j7, by_both, are_blocks, are_inds, are_segs}
use Rattle.mc_joins.specs.Steps.{four_args, four_with, four_from, by_ind, by_folds, step_at, all_steps, is_stuck, predicates, endings}
use Rattle.mc_replay.specs.declared.joining.Half.{Half as KeptHalf}
use Rattle.mc_replay.specs.declared.joining.Joining.{Joining as Kept}
use Rattle.mc_replay.specs.declared.folds.Part.{Part as KeptPart}
use Rattle.mc_replay.specs.declared.folds.SegFold.{SegFold as KeptSeg}
use Rattle.mc_replay.specs.declared.steps.OtherFold.{OtherFold}
use Rattle.mc_replay.specs.declared.steps.SegStep.{SegStep}
use Rattle.mc_replay.specs.declared.steps.SegStep.TheVariants.{Six, Seven}
use Rattle.mc_replay.specs.Folds.{IndFound, SegFound, OnlyNames, seen_part, seen_ind, seen_seg, ind_fold_for, seg_fold, partner_ends, made_ind, made_seg}
use Rattle.mc_replay.specs.Folds.{named_ind}
use Rattle.mc_replay.specs.Joined.{seen, seen_half}
use Rattle.mc_replay.specs.Named.{TellsFrom, nodes_of_both}
use Rattle.mc_replay.specs.Steps.{TellsBoth, has_both, by_seg, has_seg, ends_to, are_pointers, closed_by, seg_joined, seg_found, is_seg, GivesSeg, by_either}
use Rattle.mc_replay.specs.Steps.{four_joined, GivesInd, has_fold, gives_way, by_step, has_step}
use Rattle.mc_replay.proofs.FoldLemmas.{ind_bridge, seg_bridge, joined_from_anew, other_stays, tells_both}
use Rattle.mc_replay.proofs.StepLists.{any_map, any_two, any_seg, all_none, not_twice}
use Rattle.std.proofs.lemmas.List.Folds.{list_any-append}

-- ---- options and tests

pub same_some : {X : Type 0} {x y : X} → Some x ≡ Some y → x ≡ y
same_some e = cc

map_some : {X Y : Type 0} (f : X → Y) (o : Option X) (y : Y) → option_map f o ≡ Some y → (x : X) × (o ≡ Some x) × (f x ≡ y)
map_some f None y e = absurd (cc e)
map_some f (Some x) y e = (x, refl, same_some e)

then_each : {X Y : Type 0} (f g : X → Option Y) → ((x : X) → f x ≡ g x) → (o : Option X) → option_and_then f o ≡ option_and_then g o
then_each f g h None = refl
then_each f g h (Some x) = h x

then_then : {X Y Z : Type 0} (g : Y → Option Z) (f : X → Option Y) (o : Option X)
    → option_and_then g (option_and_then f o) ≡ option_and_then (λ x. option_and_then g (f x)) o
then_then g f None = refl
then_then g f (Some x) = refl

is_map : {X Y : Type 0} (f : X → Y) (o : Option X) → is_some (option_map f o) ≡ is_some o
is_map f None = refl
is_map f (Some x) = refl

-- what holds of every good answer
pub if_ok_all : {X E : Type 0} {P Q R S : X → Type 0} → (r : Result X E) → ((x : X) → P x → Q x → R x → S x) → IfOk r P → IfOk r Q → IfOk r R → IfOk r S
if_ok_all (Ok x) f p q r = f x p q r
if_ok_all (Err e) f p q r = tt

none_there : {X : Type 0} (o : Option X) → is_some o ≡ false → is_none o ≡ true
none_there None e = refl
none_there (Some x) e = absurd (cc e)

pub same_map : {X : Type 0} (o : Option X) → o ≡ option_map (λ x. x) o
same_map None = refl
same_map (Some x) = refl

four_true : (a b c d : Bool) → (a && b) ≡ true → (c && d) ≡ true → (a && b && c && d) ≡ true
four_true true true true true e f = refl
four_true true true true false e f = absurd (cc f)
four_true true true false d e f = absurd (cc f)
four_true true false c d e f = absurd (cc e)
four_true false b c d e f = absurd (cc e)

-- ---- an edge of the result

pub others_append : (es : Edges) (used more : List EdgeId) → others es (used ++ more) ≡ others (others es used) more
others_append es [] more = refl
others_append es (id ∷ used) more = others_append (without es id) used more

module _ (old : Kept) (left right : KeptPart) where
  abbrev after : Edges → Edges → Pairs → List Edge → Joining
  after ls rs pairs edges =
      record {
        left = record { state = old.left.state; unused = ls };
        right = record { state = old.right.state; unused = rs };
        pairs = pairs;
        edges = edges;
        closed = old.closed.items;
      }

  abbrev less : Edges → List EdgeId → List EdgeId → Edges
  less es used more = others (others es used) more

  abbrev edge_put : Pairs → Option Edge → Option Joining
  edge_put pairs o =
      option_map (λ e. after (less old.left.state.graph.edges old.left.used.items left.used.items)
      (less old.right.state.graph.edges old.right.used.items right.used.items) pairs (old.edges.items ++ e ∷ [])) o

  pub put_joins : (ls rs : List EdgeId) (pairs : Pairs) (edges : List Edge) (e : Edge)
      → pairs ≡ with_pairs old.pairs.items (pairs_of left.edge right.edge) → Some e ≡ edge_for pairs left.edge right.edge
      → ls ≡ old.left.used.items ++ left.used.items → rs ≡ old.right.used.items ++ right.used.items → edges ≡ old.edges.items ++ e ∷ []
      → joined (seen old) (seen_part old.left.state left) (seen_part old.right.state right)
      ≡ Some (after (others old.left.state.graph.edges ls) (others old.right.state.graph.edges rs) pairs edges)
  put_joins ls rs pairs edges e ps made lu ru es =
      let lefts : less old.left.state.graph.edges old.left.used.items left.used.items ≡ others old.left.state.graph.edges ls =
      sym (ap (others old.left.state.graph.edges) lu ∙ others_append old.left.state.graph.edges old.left.used.items left.used.items) in
      let rights : less old.right.state.graph.edges old.right.used.items right.used.items ≡ others old.right.state.graph.edges rs =
      sym (ap (others old.right.state.graph.edges) ru ∙ others_append old.right.state.graph.edges old.right.used.items right.used.items) in
      ap (λ (z : Pairs). edge_put z (edge_for z left.edge right.edge)) (sym ps)
      ∙ (ap (edge_put pairs) (sym made)
      ∙ (ap₂ (λ (x y : Edges). Some (after x y pairs (old.edges.items ++ e ∷ []))) lefts rights
      ∙ ap (λ (z : List Edge). Some (after (others old.left.state.graph.edges ls) (others old.right.state.graph.edges rs) pairs z)) (sym es)))

-- two Segs make an edge, and so do two Inds
segs_make : (pairs : Pairs) (e f : Edge) → is_seg e ≡ true → is_seg f ≡ true → is_some (edge_for pairs e f) ≡ true
segs_make pairs (Seg a args pred «end» ends) (Seg b others own stop stops) l r = refl
segs_make pairs (Seg a args pred «end» ends) (Block b shape fields) l r = absurd (cc r)
segs_make pairs (Seg a args pred «end» ends) (Ind b own others) l r = absurd (cc r)
segs_make pairs (Block a shape fields) f l r = absurd (cc l)
segs_make pairs (Ind a pred args) f l r = absurd (cc l)

inds_make : (pairs : Pairs) (e f : Edge) → is_ind e ≡ true → is_ind f ≡ true → is_some (edge_for pairs e f) ≡ true
inds_make pairs (Ind a pred args) (Ind b own others) l r = refl
inds_make pairs (Ind a pred args) (Block b shape fields) l r = absurd (cc r)
inds_make pairs (Ind a pred args) (Seg b others own stop stops) l r = absurd (cc r)
inds_make pairs (Block a shape fields) f l r = absurd (cc l)
inds_make pairs (Seg a args pred «end» ends) f l r = absurd (cc l)

joins_made : (j : Joining) (l r : Part) → is_some (joined j l r) ≡ is_some (edge_for (with_pairs j.pairs (pairs_of l.edge r.edge)) l.edge r.edge)
joins_made j l r = is_map _ (edge_for (with_pairs j.pairs (pairs_of l.edge r.edge)) l.edge r.edge)

segs_join : (j : Joining) (side : Side) (mine theirs : Part) → is_seg mine.edge ≡ true → is_seg theirs.edge ≡ true
    → is_some (joined_from j side mine theirs) ≡ true
segs_join j Left mine theirs m t = joins_made j mine theirs ∙ segs_make _ mine.edge theirs.edge m t
segs_join j Right mine theirs m t = joins_made j theirs mine ∙ segs_make _ theirs.edge mine.edge t m

inds_join : (j : Joining) (side : Side) (mine theirs : Part) → is_ind mine.edge ≡ true → is_ind theirs.edge ≡ true
    → is_some (joined_from j side mine theirs) ≡ true
inds_join j Left mine theirs m t = joins_made j mine theirs ∙ inds_make _ mine.edge theirs.edge m t
inds_join j Right mine theirs m t = joins_made j theirs mine ∙ inds_make _ theirs.edge mine.edge t m

-- both sides' edges as they are
pub both_at : (of_form : Edge → Edge → Bool) (j : Joining) (p : Pair) (l r : EdgeId × Edge) → edge_at j Left p ≡ Some l → edge_at j Right p ≡ Some r
    → of_form l.1 r.1 ≡ true
    → by_both of_form j p ≡ joined j (as_it_is j.left l) (as_it_is j.right r)
both_at of_form j p l r left right is =
    ap₂ (λ (x y : Option (EdgeId × Edge)). option_and_then (λ both. only_if (of_form both.0.1 both.1.1) (joined j (as_it_is j.left both.0)
    (as_it_is j.right both.1))) (option_zip x y)) left right
    ∙ ap (λ (b : Bool). only_if b (joined j (as_it_is j.left l) (as_it_is j.right r))) is

-- ---- where nodes were named in one state

pub tells_side : (w : Basis) (j : Kept) (side : Side) → TellsBoth w j → TellsFrom w (half (seen j) side).state
tells_side w j Left t = t.left
tells_side w j Right t = t.right

-- states that are the same
pub tells_kept : (w : Basis) (old new : Kept) → new.left.state ≡ old.left.state → new.right.state ≡ old.right.state → TellsBoth w old → TellsBoth w new
tells_kept w old new l r t =
    record { left = subst (λ (s : State). TellsFrom w s) (sym l) t.left; right = subst (λ (s : State). TellsFrom w s) (sym r) t.right }

module _ (side : Side) (old new : Kept) (names : OnlyNames side old new) where
  pub same_from : (at : Side) (mine theirs : Part) → joined_from (seen new) at mine theirs ≡ joined_from (seen old) at mine theirs
  same_from at mine theirs =
      ap (λ (z : Joining). joined_from z at mine theirs) names.rest ∙ joined_from_anew side (half (seen new) side).state (seen old) at mine theirs

  pub same_other : (half (seen new) (across side)).state ≡ (half (seen old) (across side)).state
  same_other = ap (λ (h : Half). h.state) (other_stays side old new names)

  pub tells_named : (w : Basis) → TellsBoth w old → TellsBoth w new
  tells_named w t = let both = tells_both side old new names w t.left t.right in record { left = both.0; right = both.1 }

-- ---- folds into a Seg

module _ (w : Basis) (j : Joining) (e : Ending) (p : Pair) where
  abbrev with_other : Part → Part → Option Joining
  with_other theirs mine = joined_from j e.side mine theirs

  -- what is named of edges that were found, with what the other side gives
  abbrev pub seg_with : Part → SegFound → Option Joining
  seg_with theirs f = option_and_then (with_other theirs) (made_seg w j e.side p e.pred f)

  abbrev last_named : SegFound → Named → Named → Part
  last_named f first last = record { state = last.state; edge = Seg (of_side e.side p) first.nodes e.pred f.stop last.nodes; used = f.used }

  module _ (theirs : Part) (f : SegFound) where
    module _ (is : is_seg theirs.edge ≡ true) where
      seg_last : (first : Named) (o : Option Named) → is_some (option_and_then (with_other theirs) (option_map (last_named f first) o)) ≡ is_some o
      seg_last first None = refl
      seg_last first (Some last) = segs_join j e.side (last_named f first last) theirs refl is

      seg_first : (o : Option Named) → is_some (option_and_then (with_other theirs) (option_and_then (ended_part w e.side p e.pred f.stop f.ends f.used) o))
          ≡ is_some (option_and_then (λ first. nodes_of_args w e.pred first.state f.ends) o)
      seg_first None = refl
      seg_first (Some first) = seg_last first (nodes_of_args w e.pred first.state f.ends)

      pub seg_applies : is_some (seg_with theirs f) ≡ is_some (nodes_of_both w e.pred (half j e.side).state f.args f.ends)
      seg_applies = seg_first (nodes_of_args w e.pred (half j e.side).state f.args)

    -- J6 asks that an edge is used
    abbrev six_by : Part → Option Joining
    six_by mine = only_if (uses_edge mine) (option_map (closing (across e.side) p) (with_other theirs mine))

    only_nothing : (b : Bool) → None ≡ only_if b (option_map (closing (across e.side) p) None)
    only_nothing true = refl
    only_nothing false = refl

    six_last : (first : Named) (o : Option Named) → option_and_then six_by (option_map (last_named f first) o)
        ≡ only_if (not (length f.used == 0)) (option_map (closing (across e.side) p) (option_and_then (with_other theirs) (option_map (last_named f first) o)))
    six_last first None = only_nothing (not (length f.used == 0))
    six_last first (Some last) = refl

    six_first : (o : Option Named) → option_and_then six_by (option_and_then (ended_part w e.side p e.pred f.stop f.ends f.used) o)
        ≡ only_if (not (length f.used == 0)) (option_map (closing (across e.side) p) (option_and_then (with_other theirs) (option_and_then
        (ended_part w e.side p e.pred f.stop f.ends f.used) o)))
    six_first None = only_nothing (not (length f.used == 0))
    six_first (Some first) = six_last first (nodes_of_args w e.pred first.state f.ends)

    six_made : option_and_then six_by (made_seg w j e.side p e.pred f)
        ≡ only_if (not (length f.used == 0)) (option_map (closing (across e.side) p) (seg_with theirs f))
    six_made = six_first (nodes_of_args w e.pred (half j e.side).state f.args)

  abbrev pub empty : Part
  empty = empty_seg w (half j (across e.side)) e.pred (of_side (across e.side) p)

  abbrev six_then : SegFound → Option Joining
  six_then f = only_if (not (length f.used == 0)) (option_map (closing (across e.side) p) (seg_with empty f))

  module _ (q : Pair) (there : slice_get j.pairs e.place ≡ Some q) where
    module _ (may : may_end e.side p q ≡ true) where
      six_at : by_j6 w j p e ≡ option_and_then six_then (seg_fold w j e.side p e.pred (of_side e.side q) (six_ends w j e q))
      six_at =
          ap (option_and_then (six_to w j p e)) there
          ∙ (ap (λ (b : Bool). only_if b (option_and_then (six_with w j p e) (guessed_seg w j e.side p e.pred (of_side e.side q) (six_ends w j e q)))) may
          ∙ (ap (option_and_then (six_with w j p e)) (seg_bridge w j e.side p e.pred (of_side e.side q) (six_ends w j e q))
          ∙ (then_then (six_with w j p e) (made_seg w j e.side p e.pred) (seg_fold w j e.side p e.pred (of_side e.side q) (six_ends w j e q))
          ∙ then_each (λ f. option_and_then (six_with w j p e) (made_seg w j e.side p e.pred f)) six_then (λ f. six_made empty f) (seg_fold w j e.side p e.pred
          (of_side e.side q) (six_ends w j e q)))))

      pub six_none : seg_fold w j e.side p e.pred (of_side e.side q) (six_ends w j e q) ≡ None → by_j6 w j p e ≡ None
      six_none is = six_at ∙ ap (option_and_then six_then) is

      pub six_empty : (f : SegFound) → seg_fold w j e.side p e.pred (of_side e.side q) (six_ends w j e q) ≡ Some f → (length f.used == 0) ≡ true
          → by_j6 w j p e ≡ None
      six_empty f is none =
          six_at ∙ (ap (option_and_then six_then) is ∙ ap (λ (b : Bool). only_if (not b) (option_map (closing (across e.side) p) (seg_with empty f))) none)

      pub six_some : (f : SegFound) → seg_fold w j e.side p e.pred (of_side e.side q) (six_ends w j e q) ≡ Some f → (length f.used == 0) ≡ false
          → by_j6 w j p e ≡ option_map (closing (across e.side) p) (seg_with empty f)
      six_some f is some =
          six_at ∙ (ap (option_and_then six_then) is ∙ ap (λ (b : Bool). only_if (not b) (option_map (closing (across e.side) p) (seg_with empty f))) some)

    ends_are : (edge : Edge) (ends : List NodeId) → ends_to e.pred (of_side (across e.side) q) edge ≡ Some ends
        → (s : SegParts) × (seg_of (Some edge) ≡ Some s) × ((s.pred.0 == e.pred.0 && s.stop.0 == (of_side (across e.side) q).0) ≡ true) × (s.ends ≡ ends)
    ends_are (Block a shape fields) ends is = absurd (cc is)
    ends_are (Ind a own args) ends is = absurd (cc is)
    ends_are (Seg a args own stop stops) ends is = at (own.0 == e.pred.0 && stop.0 == (of_side (across e.side) q).0) refl is
      where
        at : (b : Bool) → (own.0 == e.pred.0 && stop.0 == (of_side (across e.side) q).0) ≡ b → only_if b (Some stops) ≡ Some ends
            → (s : SegParts) × (seg_of (Some (Seg a args own stop stops)) ≡ Some s) × ((s.pred.0 == e.pred.0 && s.stop.0 == (of_side (across e.side) q).0)
            ≡ true) × (s.ends ≡ ends)
        at true b is = (record { at = a; args = args; pred = own; stop = stop; ends = stops }, refl, b, same_some is)
        at false b is = absurd (cc is)

    module _ (entry : EdgeId × Edge) (edge : edge_at j (across e.side) p ≡ Some entry) (ends : List NodeId)
        (to : ends_to e.pred (of_side (across e.side) q) entry.1 ≡ Some ends) (pointers : are_pointers j q ≡ true) where
      abbrev their_seg : Part
      their_seg = as_it_is (half j (across e.side)) entry

      pub seven_at : (o : Option SegFound) → o ≡ seg_fold w j e.side p e.pred (of_side e.side q) (partner_ends w j e.side e.pred (of_side e.side q) ends)
          → by_j7 w j p e ≡ option_and_then (seg_with their_seg) o
      seven_at o is =
          let s = ends_are entry.1 ends to in
          let seg : is_seg_to j e q s.0 ≡ true =
          four_true (s.0.pred.0 == e.pred.0) (s.0.stop.0 == (of_side (across e.side) q).0) _ _ s.2 pointers in
          ap (λ (x : Option Pair). option_and_then (λ q. option_and_then (seven_from w j p e q) (edge_at j (across e.side) p)) x) there
          ∙ (ap (option_and_then (seven_from w j p e q)) edge
          ∙ (ap (option_and_then (seven_with w j p e q entry)) s.1
          ∙ (ap (λ (b : Bool). only_if b (option_and_then (with_other their_seg) (guessed_seg w j e.side p e.pred (of_side e.side q)
          (seven_ends w j e q s.0)))) seg
          ∙ (ap (option_and_then (with_other their_seg)) (seg_bridge w j e.side p e.pred (of_side e.side q) (seven_ends w j e q s.0))
          ∙ (then_then (with_other their_seg) (made_seg w j e.side p e.pred) (seg_fold w j e.side p e.pred (of_side e.side q) (seven_ends w j e q s.0))
          ∙ ap (option_and_then (seg_with their_seg))
          (ap (λ (ns : List NodeId). seg_fold w j e.side p e.pred (of_side e.side q) (partner_ends w j e.side e.pred (of_side e.side q) ns)) s.3 ∙ sym is))))))

-- the step applies where what was found can be named
pub seg_has : (step : SegStep) (w : Basis) (j : Joining) (e : Ending) (p : Pair) (found : Option (KeptSeg × KeptPart)) (f : KeptSeg × KeptPart) → found ≡ Some f
    → GivesSeg found → by_seg step w j p e ≡ seg_found step w j e p found
    → has_seg step w j p e ≡ is_some (nodes_of_both w e.pred (half j e.side).state f.0.args.items f.0.ends.items)
seg_has step w j e p found f is gives by =
    ap (λ (o : Option Joining). is_some o) (by ∙ ap (λ (o : Option (KeptSeg × KeptPart)). seg_found step w j e p o) is)
    ∙ (is_map (closed_by step e.side p) (seg_joined w j e p f) ∙ seg_applies w j e p (seen_part (half j (across e.side)).state f.1) (seen_seg f.0) (gives f is))

-- an edge with end arguments of a Seg is a Seg
pub ends_seg : (pred : PredId) (stop : NodeId) (edge : Edge) (ends : List NodeId) → ends_to pred stop edge ≡ Some ends → is_seg edge ≡ true
ends_seg pred stop (Block a shape fields) ends is = absurd (cc is)
ends_seg pred stop (Ind a own args) ends is = absurd (cc is)
ends_seg pred stop (Seg a args own last stops) ends is = refl

-- the empty segment, as code makes it
pub empty_made : (w : Basis) (j : Joining) (e : Ending) (p : Pair) (h : KeptHalf) (other : Side) (at : NodeId) (part : KeptPart)
    → other ≡ across e.side → seen_half h ≡ half j other → at ≡ of_side other p
    → seen_part h.state part ≡ empty_seg w (seen_half h) e.pred at → seen_part (half j (across e.side)).state part ≡ empty w j e p
empty_made w j e p h other at part across_is half_is at_is made =
    let same : seen_half h ≡ half j (across e.side) = half_is ∙ ap (half j) across_is in
    ap (λ (x : Half). seen_part x.state part) (sym same)
    ∙ (made
    ∙ (ap (λ (x : Half). empty_seg w x e.pred at) same
    ∙ ap (λ (n : NodeId). empty_seg w (half j (across e.side)) e.pred n) (at_is ∙ ap (λ (s : Side). of_side s p) across_is)))

-- what is named and put is what comes of the step
module _ (w : Basis) (old mid : Kept) (e : Ending) (p : Pair) (fold : KeptSeg) (theirs : KeptPart) (names : OnlyNames e.side old mid) where
  pub seg_put : (mine : KeptPart) (to : Option Joining) → Some (seen_part (half (seen mid) e.side).state mine) ≡ made_seg w (seen old) e.side p e.pred
      (seen_seg fold)
      → joined_from (seen mid) e.side (seen_part (half (seen mid) e.side).state mine) (seen_part (half (seen mid) (across e.side)).state theirs) ≡ to
      → seg_joined w (seen old) e p (fold, theirs) ≡ to
  seg_put mine to made put =
      ap (option_and_then (λ x. joined_from (seen old) e.side x (seen_part (half (seen old) (across e.side)).state theirs))) (sym made)
      ∙ (ap (λ (s : State). joined_from (seen old) e.side (seen_part (half (seen mid) e.side).state mine) (seen_part s theirs)) (sym
      (same_other e.side old mid names))
      ∙ (sym (same_from e.side old mid names e.side (seen_part (half (seen mid) e.side).state mine) (seen_part (half (seen mid) (across e.side)).state theirs))
      ∙ put))

  pub seg_unmade : None ≡ made_seg w (seen old) e.side p e.pred (seen_seg fold) → seg_joined w (seen old) e p (fold, theirs) ≡ None
  seg_unmade made = ap (option_and_then (λ x. joined_from (seen old) e.side x (seen_part (half (seen old) (across e.side)).state theirs))) (sym made)

-- ---- folds into an Ind

module _ (w : Basis) (j : Joining) (p : Pair) (pred : PredId) (side : Side) where
  abbrev with_mine : Part → Part → Option Joining
  with_mine mine theirs = joined_from j side mine theirs

  abbrev pub ind_with : Part → IndFound → Option Joining
  ind_with mine f = option_and_then (with_mine mine) (made_ind w j (across side) p pred f)

  pub ind_applies : (mine : Part) (f : IndFound) → is_ind mine.edge ≡ true → is_some (ind_with mine f) ≡ is_some (nodes_of_args w pred (half j
      (across side)).state f.args)
  ind_applies mine f is = at (nodes_of_args w pred (half j (across side)).state f.args)
    where
      at : (o : Option Named) → is_some (option_and_then (with_mine mine) (option_map (named_ind (across side) p pred f.used) o)) ≡ is_some o
      at None = refl
      at (Some named) = inds_join j side mine (named_ind (across side) p pred f.used named) is refl

  module _ (entry : EdgeId × Edge) (edge : edge_at j side p ≡ Some entry) (args : List NodeId)
      (to : option_map (λ (i : IndParts). i.args) (ind_of pred (Some entry.1)) ≡ Some args) where
    abbrev my_ind : Part
    my_ind = as_it_is (half j side) entry

    pub four_at : is_some (ind_of pred (edge_there j (across side) p)) ≡ false → (o : Option IndFound) → ((i : IndParts) → i.args ≡ args
        → o ≡ ind_fold_for w j side p pred i)
        → by_ind w j p pred side ≡ option_and_then (ind_with my_ind) o
    four_at other o is =
        let i = map_some (λ (i : IndParts). i.args) (ind_of pred (Some entry.1)) args to in
        ap (option_and_then (four_from w j p pred side)) edge
        ∙ (ap (option_and_then (four_with w j p pred side entry)) i.1
        ∙ (ap (λ (b : Bool). only_if b (option_and_then (with_mine my_ind) (folded_ind w j (across side) p pred (four_args w j p pred side i.0)))) (none_there
        (ind_of pred (edge_there j (across side) p)) other)
        ∙ (ap (option_and_then (with_mine my_ind)) (ind_bridge w j (across side) p pred (four_args w j p pred side i.0))
        ∙ (then_then (with_mine my_ind) (made_ind w j (across side) p pred) (ind_fold_for w j side p pred i.0)
        ∙ ap (option_and_then (ind_with my_ind)) (sym (is i.0 i.2))))))

-- an edge with arguments of an Ind is an Ind
ind_there : (pred : PredId) (edge : Edge) (i : IndParts) → ind_of pred (Some edge) ≡ Some i → is_ind edge ≡ true
ind_there pred (Block a shape fields) i is = absurd (cc is)
ind_there pred (Ind a own args) i is = refl
ind_there pred (Seg a args own stop stops) i is = absurd (cc is)

pub gives_ind : (pred : PredId) (edge : Edge) (args : List NodeId) → option_map (λ (i : IndParts). i.args) (ind_of pred (Some edge)) ≡ Some args
    → is_ind edge ≡ true
gives_ind pred edge args to = let i = map_some (λ (i : IndParts). i.args) (ind_of pred (Some edge)) args to in ind_there pred edge i.0 i.1

-- the step applies where what was found can be named
pub four_has : (w : Basis) (j : Joining) (p : Pair) (pred : PredId) (found : Option OtherFold) (f : OtherFold) → found ≡ Some f → GivesInd found
    → by_either w j p pred ≡ option_and_then (four_joined w j p pred) found
    → is_some (by_either w j p pred) ≡ is_some (nodes_of_args w pred (half j (across f.side)).state f.fold.args.items)
four_has w j p pred found f is gives by =
    ap (λ (o : Option Joining). is_some o) (by ∙ ap (option_and_then (four_joined w j p pred)) is)
    ∙ ind_applies w j p pred f.side (seen_part (half j f.side).state f.mine) (seen_ind f.fold) (gives f is)

module _ (w : Basis) (old mid : Kept) (p : Pair) (pred : PredId) (f : OtherFold) (names : OnlyNames (across f.side) old mid) where
  across_twice : (side : Side) → across (across side) ≡ side
  across_twice Left = refl
  across_twice Right = refl

  same_mine : (half (seen mid) f.side).state ≡ (half (seen old) f.side).state
  same_mine =
      subst (λ (s : Side). (half (seen mid) s).state ≡ (half (seen old) s).state) (across_twice f.side) (same_other (across f.side) old mid names)

  four_at_other : (theirs : KeptPart) (to : Option Joining)
      → Some (seen_part (half (seen mid) (across f.side)).state theirs) ≡ made_ind w (seen old) (across f.side) p pred (seen_ind f.fold)
      → joined_from (seen mid) f.side (seen_part (half (seen mid) f.side).state f.mine) (seen_part (half (seen mid) (across f.side)).state theirs) ≡ to
      → four_joined w (seen old) p pred f ≡ to
  four_at_other theirs to made put =
      ap (option_and_then (λ x. joined_from (seen old) f.side (seen_part (half (seen old) f.side).state f.mine) x)) (sym made)
      ∙ (ap (λ (s : State). joined_from (seen old) f.side (seen_part s f.mine) (seen_part (half (seen mid) (across f.side)).state theirs)) (sym same_mine)
      ∙ (sym (same_from (across f.side) old mid names f.side (seen_part (half (seen mid) f.side).state f.mine) (seen_part (half (seen mid)
      (across f.side)).state theirs)) ∙ put))

module _ (w : Basis) (old mid : Kept) (p : Pair) (pred : PredId) (f : OtherFold) (other : Side) (is : other ≡ across f.side) where
  pub four_put : (theirs : KeptPart) (to : Option Joining) → OnlyNames other old mid
      → Some (seen_part (half (seen mid) other).state theirs) ≡ made_ind w (seen old) other p pred (seen_ind f.fold)
      → joined_from (seen mid) f.side (seen_part (half (seen mid) f.side).state f.mine) (seen_part (half (seen mid) (across f.side)).state theirs) ≡ to
      → four_joined w (seen old) p pred f ≡ to
  four_put theirs to names made put =
      four_at_other w old mid p pred f (subst (λ (o : Side). OnlyNames o old mid) is names) theirs to
      (subst (λ (o : Side). Some (seen_part (half (seen mid) o).state theirs) ≡ made_ind w (seen old) o p pred (seen_ind f.fold)) is made) put

  pub four_unmade : None ≡ made_ind w (seen old) other p pred (seen_ind f.fold) → four_joined w (seen old) p pred f ≡ None
  four_unmade made =
      ap (option_and_then (λ x. joined_from (seen old) f.side (seen_part (half (seen old) f.side).state f.mine) x))
      (sym (subst (λ (o : Side). None ≡ made_ind w (seen old) o p pred (seen_ind f.fold)) is made))

-- ---- all steps

pub only_way : (w : Basis) (j : Joining) (p : Pair) (step : JoinStep) → step_at w j p step ≡ only_if (not (gives_way w j p step)) (by_step w j p step)
only_way w j p J1 = ap (λ (b : Bool). only_if b (by_both are_blocks j p)) (not_twice (no_j6 w j p))
only_way w j p J2 = ap (λ (b : Bool). only_if b (by_both are_inds j p)) (not_twice (no_j6 w j p))
only_way w j p J3 = ap (λ (b : Bool). only_if b (by_both are_segs j p)) (not_twice (no_j6 w j p && no_j7 w j p))
only_way w j p (J4 pred) = ap (λ (b : Bool). only_if b (by_either w j p pred)) (not_twice (no_j6 w j p && no_j7 w j p))
only_way w j p (J5 pred) = ap (λ (b : Bool). only_if b (by_folds w j p pred)) (not_twice (no_j6 w j p && no_j7 w j p))
only_way w j p (J6 pred side place) = refl
only_way w j p (J7 pred side place) = ap (λ (b : Bool). only_if b (by_j7 w j p (record { pred = pred; side = side; place = place }))) (not_twice (no_j6 w j p))

pub way_given : (w : Basis) (j : Joining) (p : Pair) (step : JoinStep) → gives_way w j p step ≡ true → step_at w j p step ≡ None
way_given w j p step is = only_way w j p step ∙ ap (λ (b : Bool). only_if (not b) (by_step w j p step)) is

pub way_kept : (w : Basis) (j : Joining) (p : Pair) (step : JoinStep) → gives_way w j p step ≡ false → step_at w j p step ≡ by_step w j p step
way_kept w j p step is = only_way w j p step ∙ ap (λ (b : Bool). only_if (not b) (by_step w j p step)) is

-- ---- whether any step applies

or_end : (x y : Bool) → (x || (y || true)) ≡ true
or_end true y = refl
or_end false true = refl
or_end false false = refl

or_late : (a b c x y : Bool) → (a || (b || (c || (x || (y || true))))) ≡ true
or_late true b c x y = refl
or_late false true c x y = refl
or_late false false true x y = refl
or_late false false false x y = or_end x y

or_parts : (a b c x y : Bool) → (a || (b || (c || (x || (y || false))))) ≡ ((a || b || c) || (x || y))
or_parts true b c x y = refl
or_parts false true c x y = refl
or_parts false false true x y = refl
or_parts false false false true y = refl
or_parts false false false false true = refl
or_parts false false false false false = refl

module _ (w : Basis) (j : Joining) (p : Pair) where
  applies : JoinStep → Bool
  applies step = is_some (step_at w j p step)

  abbrev fours : Bool → Bool
  fours b = list_any (λ pred. is_some (only_if b (by_either w j p pred))) (predicates w)

  abbrev fives : Bool → Bool
  fives b = list_any (λ pred. is_some (only_if b (by_folds w j p pred))) (predicates w)

  abbrev sevens : Bool → Bool
  sevens b = list_any (λ e. is_some (only_if b (by_j7 w j p e))) (endings w j)

  -- any step, by whether J6 and J7 do not apply
  abbrev by_cases : Bool → Bool → Bool
  by_cases a b =
      is_some (only_if a (by_both are_blocks j p))
      || (is_some (only_if a (by_both are_inds j p))
      || (is_some (only_if (a && b) (by_both are_segs j p)) || (fours (a && b) || (fives (a && b) || (not a || sevens a)))))

  cases_are : (a b : Bool) → sevens true ≡ not b → by_cases a b ≡ (not (a && b) || has_both j p || list_any (has_fold w j p) (predicates w))
  cases_are false b is = or_end (fours false) (fives false)
  cases_are true false is =
      ap (λ (z : Bool). is_some (by_both are_blocks j p) || (is_some (by_both are_inds j p) || (false || (fours false || (fives false || z))))) is
      ∙ or_late (is_some (by_both are_blocks j p)) (is_some (by_both are_inds j p)) false (fours false) (fives false)
  cases_are true true is =
      ap (λ (z : Bool). is_some (by_both are_blocks j p) || (is_some (by_both are_inds j p) || (is_some (by_both are_segs j p) || (fours true ||
      (fives true || z))))) is
      ∙ (or_parts (is_some (by_both are_blocks j p)) (is_some (by_both are_inds j p)) (is_some (by_both are_segs j p)) (fours true) (fives true)
      ∙ ap (λ (z : Bool). has_both j p || z) (sym (any_two (λ pred. is_some (by_either w j p pred)) (λ pred. is_some (by_folds w j p pred)) (predicates w))))

  any_step : list_any (λ step. is_some (step_at w j p step)) (all_steps w j) ≡ by_cases (no_j6 w j p) (no_j7 w j p)
  any_step =
      let test : JoinStep → Bool = λ step. is_some (step_at w j p step) in
      let four : List JoinStep = map J4 (predicates w) in
      let five : List JoinStep = map J5 (predicates w) in
      let six : List JoinStep = map (λ e. J6 e.pred e.side e.place) (endings w j) in
      let seven : List JoinStep = map (λ e. J7 e.pred e.side e.place) (endings w j) in
      let rest : list_any test (four ++ (five ++ (six ++ seven))) ≡ (fours (no_j6 w j p && no_j7 w j p) || (fives (no_j6 w j p && no_j7 w j p) || (not
      (no_j6 w j p) || sevens (no_j6 w j p)))) =
      list_any-append test four (five ++ (six ++ seven))
      ∙ ap₂ (λ (x y : Bool). x || y) (any_map test J4 (predicates w))
      (list_any-append test five (six ++ seven)
      ∙ ap₂ (λ (x y : Bool). x || y) (any_map test J5 (predicates w))
      (list_any-append test six seven
      ∙ ap₂ (λ (x y : Bool). x || y) (any_map test (λ (e : Ending). J6 e.pred e.side e.place) (endings w j) ∙ any_seg Six w j p)
      (any_map test (λ (e : Ending). J7 e.pred e.side e.place) (endings w j)))) in
      ap (λ (z : Bool). test J1 || (test J2 || (test J3 || z))) rest

  steps_are : list_any (λ step. is_some (step_at w j p step)) (all_steps w j) ≡ has_step w j p
  steps_are = any_step ∙ cases_are (no_j6 w j p) (no_j7 w j p) (any_seg Seven w j p)

  stuck_at : Option Pair → Bool
  stuck_at o = is_some o && list_all (λ step. is_none (option_and_then (λ q. step_at w j q step) o)) (all_steps w j)

  pub stuck_is : next_pair j ≡ Some p → is_stuck w j ≡ not (has_step w j p)
  unfolding stuck_at
  stuck_is next =
      ap stuck_at next ∙ (all_none (λ step. step_at w j p step) (all_steps w j) ∙ ap not steps_are)
