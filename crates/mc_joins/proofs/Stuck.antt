-- A join is stuck exactly where no step at all applies.
use Rattle.std.proofs.Common.{◌≡◌, ℕ, Bool, true, false, List, [], ◌∷◌, ◌++◌, map, Option, Some, None, slice_get, refl, ap, ◌∙◌, inl, inr}
use Rattle.std.specs.Prelude.{◌&&◌, is_some, is_none, flat_map, option_and_then, option_map, length}
use Rattle.std.specs.List.{list_all, range_with_len}
use Rattle.std.specs.Option.{option_or, option_zip}
use Rattle.mc_base.specs.declared.ids.EdgeId.{EdgeId}
use Rattle.mc_base.specs.declared.ids.NodeId.{NodeId}
use Rattle.mc_base.specs.declared.ids.PredId.{PredId}
use Rattle.mc_flow.specs.declared.defs.rules.Def.{Def}
use Rattle.mc_state.specs.declared.graph.edge.Edge.{Edge}
use Rattle.mc_state.specs.declared.line.Side.{Side}
use Rattle.mc_state.specs.declared.line.Side.TheVariants.{Left, Right}
use Rattle.mc_state.specs.declared.line.JoinStep.{JoinStep}
use Rattle.mc_state.specs.declared.line.JoinStep.TheVariants.{J1, J2, J3, J4, J5, J6, J7}
use Rattle.mc_state.specs.declared.terms.Term.{Term}
use Rattle.mc_state.specs.State.{State}
use Rattle.mc_state.specs.Terms.{plain}
use Rattle.mc_state.specs.Named.{SegParts, IndParts, seg_of, ind_of}
use Rattle.mc_cover.specs.First.{Choice, first_cover, first_seg_cover}
use Rattle.mc_joins.specs.Joinings.{Joining, Pair, half, across, of_side, free_edges, edge_at, next_pair}
use Rattle.mc_joins.specs.Laws.{StuckIsEvery}
use Rattle.mc_joins.specs.Parts.{Basis, Part, Named, nodes_of_terms, nodes_of_args, ind_part, ended_part, seg_part, folded_ind, folded_seg, guessed, guessed_seg, as_it_is}
use Rattle.mc_joins.specs.Steps.{Ending, only_if, may_end, joined_from, six_ends, six_with, six_to, by_j6, seven_ends, seven_with, seven_from, by_j7, is_seg_to, predicates, endings, no_j6, no_j7, edge_there, four_args, four_with, four_from, by_ind, are_unlike, guessed_ind, five_with, by_folds, step_at, after_step, all_steps}
use Rattle.mc_joins.proofs.Members.{Has, has_all, all_of, has_map, has_left, has_right, has_flat, first_place_has, then_none, none_is, is_none_of}

only_none : {X : Type 0} (b : Bool) (o : Option X) → o ≡ None → only_if b o ≡ None
only_none true o e = e
only_none false o e = refl

map_none : {X Y : Type 0} (f : X → Y) (o : Option X) → o ≡ None → option_map f o ≡ None
map_none f o e = ap (option_map f) e

bind_none : {X Y : Type 0} (f : X → Option Y) (o : Option X) → o ≡ None → option_and_then f o ≡ None
bind_none f o e = ap (option_and_then f) e

abbrev ending : PredId → Side → ℕ → Ending
ending pred side place = record { pred = pred; side = side; place = place }

-- ---- predicates that are not there

module _ (w : Basis) (pred : PredId) (absent : slice_get w.defs pred.0 ≡ None) where
  no_args : (s : State) (args : List Term) → nodes_of_args w pred s args ≡ None
  no_args s args = bind_none (λ (def : Def). nodes_of_terms w s def.params args) (slice_get w.defs pred.0) absent

  no_ind : (j : Joining) (side : Side) (p : Pair) (args : List Term) → folded_ind w j side p pred args ≡ None
  no_ind j side p args =
      then_none {X = Choice} (ind_part w j side p pred args) (λ found. map_none {X = Named} _ (nodes_of_args w pred (half j side).state args) (no_args (half j side).state args)) (first_cover (w.know (half j side).state) w.defs pred (plain (of_side side p)) args (free_edges j side p))

  no_seg : (j : Joining) (side : Side) (p : Pair) (args : List Term) («end» : NodeId) (ends : List Term) → folded_seg w j side p pred args end ends ≡ None
  no_seg j side p args «end» ends =
      then_none {X = Choice} (seg_part w j side p pred args end ends)
      (λ found. bind_none {X = Named} (ended_part w side p pred end ends found.used) (nodes_of_args w pred (half j side).state args) (no_args (half j side).state args))
      (first_seg_cover (w.know (half j side).state) w.defs pred (plain (of_side side p)) args (plain end) ends (free_edges j side p))

  no_four : (j : Joining) (p : Pair) (side : Side) (found : EdgeId × Edge) (i : IndParts) → four_with w j p pred side found i ≡ None
  no_four j p side found i =
      only_none (is_none (ind_of pred (edge_there j (across side) p))) _
      (bind_none {X = Part} (λ theirs. joined_from j side (as_it_is (half j side) found) theirs) (folded_ind w j (across side) p pred (four_args w j p pred side i))
      (no_ind j (across side) p (four_args w j p pred side i)))

  no_by_ind : (j : Joining) (p : Pair) (side : Side) → by_ind w j p pred side ≡ None
  no_by_ind j p side =
      then_none {X = EdgeId × Edge} (four_from w j p pred side) (λ found. then_none {X = IndParts} (four_with w j p pred side found) (no_four j p side found) (ind_of pred (Some found.1))) (edge_at j side p)

  no_guessed : (j : Joining) (p : Pair) (side : Side) → guessed_ind w j p pred side ≡ None
  no_guessed j p side = no_ind j side p (guessed w (half j side) pred (of_side side p) None)

  no_folds : (j : Joining) (p : Pair) → by_folds w j p pred ≡ None
  no_folds j p =
      only_none (are_unlike (edge_there j Left p) (edge_there j Right p)) _
      (ap (λ (o : Option Part). option_and_then (five_with j) (option_zip o (guessed_ind w j p pred Right))) (no_guessed j p Left))

  no_six_to : (j : Joining) (p : Pair) (e : Ending) (q : Pair) → e.pred ≡ pred → six_to w j p e q ≡ None
  no_six_to j p e q same =
      only_none (may_end e.side p q) _
      (bind_none {X = Part} (six_with w j p e) (guessed_seg w j e.side p e.pred (of_side e.side q) (six_ends w j e q))
      (ap (λ (own : PredId). guessed_seg w j e.side p own (of_side e.side q) (six_ends w j e q)) same ∙ no_seg j e.side p _ (of_side e.side q) (six_ends w j e q)))

  no_six : (j : Joining) (p : Pair) (e : Ending) → e.pred ≡ pred → by_j6 w j p e ≡ None
  no_six j p e same = then_none {X = Pair} (six_to w j p e) (λ q. no_six_to j p e q same) (slice_get j.pairs e.place)

  no_seven_with : (j : Joining) (p : Pair) (e : Ending) (q : Pair) (found : EdgeId × Edge) (s : SegParts) → e.pred ≡ pred → seven_with w j p e q found s ≡ None
  no_seven_with j p e q found s same =
      only_none (is_seg_to j e q s) _
      (bind_none {X = Part} (λ mine. joined_from j e.side mine (as_it_is (half j (across e.side)) found)) (guessed_seg w j e.side p e.pred (of_side e.side q) (seven_ends w j e q s))
      (ap (λ (own : PredId). guessed_seg w j e.side p own (of_side e.side q) (seven_ends w j e q s)) same ∙ no_seg j e.side p _ (of_side e.side q) (seven_ends w j e q s)))

  no_seven : (j : Joining) (p : Pair) (e : Ending) → e.pred ≡ pred → by_j7 w j p e ≡ None
  no_seven j p e same =
      then_none {X = Pair} _ (λ q. then_none {X = EdgeId × Edge} (seven_from w j p e q)
      (λ found. then_none {X = SegParts} (seven_with w j p e q found) (λ s. no_seven_with j p e q found s same) (seg_of (Some found.1))) (edge_at j (across e.side) p)) (slice_get j.pairs e.place)

-- ---- steps that are there

pred_there : (w : Basis) (pred : PredId) (def : Def) → slice_get w.defs pred.0 ≡ Some def → Has (predicates w) pred
pred_there w pred def e =
    has_map (λ (i : ℕ). let p : PredId = record { 0 = i } in p) (range_with_len 0 (length w.defs)) pred.0 (first_place_has w.defs pred.0 def e)

side_there : (side : Side) → Has (Left ∷ Right ∷ []) side
side_there Left = inl refl
side_there Right = inr (inl refl)

ending_there : (w : Basis) (j : Joining) (pred : PredId) (side : Side) (place : ℕ) (def : Def) (q : Pair) → slice_get w.defs pred.0 ≡ Some def → slice_get j.pairs place ≡ Some q
    → Has (endings w j) (ending pred side place)
ending_there w j pred side place def q e f =
    has_flat (λ p. flat_map (λ s. map (ending p s) (range_with_len 0 (length j.pairs))) (Left ∷ Right ∷ [])) (predicates w) pred (ending pred side place) (pred_there w pred def e)
    (has_flat (λ s. map (ending pred s) (range_with_len 0 (length j.pairs))) (Left ∷ Right ∷ []) side (ending pred side place) (side_there side)
    (has_map (ending pred side) (range_with_len 0 (length j.pairs)) place (first_place_has j.pairs place q f)))

module _ (w : Basis) (j : Joining) (all : list_all (λ step. is_none (after_step w j step)) (all_steps w j) ≡ true) where
  abbrev fours : List JoinStep
  fours = map J4 (predicates w)

  abbrev fives : List JoinStep
  fives = map J5 (predicates w)

  abbrev sixes : List JoinStep
  sixes = map (λ e. J6 e.pred e.side e.place) (endings w j)

  abbrev sevens : List JoinStep
  sevens = map (λ e. J7 e.pred e.side e.place) (endings w j)

  listed_none : (step : JoinStep) → Has (all_steps w j) step → after_step w j step ≡ None
  listed_none step h = none_is (after_step w j step) (has_all (λ step. is_none (after_step w j step)) (all_steps w j) step all h)

  four : (pred : PredId) (o : Option Def) → slice_get w.defs pred.0 ≡ o → after_step w j (J4 pred) ≡ None
  four pred None e = then_none {X = Pair} (λ p. step_at w j p (J4 pred)) (λ p. only_none (no_j6 w j p && no_j7 w j p) _ (ap (λ (o : Option Joining). option_or o (by_ind w j p pred Right)) (no_by_ind w pred e j p Left) ∙ no_by_ind w pred e j p Right)) (next_pair j)
  four pred (Some def) e =
      listed_none (J4 pred) (inr (inr (inr (has_left fours (fives ++ (sixes ++ sevens)) (J4 pred) (has_map J4 (predicates w) pred (pred_there w pred def e))))))

  five : (pred : PredId) (o : Option Def) → slice_get w.defs pred.0 ≡ o → after_step w j (J5 pred) ≡ None
  five pred None e = then_none {X = Pair} (λ p. step_at w j p (J5 pred)) (λ p. only_none (no_j6 w j p && no_j7 w j p) (by_folds w j p pred) (no_folds w pred e j p)) (next_pair j)
  five pred (Some def) e =
      listed_none (J5 pred) (inr (inr (inr (has_right fours (fives ++ (sixes ++ sevens)) (J5 pred)
      (has_left fives (sixes ++ sevens) (J5 pred) (has_map J5 (predicates w) pred (pred_there w pred def e)))))))

  six : (pred : PredId) (side : Side) (place : ℕ) (o : Option Def) → slice_get w.defs pred.0 ≡ o → (q : Option Pair) → slice_get j.pairs place ≡ q → after_step w j (J6 pred side place) ≡ None
  six pred side place None e q f = then_none {X = Pair} (λ p. step_at w j p (J6 pred side place)) (λ p. no_six w pred e j p (ending pred side place) refl) (next_pair j)
  six pred side place (Some def) e None f =
      then_none {X = Pair} (λ p. step_at w j p (J6 pred side place)) (λ p. bind_none {X = Pair} (six_to w j p (ending pred side place)) (slice_get j.pairs place) f) (next_pair j)
  six pred side place (Some def) e (Some q) f =
      listed_none (J6 pred side place) (inr (inr (inr (has_right fours (fives ++ (sixes ++ sevens)) (J6 pred side place)
      (has_right fives (sixes ++ sevens) (J6 pred side place) (has_left sixes sevens (J6 pred side place)
      (has_map (λ e. J6 e.pred e.side e.place) (endings w j) (ending pred side place) (ending_there w j pred side place def q e f))))))))

  seven : (pred : PredId) (side : Side) (place : ℕ) (o : Option Def) → slice_get w.defs pred.0 ≡ o → (q : Option Pair) → slice_get j.pairs place ≡ q → after_step w j (J7 pred side place) ≡ None
  seven pred side place None e q f = then_none {X = Pair} (λ p. step_at w j p (J7 pred side place)) (λ p. only_none (no_j6 w j p) (by_j7 w j p (ending pred side place)) (no_seven w pred e j p (ending pred side place) refl)) (next_pair j)
  seven pred side place (Some def) e None f = then_none {X = Pair} (λ p. step_at w j p (J7 pred side place)) (λ p. only_none (no_j6 w j p) (by_j7 w j p (ending pred side place))
      (bind_none {X = Pair} (λ q. option_and_then (seven_from w j p (ending pred side place) q) (edge_at j (across side) p)) (slice_get j.pairs place) f)) (next_pair j)
  seven pred side place (Some def) e (Some q) f =
      listed_none (J7 pred side place) (inr (inr (inr (has_right fours (fives ++ (sixes ++ sevens)) (J7 pred side place)
      (has_right fives (sixes ++ sevens) (J7 pred side place) (has_right sixes sevens (J7 pred side place)
      (has_map (λ e. J7 e.pred e.side e.place) (endings w j) (ending pred side place) (ending_there w j pred side place def q e f))))))))

  every : (step : JoinStep) → after_step w j step ≡ None
  every J1 = listed_none J1 (inl refl)
  every J2 = listed_none J2 (inr (inl refl))
  every J3 = listed_none J3 (inr (inr (inl refl)))
  every (J4 pred) = four pred (slice_get w.defs pred.0) refl
  every (J5 pred) = five pred (slice_get w.defs pred.0) refl
  every (J6 pred side place) = six pred side place (slice_get w.defs pred.0) refl (slice_get j.pairs place) refl
  every (J7 pred side place) = seven pred side place (slice_get w.defs pred.0) refl (slice_get j.pairs place) refl

both_true : (a b : Bool) → (a && b) ≡ true → (a ≡ true) × (b ≡ true)
both_true true true e = (refl, refl)
both_true true false e = absurd (cc e)
both_true false b e = absurd (cc e)

pub stuck_is_every : StuckIsEvery
stuck_is_every w j = (
  λ e. let both = both_true (is_some (next_pair j)) (list_all (λ step. is_none (after_step w j step)) (all_steps w j)) e in (both.0, every w j both.1),
  λ k. ap (λ b. b && list_all (λ step. is_none (after_step w j step)) (all_steps w j)) k.0
      ∙ all_of (λ step. is_none (after_step w j step)) (all_steps w j) (λ step. is_none_of (after_step w j step) (k.1 step)),
)
