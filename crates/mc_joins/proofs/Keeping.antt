-- What the naming of a node keeps of states, each step of a join keeps of both.
use Rattle.std.proofs.Common.{◌≡◌, List, [], ◌∷◌, Bool, true, false, Option, Some, None, slice_get, refl, ap, subst}
use Rattle.std.specs.Prelude.{◌&&◌, ◌||◌, is_none, option_and_then, option_map}
use Rattle.std.specs.Option.{option_or, option_zip}
use Rattle.mc_base.specs.declared.ids.EdgeId.{EdgeId}
use Rattle.mc_base.specs.declared.ids.NodeId.{NodeId}
use Rattle.mc_base.specs.declared.ids.PredId.{PredId}
use Rattle.mc_base.specs.declared.plain.Kind.{Kind}
use Rattle.mc_flow.specs.declared.defs.rules.Def.{Def}
use Rattle.mc_state.specs.declared.graph.edge.Edge.{Edge}
use Rattle.mc_state.specs.Named.{seg_of, ind_of}
use Rattle.mc_state.specs.declared.line.Side.{Side}
use Rattle.mc_state.specs.declared.line.Side.TheVariants.{Left, Right}
use Rattle.mc_state.specs.declared.line.JoinStep.{JoinStep}
use Rattle.mc_state.specs.declared.line.JoinStep.TheVariants.{J1, J2, J3, J4, J5, J6, J7}
use Rattle.mc_state.specs.declared.terms.Term.{Term}
use Rattle.mc_state.specs.State.{State}
use Rattle.mc_state.specs.Terms.{plain}
use Rattle.mc_cover.specs.First.{first_cover, first_seg_cover}
use Rattle.mc_joins.specs.Joinings.{Joining, Pair, across, half, of_side, with_pairs, free_edges, edge_at, next_pair}
use Rattle.mc_joins.specs.Parts.{Basis, Part, Named, spare_node, own_node, node_of_term, behind, nodes_of_terms, nodes_of_args, as_it_is, empty_seg, ind_part, folded_ind, ended_part, seg_part, folded_seg, guessed_seg}
use Rattle.mc_joins.specs.Steps.{Ending, pairs_of, edge_for, joined, joined_from, are_blocks, are_inds, are_segs, edge_there, only_if, closing, may_end, uses_edge, six_with, six_ends, six_to, by_j6, is_seg_to, seven_ends, seven_with, seven_from, by_j7, no_j6, no_j7, by_both, four_args, four_with, four_from, by_ind, are_unlike, guessed_ind, five_with, by_folds, step_at, after_step, after_steps}

-- ---- options

module _ {X Y : Type 0} where
  pub bind_some : (f : X → Option Y) (o : Option X) (y : Y) → option_and_then f o ≡ Some y → (x : X) × (o ≡ Some x) × (f x ≡ Some y)
  bind_some f None y e = absurd (cc e)
  bind_some f (Some x) y e = (x, refl, e)

  pub map_some : (f : X → Y) (o : Option X) (y : Y) → option_map f o ≡ Some y → (x : X) × (o ≡ Some x) × (f x ≡ y)
  map_some f None y e = absurd (cc e)
  map_some f (Some x) y e = (x, refl, cc e)

  pub bind_each : (f g : X → Option Y) (o : Option X) → ((x : X) → o ≡ Some x → f x ≡ g x) → option_and_then f o ≡ option_and_then g o
  bind_each f g None h = refl
  bind_each f g (Some x) h = h x refl

  pub zip_some : (o : Option X) (p : Option Y) (xy : X × Y) → option_zip o p ≡ Some xy → (o ≡ Some xy.0) × (p ≡ Some xy.1)
  zip_some None p xy e = absurd (cc e)
  zip_some (Some x) None xy e = absurd (cc e)
  zip_some (Some x) (Some y) xy e =
      let same : ◌≡◌ {A = X × Y} (x, y) xy = cc e in (ap (λ (z : X × Y). Some z.0) same, ap (λ (z : X × Y). Some z.1) same)

pub only_some : {X : Type 0} (b : Bool) (o : Option X) (x : X) → only_if b o ≡ Some x → o ≡ Some x
only_some true o x e = e
only_some false o x e = absurd (cc e)

pub or_some : {X : Type 0} (P : X → Type 0) (o p : Option X) (x : X) → (o ≡ Some x → P x) → (p ≡ Some x → P x) → option_or o p ≡ Some x → P x
or_some P None p x f g e = g e
or_some P (Some y) p x f g e = f e

-- what naming keeps of states
module _ (w : Basis) (Good : State → Type 0) (names : (s : State) (kind : Kind) (t : Term) (n : Named) → Good s → spare_node w s kind t ≡ Some n → Good n.state) where
  pub node_kept : (s : State) (kind : Kind) (t : Term) (n : Named) → Good s → node_of_term w s kind t ≡ Some n → Good n.state
  node_kept s kind t n good e =
      or_some (λ (m : Named). Good m.state) (option_map (λ (m : NodeId). let r : Named = record { state = s; nodes = m ∷ [] } in r) (own_node w s kind t)) (spare_node w s kind t) n
      (λ f. let got = map_some (λ (m : NodeId). let r : Named = record { state = s; nodes = m ∷ [] } in r) (own_node w s kind t) n f in subst Good (ap (λ (m : Named). m.state) got.2) good)
      (names s kind t n good) e

  terms_kept : (s : State) (kinds : List Kind) (ts : List Term) (n : Named) → Good s → nodes_of_terms w s kinds ts ≡ Some n → Good n.state
  terms_kept s [] [] n good e =
      let empty : Named = record { state = s; nodes = [] } in
      let same : empty ≡ n = cc e in
      subst (λ (m : Named). Good m.state) same good
  terms_kept s [] (t ∷ ts) n good e = absurd (cc e)
  terms_kept s (kind ∷ kinds) [] n good e = absurd (cc e)
  terms_kept s (kind ∷ kinds) (t ∷ ts) n good e =
      let first = bind_some (λ (first : Named). option_map (behind first.nodes) (nodes_of_terms w first.state kinds ts)) (node_of_term w s kind t) n e in
      let rest = map_some (behind first.0.nodes) (nodes_of_terms w first.0.state kinds ts) n first.2 in
      subst Good (ap (λ (m : Named). m.state) rest.2) (terms_kept first.0.state kinds ts rest.0 (node_kept s kind t first.0 good first.1) rest.1)

  pub args_kept : (pred : PredId) (s : State) (args : List Term) (n : Named) → Good s → nodes_of_args w pred s args ≡ Some n → Good n.state
  args_kept pred s args n good e =
      let d = bind_some (λ (def : Def). nodes_of_terms w s def.params args) (slice_get w.defs pred.0) n e in terms_kept s d.0.params args n good d.2

  module _ (j : Joining) (left_good : Good j.left.state) (right_good : Good j.right.state) where
    half_kept : (side : Side) → Good (half j side).state
    half_kept Left = left_good
    half_kept Right = right_good

    ind_kept : (side : Side) (p : Pair) (pred : PredId) (args : List Term) (part : Part) → folded_ind w j side p pred args ≡ Some part → Good part.state
    ind_kept side p pred args part e =
        let c = bind_some (ind_part w j side p pred args) (first_cover (w.know (half j side).state) w.defs pred (plain (of_side side p)) args (free_edges j side p)) part e in
        let n = map_some _ (nodes_of_args w pred (half j side).state args) part c.2 in
        subst Good (ap (λ (x : Part). x.state) n.2) (args_kept pred (half j side).state args n.0 (half_kept side) n.1)

    seg_kept : (side : Side) (p : Pair) (pred : PredId) (args : List Term) («end» : NodeId) (ends : List Term) (part : Part)
        → folded_seg w j side p pred args end ends ≡ Some part → Good part.state
    seg_kept side p pred args «end» ends part e =
        let c = bind_some (seg_part w j side p pred args end ends) (first_seg_cover (w.know (half j side).state) w.defs pred (plain (of_side side p)) args (plain end) ends (free_edges j side p)) part e in
        let first = bind_some (ended_part w side p pred end ends c.0.used) (nodes_of_args w pred (half j side).state args) part c.2 in
        let last = map_some _ (nodes_of_args w pred first.0.state ends) part first.2 in
        subst Good (ap (λ (x : Part). x.state) last.2) (args_kept pred first.0.state ends last.0 (args_kept pred (half j side).state args first.0 (half_kept side) first.1) last.1)

    -- both states of a join have it
    abbrev BothGood : Joining → Type 0
    BothGood k = Good k.left.state × Good k.right.state

    joined_kept : (l r : Part) (k : Joining) → Good l.state → Good r.state → joined j l r ≡ Some k → BothGood k
    joined_kept l r k lm rm e =
        let got = map_some _ (edge_for (with_pairs j.pairs (pairs_of l.edge r.edge)) l.edge r.edge) k e in
        (subst Good (ap (λ (x : Joining). x.left.state) got.2) lm, subst Good (ap (λ (x : Joining). x.right.state) got.2) rm)

    from_kept : (side : Side) (mine theirs : Part) (k : Joining) → Good mine.state → Good theirs.state → joined_from j side mine theirs ≡ Some k → BothGood k
    from_kept Left mine theirs k mm tm e = joined_kept mine theirs k mm tm e
    from_kept Right mine theirs k mm tm e = joined_kept theirs mine k tm mm e

    six_kept : (p : Pair) (e : Ending) (k : Joining) → by_j6 w j p e ≡ Some k → BothGood k
    six_kept p e k is =
        let q = bind_some (six_to w j p e) (slice_get j.pairs e.place) k is in
        let part = bind_some (six_with w j p e) (guessed_seg w j e.side p e.pred (of_side e.side q.0) (six_ends w j e q.0)) k (only_some (may_end e.side p q.0) _ k q.2) in
        let done = map_some (closing (across e.side) p) (joined_from j e.side part.0 (empty_seg w (half j (across e.side)) e.pred (of_side (across e.side) p))) k (only_some (uses_edge part.0) _ k part.2) in
        let both = from_kept e.side part.0 (empty_seg w (half j (across e.side)) e.pred (of_side (across e.side) p)) done.0
        (seg_kept e.side p e.pred _ (of_side e.side q.0) (six_ends w j e q.0) part.0 part.1) (half_kept (across e.side)) done.1 in
        (subst Good (ap (λ (x : Joining). x.left.state) done.2) both.0, subst Good (ap (λ (x : Joining). x.right.state) done.2) both.1)

    seven_kept : (p : Pair) (e : Ending) (k : Joining) → by_j7 w j p e ≡ Some k → BothGood k
    seven_kept p e k is =
        let q = bind_some (λ (q : Pair). option_and_then (seven_from w j p e q) (edge_at j (across e.side) p)) (slice_get j.pairs e.place) k is in
        let found = bind_some (seven_from w j p e q.0) (edge_at j (across e.side) p) k q.2 in
        let s = bind_some (seven_with w j p e q.0 found.0) (seg_of (Some found.0.1)) k found.2 in
        let part = bind_some (λ (mine : Part). joined_from j e.side mine (as_it_is (half j (across e.side)) found.0))
        (guessed_seg w j e.side p e.pred (of_side e.side q.0) (seven_ends w j e q.0 s.0)) k (only_some (is_seg_to j e q.0 s.0) _ k s.2) in
        from_kept e.side part.0 (as_it_is (half j (across e.side)) found.0) k (seg_kept e.side p e.pred _ (of_side e.side q.0) (seven_ends w j e q.0 s.0) part.0 part.1) (half_kept (across e.side)) part.2

    both_kept : (of_form : Edge → Edge → Bool) (p : Pair) (k : Joining) → by_both of_form j p ≡ Some k → BothGood k
    both_kept of_form p k is =
        let both = bind_some (λ (both : (EdgeId × Edge) × (EdgeId × Edge)). only_if (of_form both.0.1 both.1.1) (joined j (as_it_is j.left both.0) (as_it_is j.right both.1)))
        (option_zip (edge_at j Left p) (edge_at j Right p)) k is in
        joined_kept (as_it_is j.left both.0.0) (as_it_is j.right both.0.1) k left_good right_good (only_some (of_form both.0.0.1 both.0.1.1) _ k both.2)

    four_kept : (p : Pair) (pred : PredId) (side : Side) (k : Joining) → by_ind w j p pred side ≡ Some k → BothGood k
    four_kept p pred side k is =
        let found = bind_some (four_from w j p pred side) (edge_at j side p) k is in
        let i = bind_some (four_with w j p pred side found.0) (ind_of pred (Some found.0.1)) k found.2 in
        let part = bind_some (λ (theirs : Part). joined_from j side (as_it_is (half j side) found.0) theirs) (folded_ind w j (across side) p pred (four_args w j p pred side i.0)) k
        (only_some (is_none (ind_of pred (edge_there j (across side) p))) _ k i.2) in
        from_kept side (as_it_is (half j side) found.0) part.0 k (half_kept side) (ind_kept (across side) p pred (four_args w j p pred side i.0) part.0 part.1) part.2

    five_kept : (p : Pair) (pred : PredId) (k : Joining) → by_folds w j p pred ≡ Some k → BothGood k
    five_kept p pred k is =
        let both = bind_some (five_with j) (option_zip (guessed_ind w j p pred Left) (guessed_ind w j p pred Right)) k
        (only_some (are_unlike (edge_there j Left p) (edge_there j Right p)) _ k is) in
        let parts = zip_some (guessed_ind w j p pred Left) (guessed_ind w j p pred Right) both.0 both.1 in
        joined_kept both.0.0 both.0.1 k (ind_kept Left p pred _ both.0.0 parts.0) (ind_kept Right p pred _ both.0.1 parts.1)
        (only_some (uses_edge both.0.0 || uses_edge both.0.1) _ k both.2)

    at_kept : (p : Pair) (step : JoinStep) (k : Joining) → step_at w j p step ≡ Some k → BothGood k
    at_kept p J1 k is = both_kept are_blocks p k (only_some (no_j6 w j p) _ k is)
    at_kept p J2 k is = both_kept are_inds p k (only_some (no_j6 w j p) _ k is)
    at_kept p J3 k is = both_kept are_segs p k (only_some (no_j6 w j p && no_j7 w j p) _ k is)
    at_kept p (J4 pred) k is =
        or_some BothGood (by_ind w j p pred Left) (by_ind w j p pred Right) k (four_kept p pred Left k) (four_kept p pred Right k)
        (only_some (no_j6 w j p && no_j7 w j p) _ k is)
    at_kept p (J5 pred) k is = five_kept p pred k (only_some (no_j6 w j p && no_j7 w j p) _ k is)
    at_kept p (J6 pred side place) k is = six_kept p (record { pred = pred; side = side; place = place }) k is
    at_kept p (J7 pred side place) k is =
        seven_kept p (record { pred = pred; side = side; place = place }) k (only_some (no_j6 w j p) _ k is)

    pub step_kept : (step : JoinStep) (k : Joining) → after_step w j step ≡ Some k → BothGood k
    step_kept step k is = let p = bind_some (λ (p : Pair). step_at w j p step) (next_pair j) k is in at_kept p.0 step k p.2

  -- and so do steps
  pub steps_kept : (steps : List JoinStep) (j k : Joining) → Good j.left.state → Good j.right.state → after_steps w j steps ≡ Some k → Good k.left.state × Good k.right.state
  steps_kept [] j k lg rg e = let same : j ≡ k = some_joining e in subst (λ (x : Joining). Good x.left.state × Good x.right.state) same (lg, rg)
    where
      some_joining : {x y : Joining} → Some x ≡ Some y → x ≡ y
      some_joining e = cc
  steps_kept (step ∷ steps) j k lg rg e =
      let next = bind_some (λ (next : Joining). after_steps w next steps) (after_step w j step) k e in
      let both = step_kept j lg rg step next.0 next.1 in
      steps_kept steps next.0 k both.0 both.1 next.2
