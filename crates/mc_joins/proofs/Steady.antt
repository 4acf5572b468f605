-- Steps of joins keep states well made, and depend on what is entailed alone.
use mathlib.Core.Path.{fun_ext}
use Rattle.std.proofs.Common.{◌≡◌, List, [], ◌∷◌, Bool, true, false, Option, Some, None, map, slice_get, refl, ap, sym, ◌∙◌, subst}
use Rattle.std.specs.Prelude.{◌&&◌, Ok, Err, is_none, find, option_and_then, option_map, unwrap_or}
use Rattle.std.specs.List.{list_all}
use Rattle.std.specs.Option.{option_or, option_zip}
use Rattle.mc_base.specs.declared.ids.EdgeId.{EdgeId}
use Rattle.mc_base.specs.declared.ids.NodeId.{NodeId}
use Rattle.mc_base.specs.declared.ids.PredId.{PredId}
use Rattle.mc_base.specs.declared.plain.Kind.{Kind}
use Rattle.mc_base.specs.declared.plain.VarInfo.{VarInfo}
use Rattle.mc_flow.specs.declared.defs.rules.Def.{Def}
use Rattle.mc_flow.specs.declared.defs.shapes.StructInfo.{StructInfo}
use Rattle.mc_state.specs.declared.graph.edge.Edge.{Edge}
use Rattle.mc_state.specs.declared.graph.edge.Edge.TheVariants.{Ind, Seg}
use Rattle.mc_state.specs.Known.{Test}
use Rattle.mc_state.specs.Named.{SegParts, IndParts, seg_of, ind_of}
use Rattle.mc_state.specs.Premises.{Judged}
use Rattle.mc_state.specs.declared.line.Side.{Side}
use Rattle.mc_state.specs.declared.line.Side.TheVariants.{Left, Right}
use Rattle.mc_state.specs.declared.line.JoinStep.{JoinStep}
use Rattle.mc_state.specs.declared.line.JoinStep.TheVariants.{J1, J2, J3, J4, J5, J6, J7}
use Rattle.mc_state.specs.declared.terms.Term.{Term}
use Rattle.mc_state.specs.Fits.{IsWellMade}
use Rattle.mc_state.specs.State.{State, next_node}
use Rattle.mc_state.specs.Terms.{plain}
use Rattle.mc_rules_logic.specs.Fold.Changed.{NamesSpare}
use Rattle.mc_rules_logic.specs.Fold.ChangeJudges.{naming_spare}
use Rattle.mc_rules_logic.specs.Fold.JudgedLaws.{SpareIsJudged}
use Rattle.mc_rules_logic.specs.Fold.MadeLaws.{SpareStaysMade}
use Rattle.mc_cover.specs.First.{Choice, first_cover, first_seg_cover}
use Rattle.mc_cover.specs.Guessed.{first_edge, guess, summary_of}
use Rattle.mc_cover.specs.Terms.{equal_terms}
use Rattle.mc_joins.specs.Joinings.{Joining, Pair, across, half, of_side, free_edges, edge_at, next_pair, begun}
use Rattle.mc_joins.specs.Laws.{KnowsMade, StepsAreDetermined, StepsKeepMade, PrefixesAreDetermined}
use Rattle.mc_joins.specs.Parts.{Basis, Part, Named, nodes_of_kind, only_state, spare_node, node_of_term, behind, nodes_of_terms, nodes_of_args, zeros, standing_args, guessed, with_partners, as_it_is, ind_part, folded_ind, ended_part, seg_part, folded_seg, guessed_seg}
use Rattle.mc_joins.proofs.Keeping.{bind_each, map_some, node_kept, args_kept, step_kept}
use Rattle.mc_joins.specs.Steps.{Ending, joined_from, are_blocks, are_inds, are_segs, edge_there, only_if, closing, may_end, uses_edge, six_with, six_ends, six_to, by_j6, is_seg_to, seven_ends, seven_with, seven_from, by_j7, endings, no_j6, no_j7, by_both, four_args, four_with, four_from, by_ind, are_unlike, guessed_ind, five_with, by_folds, step_at, after_step, after_steps}

-- ---- tests

all_each : {X : Type 0} (f g : X → Bool) (xs : List X) → ((x : X) → f x ≡ g x) → list_all f xs ≡ list_all g xs
all_each f g [] h = refl
all_each f g (x ∷ xs) h = ap (λ (b : Bool). b && list_all f xs) (h x) ∙ ap (λ (b : Bool). g x && b) (all_each f g xs h)

bool_same : (a b : Bool) → (a ≡ true → b ≡ true) → (b ≡ true → a ≡ true) → a ≡ b
bool_same true b f g = sym (f refl)
bool_same false true f g = g refl
bool_same false false f g = refl

module _ (judged : SpareIsJudged) (stays : SpareStaysMade) (defs : List Def) (vars : List VarInfo) (structs : List StructInfo) where
  abbrev Made : State → Type 0
  Made s = IsWellMade defs vars structs s

  -- ---- states stay well made

  module _ (know : State → Test) (tells : KnowsMade defs vars structs know) where
    abbrev basis : Basis
    basis = record { know = know; defs = defs }

    -- a new node is named by L8
    pub spare_names : (s : State) (kind : Kind) (t : Term) (n : Named) → Made s → spare_node basis s kind t ≡ Some n → NamesSpare t.node t.add kind s (n.state ∷ [])
    spare_names s kind t n made e = at (naming_spare (know s) t.node t.add kind s) refl e
      where
        at : (o : Judged (List State)) → naming_spare (know s) t.node t.add kind s ≡ o
            → option_map (λ (after : State). let m : Named = record { state = after; nodes = next_node s ∷ [] } in m) (only_state o) ≡ Some n → NamesSpare t.node t.add kind s (n.state ∷ [])
        at (Ok []) is e = absurd (cc e)
        at (Ok (u ∷ [])) is e =
            let got = map_some (λ (after : State). let m : Named = record { state = after; nodes = next_node s ∷ [] } in m) (Some u) n e in
            let same : got.0 ≡ u = cc (got.1) in
            let named = (judged (know s) t.node t.add kind s (tells s made) (u ∷ [])).0 is in
            subst (λ (x : State). NamesSpare t.node t.add kind s (x ∷ [])) (sym same ∙ ap (λ (m : Named). m.state) got.2) named
        at (Ok (u ∷ x ∷ us)) is e = absurd (cc e)
        at (Err k) is e = absurd (cc e)

    spare_made : (s : State) (kind : Kind) (t : Term) (n : Named) → Made s → spare_node basis s kind t ≡ Some n → Made n.state
    spare_made s kind t n made e = (stays defs vars structs t.node t.add kind s (n.state ∷ []) (spare_names s kind t n made e) made).0

    pub node_made : (s : State) (kind : Kind) (t : Term) (n : Named) → Made s → node_of_term basis s kind t ≡ Some n → Made n.state
    node_made = node_kept basis Made spare_made

    pub args_made : (pred : PredId) (s : State) (args : List Term) (n : Named) → Made s → nodes_of_args basis pred s args ≡ Some n → Made n.state
    args_made = args_kept basis Made spare_made

    step_made : (j : Joining) → Made j.left.state → Made j.right.state → (step : JoinStep) (k : Joining) → after_step basis j step ≡ Some k → Made k.left.state × Made k.right.state
    step_made = step_kept basis Made spare_made

  -- ---- what is entailed decides

  module _ (know other : State → Test) (tells : KnowsMade defs vars structs know) (also : KnowsMade defs vars structs other) where
    abbrev w : Basis
    w = record { know = know; defs = defs }

    abbrev v : Basis
    v = record { know = other; defs = defs }

    tests_same : (s : State) → Made s → know s ≡ other s
    tests_same s made =
        fun_ext (λ f. bool_same (know s f) (other s f) (λ e. (also s made f).1 ((tells s made f).0 e)) (λ e. (tells s made f).1 ((also s made f).0 e)))

    abbrev node_by : Test → State → Kind → Term → Option Named
    node_by test s kind t =
        option_or (option_map (λ n. record { state = s; nodes = n ∷ [] }) (find (λ n. equal_terms test t (plain n)) (nodes_of_kind s kind)))
        (option_map (λ after. record { state = after; nodes = next_node s ∷ [] }) (only_state (naming_spare test t.node t.add kind s)))

    node_same : (s : State) (kind : Kind) (t : Term) → Made s → node_of_term w s kind t ≡ node_of_term v s kind t
    node_same s kind t made = ap (λ (test : Test). node_by test s kind t) (tests_same s made)

    terms_same : (s : State) (kinds : List Kind) (ts : List Term) → Made s → nodes_of_terms w s kinds ts ≡ nodes_of_terms v s kinds ts
    terms_same s [] [] made = refl
    terms_same s [] (t ∷ ts) made = refl
    terms_same s (kind ∷ kinds) [] made = refl
    terms_same s (kind ∷ kinds) (t ∷ ts) made =
        ap (option_and_then (λ (first : Named). option_map (behind first.nodes) (nodes_of_terms w first.state kinds ts))) (node_same s kind t made)
        ∙ bind_each (λ (first : Named). option_map (behind first.nodes) (nodes_of_terms w first.state kinds ts))
        (λ (first : Named). option_map (behind first.nodes) (nodes_of_terms v first.state kinds ts)) (node_of_term v s kind t)
        (λ first is. ap (option_map (behind first.nodes)) (terms_same first.state kinds ts (node_made other also s kind t first made is)))

    args_same : (pred : PredId) (s : State) (args : List Term) → Made s → nodes_of_args w pred s args ≡ nodes_of_args v pred s args
    args_same pred s args made =
        bind_each (λ (def : Def). nodes_of_terms w s def.params args) (λ (def : Def). nodes_of_terms v s def.params args) (slice_get defs pred.0) (λ def is. terms_same s def.params args made)

    module _ (j : Joining) (left_made : Made j.left.state) (right_made : Made j.right.state) where
      made_half : (side : Side) → Made (half j side).state
      made_half Left = left_made
      made_half Right = right_made

      at_half : (side : Side) → know (half j side).state ≡ other (half j side).state
      at_half side = tests_same (half j side).state (made_half side)

      -- whatever is computed by the test of a side
      by_side : {X : Type 0} (side : Side) (f : Test → X) → f (know (half j side).state) ≡ f (other (half j side).state)
      by_side side f = ap f (at_half side)

      ind_same : (side : Side) (p : Pair) (pred : PredId) (args : List Term) → folded_ind w j side p pred args ≡ folded_ind v j side p pred args
      ind_same side p pred args =
          by_side side (λ (test : Test). option_and_then (ind_part w j side p pred args) (first_cover test defs pred (plain (of_side side p)) args (free_edges j side p)))
          ∙ bind_each (ind_part w j side p pred args) (ind_part v j side p pred args) (first_cover (other (half j side).state) defs pred (plain (of_side side p)) args (free_edges j side p))
          (λ found is.
          ap (option_map (λ (named : Named). let r : Part = record { state = named.state; edge = Ind (of_side side p) pred named.nodes; used = found.used } in r))
          (args_same pred (half j side).state args (made_half side)))

      seg_part_same : (side : Side) (p : Pair) (pred : PredId) (args : List Term) («end» : NodeId) (ends : List Term) (found : Choice)
          → seg_part w j side p pred args end ends found ≡ seg_part v j side p pred args end ends found
      seg_part_same side p pred args «end» ends found =
          ap (option_and_then (ended_part w side p pred end ends found.used)) (args_same pred (half j side).state args (made_half side))
          ∙ bind_each (ended_part w side p pred end ends found.used) (ended_part v side p pred end ends found.used) (nodes_of_args v pred (half j side).state args)
          (λ first is.
          ap (option_map (λ (last : Named). let r : Part = record { state = last.state; edge = Seg (of_side side p) first.nodes pred end last.nodes; used = found.used } in r))
          (args_same pred first.state ends (args_made other also pred (half j side).state args first (made_half side) is)))

      seg_same : (side : Side) (p : Pair) (pred : PredId) (args : List Term) («end» : NodeId) (ends : List Term)
          → folded_seg w j side p pred args end ends ≡ folded_seg v j side p pred args end ends
      seg_same side p pred args «end» ends =
          by_side side (λ (test : Test). option_and_then (seg_part w j side p pred args end ends) (first_seg_cover test defs pred (plain (of_side side p)) args (plain end) ends (free_edges j side p)))
          ∙ bind_each (seg_part w j side p pred args end ends) (seg_part v j side p pred args end ends)
          (first_seg_cover (other (half j side).state) defs pred (plain (of_side side p)) args (plain end) ends (free_edges j side p))
          (λ found is. seg_part_same side p pred args end ends found)

      guessed_seg_same : (side : Side) (p : Pair) (pred : PredId) («end» : NodeId) (ends : List Term)
          → guessed_seg w j side p pred end ends ≡ guessed_seg v j side p pred end ends
      guessed_seg_same side p pred «end» ends =
          by_side side (λ (test : Test). folded_seg w j side p pred (guess test defs pred (plain (of_side side p)) (Some (plain end, ends)) (half j side).unused) end ends)
          ∙ seg_same side p pred (guessed v (half j side) pred (of_side side p) (Some (plain end, ends))) end ends

      standing_same : (side : Side) (pred : PredId) (n : NodeId) → standing_args w (half j side) pred n ≡ standing_args v (half j side) pred n
      standing_same side pred n =
          by_side side (λ (test : Test). unwrap_or (option_map (λ (found : EdgeId × List NodeId). found.1) (first_edge (summary_of test pred (plain n)) (half j side).unused)) (zeros w pred))

      six_with_same : (p : Pair) (e : Ending) (mine : Part) → six_with w j p e mine ≡ six_with v j p e mine
      six_with_same p e mine =
          ap (λ (args : List NodeId).
          only_if (uses_edge mine)
          (option_map (closing (across e.side) p)
          (joined_from j e.side mine
          (let r : Part = record { state = (half j (across e.side)).state; edge = Seg (of_side (across e.side) p) args e.pred (of_side (across e.side) p) args; used = [] } in r))))
          (standing_same (across e.side) e.pred (of_side (across e.side) p))

      six_to_same : (p : Pair) (e : Ending) (q : Pair) → six_to w j p e q ≡ six_to v j p e q
      six_to_same p e q =
          ap (only_if (may_end e.side p q))
          (ap (λ (args : List NodeId). option_and_then (six_with w j p e) (guessed_seg w j e.side p e.pred (of_side e.side q) (map plain args))) (standing_same e.side e.pred (of_side e.side q))
          ∙ ap (option_and_then (six_with w j p e)) (guessed_seg_same e.side p e.pred (of_side e.side q) (six_ends v j e q))
          ∙ bind_each (six_with w j p e) (six_with v j p e) (guessed_seg v j e.side p e.pred (of_side e.side q) (six_ends v j e q)) (λ mine is. six_with_same p e mine))

      six_same : (p : Pair) (e : Ending) → by_j6 w j p e ≡ by_j6 v j p e
      six_same p e = bind_each (six_to w j p e) (six_to v j p e) (slice_get j.pairs e.place) (λ q is. six_to_same p e q)

      seven_with_same : (p : Pair) (e : Ending) (q : Pair) (found : EdgeId × Edge) (s : SegParts) → seven_with w j p e q found s ≡ seven_with v j p e q found s
      seven_with_same p e q found s =
          ap (only_if (is_seg_to j e q s))
          (ap (λ (args : List NodeId).
          option_and_then (λ (mine : Part). joined_from j e.side mine (as_it_is (half j (across e.side)) found))
          (guessed_seg w j e.side p e.pred (of_side e.side q) (with_partners j.pairs (across e.side) s.ends (map plain args))))
          (standing_same e.side e.pred (of_side e.side q))
          ∙ ap (option_and_then (λ (mine : Part). joined_from j e.side mine (as_it_is (half j (across e.side)) found)))
          (guessed_seg_same e.side p e.pred (of_side e.side q) (seven_ends v j e q s)))

      seven_from_same : (p : Pair) (e : Ending) (q : Pair) (found : EdgeId × Edge) → seven_from w j p e q found ≡ seven_from v j p e q found
      seven_from_same p e q found =
          bind_each (seven_with w j p e q found) (seven_with v j p e q found) (seg_of (Some found.1)) (λ s is. seven_with_same p e q found s)

      seven_same : (p : Pair) (e : Ending) → by_j7 w j p e ≡ by_j7 v j p e
      seven_same p e =
          bind_each (λ (q : Pair). option_and_then (seven_from w j p e q) (edge_at j (across e.side) p)) (λ (q : Pair). option_and_then (seven_from v j p e q) (edge_at j (across e.side) p))
          (slice_get j.pairs e.place)
          (λ q is. bind_each (seven_from w j p e q) (seven_from v j p e q) (edge_at j (across e.side) p) (λ found there. seven_from_same p e q found))

      no_six_same : (p : Pair) → no_j6 w j p ≡ no_j6 v j p
      no_six_same p =
          all_each (λ (e : Ending). is_none (by_j6 w j p e)) (λ (e : Ending). is_none (by_j6 v j p e)) (endings w j) (λ e. ap (λ (o : Option Joining). is_none o) (six_same p e))

      no_seven_same : (p : Pair) → no_j7 w j p ≡ no_j7 v j p
      no_seven_same p =
          all_each (λ (e : Ending). is_none (by_j7 w j p e)) (λ (e : Ending). is_none (by_j7 v j p e)) (endings w j) (λ e. ap (λ (o : Option Joining). is_none o) (seven_same p e))

      neither_same : (p : Pair) → (no_j6 w j p && no_j7 w j p) ≡ (no_j6 v j p && no_j7 v j p)
      neither_same p = ap (λ (b : Bool). b && no_j7 w j p) (no_six_same p) ∙ ap (λ (b : Bool). no_j6 v j p && b) (no_seven_same p)

      four_with_same : (p : Pair) (pred : PredId) (side : Side) (found : EdgeId × Edge) (i : IndParts) → four_with w j p pred side found i ≡ four_with v j p pred side found i
      four_with_same p pred side found i =
          ap (only_if (is_none (ind_of pred (edge_there j (across side) p))))
          (by_side (across side) (λ (test : Test).
          option_and_then (λ (theirs : Part). joined_from j side (as_it_is (half j side) found) theirs)
          (folded_ind w j (across side) p pred
          (with_partners j.pairs side i.args (guess test defs pred (plain (of_side (across side) p)) None (half j (across side)).unused))))
          ∙ ap (option_and_then (λ (theirs : Part). joined_from j side (as_it_is (half j side) found) theirs)) (ind_same (across side) p pred (four_args v j p pred side i)))

      four_same : (p : Pair) (pred : PredId) (side : Side) → by_ind w j p pred side ≡ by_ind v j p pred side
      four_same p pred side =
          bind_each (four_from w j p pred side) (four_from v j p pred side) (edge_at j side p)
          (λ found is. bind_each (four_with w j p pred side found) (four_with v j p pred side found) (ind_of pred (Some found.1)) (λ i there. four_with_same p pred side found i))

      guessed_ind_same : (p : Pair) (pred : PredId) (side : Side) → guessed_ind w j p pred side ≡ guessed_ind v j p pred side
      guessed_ind_same p pred side =
          by_side side (λ (test : Test). folded_ind w j side p pred (guess test defs pred (plain (of_side side p)) None (half j side).unused))
          ∙ ind_same side p pred (guessed v (half j side) pred (of_side side p) None)

      five_same : (p : Pair) (pred : PredId) → by_folds w j p pred ≡ by_folds v j p pred
      five_same p pred =
          ap (λ (o : Option Part). only_if (are_unlike (edge_there j Left p) (edge_there j Right p)) (option_and_then (five_with j) (option_zip o (guessed_ind w j p pred Right)))) (guessed_ind_same p pred Left)
          ∙ ap (λ (o : Option Part). only_if (are_unlike (edge_there j Left p) (edge_there j Right p)) (option_and_then (five_with j) (option_zip (guessed_ind v j p pred Left) o))) (guessed_ind_same p pred Right)

      at_same : (p : Pair) (step : JoinStep) → step_at w j p step ≡ step_at v j p step
      at_same p J1 = ap (λ (b : Bool). only_if b (by_both are_blocks j p)) (no_six_same p)
      at_same p J2 = ap (λ (b : Bool). only_if b (by_both are_inds j p)) (no_six_same p)
      at_same p J3 = ap (λ (b : Bool). only_if b (by_both are_segs j p)) (neither_same p)
      at_same p (J4 pred) =
          ap (λ (b : Bool). only_if b (option_or (by_ind w j p pred Left) (by_ind w j p pred Right))) (neither_same p)
          ∙ ap (λ (o : Option Joining). only_if (no_j6 v j p && no_j7 v j p) (option_or o (by_ind w j p pred Right))) (four_same p pred Left)
          ∙ ap (λ (o : Option Joining). only_if (no_j6 v j p && no_j7 v j p) (option_or (by_ind v j p pred Left) o)) (four_same p pred Right)
      at_same p (J5 pred) =
          ap (λ (b : Bool). only_if b (by_folds w j p pred)) (neither_same p) ∙ ap (only_if (no_j6 v j p && no_j7 v j p)) (five_same p pred)
      at_same p (J6 pred side place) = six_same p (record { pred = pred; side = side; place = place })
      at_same p (J7 pred side place) =
          ap (λ (b : Bool). only_if b (by_j7 w j p (record { pred = pred; side = side; place = place }))) (no_six_same p)
          ∙ ap (only_if (no_j6 v j p)) (seven_same p (record { pred = pred; side = side; place = place }))

      step_same : (step : JoinStep) → after_step w j step ≡ after_step v j step
      step_same step = bind_each (λ (p : Pair). step_at w j p step) (λ (p : Pair). step_at v j p step) (next_pair j) (λ p is. at_same p step)

    steps_same : (steps : List JoinStep) (j : Joining) → Made j.left.state → Made j.right.state → after_steps w j steps ≡ after_steps v j steps
    steps_same [] j lm rm = refl
    steps_same (step ∷ steps) j lm rm =
        ap (option_and_then (λ (next : Joining). after_steps w next steps)) (step_same j lm rm step)
        ∙ bind_each (λ (next : Joining). after_steps w next steps) (λ (next : Joining). after_steps v next steps) (after_step v j step)
        (λ next is. let both = step_made other also j lm rm step next is in steps_same steps next both.0 both.1)

pub steps_are_determined : SpareIsJudged → SpareStaysMade → StepsAreDetermined
steps_are_determined judged stays defs vars structs know other j step tells also lm rm =
    step_same judged stays defs vars structs know other tells also j lm rm step

pub steps_keep_made : SpareIsJudged → SpareStaysMade → StepsKeepMade
steps_keep_made judged stays defs vars structs know j step next tells lm rm is =
    step_made judged stays defs vars structs know tells j lm rm step next is

pub prefixes_are_determined : SpareIsJudged → SpareStaysMade → PrefixesAreDetermined
prefixes_are_determined judged stays defs vars structs know other left right steps tells also lm rm =
    steps_same judged stays defs vars structs know other tells also steps (begun left right) lm rm
