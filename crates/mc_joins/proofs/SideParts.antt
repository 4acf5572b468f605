-- What a side gives to a step: where the side's unused edges have a region, the edge that is joined has a part of it, and
-- the edges that are left the rest.
use Rattle.std.proofs.Common.{◌≡◌, ℕ, ℤ, pos, ◌+ℤ◌, List, Bool, true, Option, Some, None, map, refl, sym, ◌∙◌, subst, arith, lt_of_lt_of_le}
use Rattle.std.proofs.lemmas.Int.{ints}
use Rattle.mc_base.specs.declared.ids.EdgeId.{EdgeId}
use Rattle.mc_base.specs.declared.ids.NodeId.{NodeId}
use Rattle.mc_base.specs.declared.ids.PredId.{PredId}
use Rattle.mc_base.specs.declared.plain.Kind.{Kind}
use Rattle.mc_base.specs.declared.plain.VarInfo.{VarInfo}
use Rattle.mc_base.specs.Nodes.{Valuation, at_node}
use Rattle.mc_flow.specs.Heap.Heap.{Region, IsAtAddresses}
use Rattle.mc_flow.specs.Heap.Instances.{nowhere}
use Rattle.mc_flow.specs.Heap.Parts.{Split}
use Rattle.mc_flow.specs.Defs.Conditions.{IsDefs}
use Rattle.mc_flow.specs.declared.defs.rules.Def.{Def}
use Rattle.mc_flow.specs.declared.defs.shapes.StructInfo.{StructInfo}
use Rattle.mc_flow.specs.Defs.Meaning as meaning
use Rattle.mc_flow.specs.Defs.Meaning.{Sat}
use Rattle.mc_state.specs.declared.graph.edge.Edge.{Edge}
use Rattle.mc_state.specs.declared.graph.edge.Edge.TheVariants.{Ind, Seg}
use Rattle.mc_state.specs.Graph.Graph.{Edges, Picks, IdsAscend}
use Rattle.mc_pure.specs.Laws as pure
use Rattle.mc_pure.specs.Pure.{HasKind}
use Rattle.mc_state.specs.Known.{Test}
use Rattle.mc_state.specs.Told.{PicksAreNamed, KindIsTold}
use Rattle.mc_state.specs.Named.{others, are_there, are_distinct}
use Rattle.mc_state.specs.declared.line.Side.{Side}
use Rattle.mc_state.specs.declared.terms.Term.{Term}
use Rattle.mc_state.specs.Fits.{IsWellMade}
use Rattle.mc_state.specs.BodyLaws.{CoverMakesPredicate, SegCoverMakesSegment}
use Rattle.mc_state.specs.Laws.{DerivedIsTrue, NewNodesHaveKinds, NodesAreBelow}
use Rattle.mc_state.specs.Stands.{EdgeMeets, EdgesMeet, StandsBy, AgreeBelow}
use Rattle.mc_state.specs.State.{State}
use Rattle.mc_state.specs.Terms.{plain, term_value}
use Rattle.mc_rules_logic.specs.Fold.JudgedLaws.{SpareIsJudged}
use Rattle.mc_rules_logic.specs.Fold.Laws.{LawOfSpare}
use Rattle.mc_rules_logic.specs.Fold.MadeLaws.{SpareStaysMade}
use Rattle.mc_cover.specs.First.{Choice, first_cover, first_seg_cover}
use Rattle.mc_cover.specs.Laws.{FirstIsCover, FirstIsSegCover, FirstTakesEdges}
use Rattle.mc_joins.specs.Joinings.{Half, Joining, Pair, half, of_side, is_alone, free_edges, edge_at}
use Rattle.mc_state.specs.Graph.Edges.{start_of}
use Rattle.mc_joins.specs.Laws.{KnowsMade}
use Rattle.mc_joins.specs.Parts.{Basis, Part, nodes_of_args, as_it_is, empty_seg, ind_part, folded_ind, ended_part, seg_part, folded_seg}
use Rattle.mc_joins.proofs.JoinMade.{Inv, PartBy, as_is, of_none, by_fold, by_seg_fold, half_made, half_fit, edge_found}
use Rattle.mc_joins.proofs.JointStands.{same_sat, same_seg, edges_agree}
use Rattle.mc_joins.proofs.NamedStand.{args_stand}
use Rattle.mc_joins.proofs.Regions.{SplitLaws, nowhere_empty, none_left, parted, merged, star_take, filter_ascend, found_with, others_passing, looked}
use Rattle.mc_joins.proofs.Keeping.{bind_some, map_some}
use Rattle.mc_joins.proofs.Steady.{args_made}

-- the laws on which it rests
pub record SoundLaws : Type 0 where
  pub splits : SplitLaws
  pub judged : SpareIsJudged
  pub stays : SpareStaysMade
  pub spare : LawOfSpare
  pub new_kinds : NewNodesHaveKinds
  pub below : NodesAreBelow
  pub truth : DerivedIsTrue
  pub entailed : pure.DerivedIsTrue
  pub predicate : CoverMakesPredicate
  pub segment : SegCoverMakesSegment
  pub told : KindIsTold
  pub picks : PicksAreNamed
  pub cover : FirstIsCover
  pub seg_cover : FirstIsSegCover
  pub takes : FirstTakesEdges

-- after a side gave a part: a valuation that agrees on the nodes that were there, by which the edge has a part of the
-- region of the unused edges, and those that are left the rest
pub record PartTaken (defs : List Def) (values : List (Option ℤ)) (region : Region) (h : Half) (part : Part) (v : Valuation) (left : Region) : Type 0 where
  pub w : Valuation
  pub agree : AgreeBelow h.state.next v w
  pub stands : StandsBy defs w values region part.state
  pub here : Region
  pub rest : Region
  pub split : Split left here rest
  pub meets : EdgeMeets defs w part.edge here
  pub unused : EdgesMeet defs w (others h.unused part.used) rest

-- what stands for a side's state goes on to stand when the side gives a part
pub record PartStands (defs : List Def) (values : List (Option ℤ)) (region : Region) (h : Half) (part : Part) : Type 0 where
  pub back : (u : Valuation) → StandsBy defs u values region part.state → StandsBy defs u values region h.state
  pub forth : (v : Valuation) (left : Region) → StandsBy defs v values region h.state → EdgesMeet defs v h.unused left → PartTaken defs values region h part v left

plain_value : (v : Valuation) (n : NodeId) → term_value v (plain n) ≡ v n.0
plain_value v n = let z : ℤ = v n.0 in (let e : z +ℤ pos 0 ≡ z = omega (arith, ints) in e)

module _ (laws : SoundLaws) (defs : List Def) (vars : List VarInfo) (structs : List StructInfo) (fit : IsDefs defs) (know : State → Test) (tells : KnowsMade defs vars structs know)
    (values : List (Option ℤ)) (region : Region) (addresses : IsAtAddresses region) (first_left first_right : State) (j : Joining) (i : Inv defs vars structs first_left first_right j)
    (side : Side) (p : Pair) (high : ℕ) (ids : IdsAscend 0 (half j side).unused high) where
  abbrev basis : Basis
  basis = record { know = know; defs = defs }

  abbrev s : State
  s = (half j side).state

  made : IsWellMade defs vars structs s
  made = half_made defs vars structs first_left first_right laws.judged laws.stays laws.new_kinds laws.told know tells j i side

  abbrev at : NodeId
  at = of_side side p

  abbrev free : Edges
  free = free_edges j side p

  abbrev test : EdgeId × Edge → Bool
  test e = is_alone j.pairs side p (start_of e.1)

  abbrev PS : Part → Type 0
  PS part = PartStands defs values region (half j side) part

  -- what a node of the state is by a valuation that agrees
  agree_on : (v w : Valuation) → AgreeBelow s.next v w → (kind : Kind) (n : NodeId) → HasKind s.kinds kind n → w n.0 ≡ v n.0
  agree_on v w agree kind n h = agree n.0 (laws.below s n made.bounded (kind, h))

  -- what some of the free edges make has a part, and the edges that are left the rest
  free_taken : (P : Region → Type 0) (w : Valuation) (left : Region) (found : Choice) (picked : List Edge) → Picks found.used free picked found.left
      → ((passed : Region) → EdgesMeet defs w free passed → (part : Region) × (rest : Region) × Split passed part rest × P part × EdgesMeet defs w found.left rest)
      → EdgesMeet defs w (half j side).unused left
      → (part : Region) × (rest : Region) × Split left part rest × P part × EdgesMeet defs w (others (half j side).unused found.used) rest
  free_taken P w left found picked picks makes m =
      let M : EdgeId × Edge → Region → Type 0 = λ e. EdgeMeets defs w e.1 in
      let es = (half j side).unused in
      let two = parted laws.splits M test es left m in
      let got = makes two.0 two.3 in
      let whole = laws.splits.right left two.0 two.1 got.0 got.1 two.2 got.2 in
      let same = others_passing test found.used es picked found.left 0 high ids picks in (
        got.0,
        whole.0,
        whole.2,
        got.3,
        merged laws.splits M test (others es found.used) whole.0 got.1 two.1 whole.1 (subst (λ (zs : Edges). EdgesMeet defs w zs got.1) (sym same.0) got.4)
            (subst (λ (zs : Edges). EdgesMeet defs w zs two.1) (sym same.1) two.4),
      )

  -- the edges of the first way to meet a goal are picked from the free ones
  free_picked : (found : Choice) → (are_distinct found.used ≡ true) × (are_there free found.used ≡ true) × (found.left ≡ others free found.used)
      → (picked : List Edge) × Picks found.used free picked found.left
  free_picked found taken =
      let there = looked free found.used taken.1 in
      (there.0, (laws.picks free high found.used there.0 found.left (filter_ascend test (half j side).unused 0 high ids)).1 (taken.0, there.1, taken.2))

  as_is_stands : (e : EdgeId × Edge) → edge_at j side p ≡ Some e → PS (as_it_is (half j side) e)
  as_is_stands e is =
      let found = edge_found defs vars structs first_left first_right laws.judged laws.stays laws.new_kinds laws.told know tells j i side p e is in
      let there = found_with (half j side).unused e 0 high ids found.0 in
      record {
        back = λ u st. st;
        forth = λ v left st m.
            let got = star_take laws.splits (EdgeMeets defs v) (half j side).unused e.0 e.1 left there m in
            record { w = v; agree = λ n less. refl; stands = st; here = got.0; rest = got.1; split = got.2; meets = got.3; unused = got.4 };
      }

  none_stands : (pred : PredId) → PS (empty_seg basis (half j side) pred at)
  none_stands pred = record {
    back = λ u st. st;
    forth = λ v left st m. record {
      w = v;
      agree = λ n less. refl;
      stands = st;
      here = nowhere;
      rest = left;
      split = none_left laws.splits left;
      meets = record { height = 0; holds = (refl, refl, nowhere_empty) };
      unused = m;
    };
  }

  -- ---- folded parts

  fold_stands : (pred : PredId) (args : List Term) (part : Part) → folded_ind basis j side p pred args ≡ Some part → PS part
  fold_stands pred args part e =
      let c = bind_some (ind_part basis j side p pred args) (first_cover (know s) defs pred (plain at) args free) part e in
      let n = map_some _ (nodes_of_args basis pred s args) part c.2 in
      let named = args_stand laws.judged laws.stays laws.spare laws.truth defs vars structs know tells values region addresses pred s args n.0 made n.1 in
      let got : Part = record { state = n.0.state; edge = Ind at pred n.0.nodes; used = c.0.used } in
      let same : got ≡ part = n.2 in
      let cover = laws.cover (know s) defs s pred (plain at) args free c.0 fit (tells s made) c.1 in
      let picked = free_picked c.0 (laws.takes (record { know = know s; defs = defs; edges = free }) (record { pred = pred; at = plain at; args = args; stop = None }) c.0 c.1) in
      subst PS same (record {
        back = named.back;
        forth = λ v left st m.
            let f = named.forth v st in
            let w = f.0 in
            let sw = named.back w f.2 in
            let mw = edges_agree defs structs s.kinds v w (agree_on v w f.1) (half j side).unused left
            (half_fit defs vars structs first_left first_right laws.judged laws.stays laws.new_kinds laws.told know tells j i side) m in
            let made_of = free_taken (λ (r : Region). Sat defs pred (term_value w (plain at)) (map (term_value w) args) r) w left c.0 picked.0 picked.1
            (λ passed n. laws.predicate defs w values passed region s pred (plain at) args free c.0.left fit addresses sw cover n) mw in
            record {
              w = w;
              agree = f.1;
              stands = f.2;
              here = made_of.0;
              rest = made_of.1;
              split = made_of.2;
              meets = same_sat defs pred (w at.0) (term_value w (plain at)) (map (at_node w) n.0.nodes) (map (term_value w) args) made_of.0 (sym (plain_value w at)) (named.are w f.2) made_of.3;
              unused = made_of.4;
            };
      })

  seg_fold_stands : (pred : PredId) (args : List Term) (stop : NodeId) (ends : List Term) (part : Part) → folded_seg basis j side p pred args stop ends ≡ Some part → PS part
  seg_fold_stands pred args stop ends part e =
      let c = bind_some (seg_part basis j side p pred args stop ends) (first_seg_cover (know s) defs pred (plain at) args (plain stop) ends free) part e in
      let first = bind_some (ended_part basis side p pred stop ends c.0.used) (nodes_of_args basis pred s args) part c.2 in
      let last = map_some _ (nodes_of_args basis pred first.0.state ends) part first.2 in
      let first_made = args_made laws.judged laws.stays defs vars structs know tells pred s args first.0 made first.1 in
      let one = args_stand laws.judged laws.stays laws.spare laws.truth defs vars structs know tells values region addresses pred s args first.0 made first.1 in
      let two = args_stand laws.judged laws.stays laws.spare laws.truth defs vars structs know tells values region addresses pred first.0.state ends last.0 first_made last.1 in
      let got : Part = record { state = last.0.state; edge = Seg at first.0.nodes pred stop last.0.nodes; used = c.0.used } in
      let same : got ≡ part = last.2 in
      let cover = laws.seg_cover (know s) defs s pred (plain at) args (plain stop) ends free c.0 fit (tells s made) c.1 in
      let picked = free_picked c.0 (laws.takes (record { know = know s; defs = defs; edges = free }) (record { pred = pred; at = plain at; args = args; stop = Some (plain stop, ends) }) c.0 c.1) in
      subst PS same (record {
        back = λ u st. one.back u (two.back u st);
        forth = λ v left st m.
            let f = one.forth v st in
            let g = two.forth f.0 f.2 in
            let w = g.0 in
            let agree : AgreeBelow s.next v w = λ n less. g.1 n (lt_of_lt_of_le less one.later) ∙ f.1 n less in
            let s_first = two.back w g.2 in
            let sw = one.back w s_first in
            let mw = edges_agree defs structs s.kinds v w (agree_on v w agree) (half j side).unused left
            (half_fit defs vars structs first_left first_right laws.judged laws.stays laws.new_kinds laws.told know tells j i side) m in
            let made_of = free_taken
            (λ (r : Region). meaning.Seg defs pred (term_value w (plain at)) (map (term_value w) args) (term_value w (plain stop)) (map (term_value w) ends) r) w left c.0 picked.0 picked.1
            (λ passed n. laws.segment defs w values passed region s pred (plain at) args (plain stop) ends free c.0.left fit addresses sw cover n) mw in
            record {
              w = w;
              agree = agree;
              stands = g.2;
              here = made_of.0;
              rest = made_of.1;
              split = made_of.2;
              meets = same_seg defs pred (w at.0) (term_value w (plain at)) (map (at_node w) first.0.nodes) (map (term_value w) args) (w stop.0) (term_value w (plain stop))
                  (map (at_node w) last.0.nodes) (map (term_value w) ends) made_of.0
                  (sym (plain_value w at)) (one.are w s_first) (sym (plain_value w stop)) (two.are w g.2) made_of.3;
              unused = made_of.4;
            };
      })

  pub part_stands : (part : Part) → PartBy basis j side p part → PS part
  part_stands part (as_is e there same) = subst PS same (as_is_stands e there)
  part_stands part (of_none pred same) = subst PS same (none_stands pred)
  part_stands part (by_fold pred args e) = fold_stands pred args part e
  part_stands part (by_seg_fold pred args stop ends e) = seg_fold_stands pred args stop ends part e
