-- Segments and goals are judged by their instances.
use Rattle.std.proofs.Common.{◌≡◌, List, [], ◌∷◌, Bool, true, false, Option, Some, None, refl, ap, sym, subst, ◌∙◌, eqb-true, eq-eqb}
use Rattle.std.specs.Prelude.{◌==◌, ◌&&◌, not, Ok, slice_get, if◌then◌else◌}
use Rattle.mc_base.specs.declared.ids.EdgeId.{EdgeId}
use Rattle.mc_base.specs.declared.ids.NodeId.{NodeId}
use Rattle.mc_base.specs.declared.ids.PredId.{PredId}
use Rattle.mc_base.specs.declared.plain.Kind.{Kind}
use Rattle.mc_base.specs.declared.plain.Kind.TheVariants.{Ptr}
use Rattle.mc_flow.specs.declared.defs.rules.Def.{Def}
use Rattle.mc_state.specs.declared.graph.edge.Edge.{Edge}
use Rattle.mc_state.specs.declared.graph.edge.Edge.TheVariants.{Block, Ind, Seg}
use Rattle.mc_state.specs.Graph.Graph.{Edges, edge_with, without}
use Rattle.mc_pure.specs.Pure.{Kinds}
use Rattle.mc_state.specs.declared.goal.Goal.{Goal}
use Rattle.mc_state.specs.State.{State, with_edges}
use Rattle.mc_state.specs.Fits.{IsBounded, HaveKinds}
use Rattle.mc_state.specs.Premises.{Judged}
use Rattle.mc_state.specs.Lists.{all_both}
use Rattle.mc_state.specs.Known.{Test, Tells, is_false, equal, all_equal, has_kind}
use Rattle.mc_state.specs.Named.{SegParts, IndParts, seg_of, ind_of, other_edge}
use Rattle.mc_state.proofs.ListLemmas.{both_from, both_to}
use Rattle.mc_state.proofs.Named.{kept_other, gone}
use Rattle.mc_state.proofs.Numbered.{need_ok, have_ok}
use Rattle.mc_state.proofs.Tests.{and_both, and_yes, not_false, is_sound, equal_from, equal_to, all_equal_from, all_equal_to, has_kind_from, has_kind_to}
use Rattle.mc_rules_logic.specs.Fold.Folded.{ClosesSeg, JoinsSegs, MakesEmptySeg, folded}
use Rattle.mc_rules_logic.specs.Fold.Goals.{MeetsGoal}
use Rattle.mc_rules_logic.specs.Fold.Judges.{closing_seg, joining_segs, making_seg, meeting_goal, with_fold}
use Rattle.mc_rules_logic.specs.Fold.JudgedLaws.{CloseSegIsJudged, JoinSegsIsJudged, EmptySegIsJudged, GoalIsJudged}

-- an edge with the parts of a Seg is that Seg
seg_is : (o : Option Edge) (g : SegParts) → seg_of o ≡ Some g → o ≡ Some (Seg g.at g.args g.pred g.stop g.ends)
seg_is None g e = absurd (cc e)
seg_is (Some (Block at shape fields)) g e = absurd (cc e)
seg_is (Some (Ind at pred args)) g e = absurd (cc e)
seg_is (Some (Seg at args pred stop ends)) g e =
    let same : ◌≡◌ {A = SegParts} (record { at = at; args = args; pred = pred; stop = stop; ends = ends }) g = cc e in
    ap (λ g. Some (Seg g.at g.args g.pred g.stop g.ends)) same

-- an edge with the parts of an Ind is that Ind
ind_is : (pred : PredId) (o : Option Edge) (p : IndParts) → ind_of pred o ≡ Some p → o ≡ Some (Ind p.at pred p.args)
ind_is pred None p e = absurd (cc e)
ind_is pred (Some (Block at shape fields)) p e = absurd (cc e)
ind_is pred (Some (Seg at args own stop ends)) p e = absurd (cc e)
ind_is pred (Some (Ind at own args)) p e = at_test (own.0 == pred.0) refl e
  where
    at_test : (b : Bool) → (own.0 == pred.0) ≡ b → (if b then Some (record { at = at; args = args }) else None) ≡ Some p → ◌≡◌ {A = Option Edge} (Some (Ind at own args)) (Some (Ind p.at pred p.args))
    at_test true is e =
        let one : own ≡ pred = ap (λ n. record { 0 = n }) (eqb-true own.0 pred.0 is) in
        let same : ◌≡◌ {A = IndParts} (record { at = at; args = args }) p = cc e in
        ap (λ q. Some (Ind at q args)) one ∙ ap (λ p. Some (Ind p.at pred p.args)) same
    at_test false is e = absurd (cc e)

-- another edge is there when the first is taken out
other_is : (es : Edges) (first second : EdgeId) (e : Edge) → other_edge es first second ≡ Some e → edge_with (without es first) second ≡ Some e
other_is es first second e is = at (second.0 == first.0) refl is
  where
    at : (b : Bool) → (second.0 == first.0) ≡ b → (if b then None else edge_with es second) ≡ Some e → edge_with (without es first) second ≡ Some e
    at true is e = absurd (cc e)
    at false is e = kept_other es first second is ∙ e

-- and is another, since ids are distinct
other_to : (es : Edges) (first second : EdgeId) (e : Edge) → edge_with (without es first) first ≡ None → edge_with (without es first) second ≡ Some e → other_edge es first second ≡ Some e
other_to es first second e none is = at (second.0 == first.0) refl
  where
    at : (b : Bool) → (second.0 == first.0) ≡ b → (if b then None else edge_with es second) ≡ Some e
    at true same =
        let one : second ≡ first = ap (λ n. record { 0 = n }) (eqb-true second.0 first.0 same) in
        let none' : edge_with (without es first) second ≡ None = ap (λ i. edge_with (without es first) i) one ∙ none in
        absurd (cc (none', is))
    at false differ = sym (kept_other es first second differ) ∙ is

module _ (know : Test) (first second : EdgeId) (s : State) (tells : Tells know s) where
  close_from : (next : List State) → closing_seg know first second s ≡ Ok next → ClosesSeg first second s next
  close_from next e =
      let two = need_ok 2 _ _ next e in
      let three = have_ok 3 (seg_of (edge_with s.graph.edges first)) _ next two.1 in
      let g = three.0 in
      let four = have_ok 4 (ind_of g.pred (other_edge s.graph.edges first second)) _ next three.2 in
      let p = four.0 in
      let five = need_ok 5 (equal know g.stop p.at) _ next four.2 in
      let six = need_ok 6 (all_equal know g.ends p.args) _ next five.1 in
      let there = seg_is (edge_with s.graph.edges first) g three.1 in
      let here = other_is s.graph.edges first second (Ind p.at g.pred p.args) (ind_is g.pred (other_edge s.graph.edges first second) p four.1) in
      let is : with_fold s (first ∷ second ∷ []) (Ind g.at g.pred g.args) ∷ [] ≡ next = cc six.1 in
      record {
        consistent = not_false know s tells two.0;
        at = g.at;
        args = g.args;
        pred = g.pred;
        stop = g.stop;
        ends = g.ends;
        from = p.at;
        from_args = p.args;
        left = without (without s.graph.edges first) second;
        picks = (there, (here, (refl, refl)));
        meet = equal_from know s tells g.stop p.at five.0;
        args_meet = all_equal_from know s tells g.ends p.args six.0;
        gives = sym is;
      }

  close_to : IsBounded s → (next : List State) → ClosesSeg first second s next → closing_seg know first second s ≡ Ok next
  close_to bounded next i =
      let es = s.graph.edges in
      let p = i.picks in
      let consistent : not (is_false know) ≡ true = is_sound know s tells i.consistent in
      let there : edge_with es first ≡ Some (Seg i.at i.args i.pred i.stop i.ends) = p.0 in
      let other : other_edge es first second ≡ Some (Ind i.from i.pred i.from_args) = other_to es first second (Ind i.from i.pred i.from_args) (gone 0 es s.graph.next first bounded.ids) p.1.0 in
      let own : (i.pred.0 == i.pred.0) ≡ true = eq-eqb i.pred.0 i.pred.0 refl in
      let meet : equal know i.stop i.from ≡ true = equal_to know s tells i.stop i.from i.meet in
      let args : all_equal know i.ends i.from_args ≡ true = all_equal_to know s tells i.ends i.from_args i.args_meet in
      let new : Edge = Ind i.at i.pred i.args in
      let gives : ◌≡◌ {A = Judged (List State)} (Ok (with_fold s (first ∷ second ∷ []) new ∷ [])) (Ok next) =
      ap (λ es. Ok (folded s es new ∷ [])) (sym p.1.1.1) ∙ ap (λ n. Ok n) (sym i.gives) in
      rw consistent (rw there (rw other (rw own (rw meet (rw args gives)))))

  join_from : (next : List State) → joining_segs know first second s ≡ Ok next → JoinsSegs first second s next
  join_from next e =
      let two = need_ok 2 _ _ next e in
      let three = have_ok 3 (seg_of (edge_with s.graph.edges first)) _ next two.1 in
      let g = three.0 in
      let four = have_ok 4 (seg_of (other_edge s.graph.edges first second)) _ next three.2 in
      let p = four.0 in
      let own = need_ok 4 (p.pred.0 == g.pred.0) _ next four.2 in
      let five = need_ok 5 (equal know g.stop p.at) _ next own.1 in
      let six = need_ok 6 (all_equal know g.ends p.args) _ next five.1 in
      let there = seg_is (edge_with s.graph.edges first) g three.1 in
      let one : p.pred ≡ g.pred = ap (λ n. record { 0 = n }) (eqb-true p.pred.0 g.pred.0 own.0) in
      let other : other_edge s.graph.edges first second ≡ Some (Seg p.at p.args g.pred p.stop p.ends) =
      seg_is (other_edge s.graph.edges first second) p four.1 ∙ ap (λ q. Some (Seg p.at p.args q p.stop p.ends)) one in
      let here = other_is s.graph.edges first second (Seg p.at p.args g.pred p.stop p.ends) other in
      let is : with_fold s (first ∷ second ∷ []) (Seg g.at g.args g.pred p.stop p.ends) ∷ [] ≡ next = cc six.1 in
      record {
        consistent = not_false know s tells two.0;
        at = g.at;
        args = g.args;
        pred = g.pred;
        stop = g.stop;
        ends = g.ends;
        from = p.at;
        from_args = p.args;
        last = p.stop;
        last_args = p.ends;
        left = without (without s.graph.edges first) second;
        picks = (there, (here, (refl, refl)));
        meet = equal_from know s tells g.stop p.at five.0;
        args_meet = all_equal_from know s tells g.ends p.args six.0;
        gives = sym is;
      }

  join_to : IsBounded s → (next : List State) → JoinsSegs first second s next → joining_segs know first second s ≡ Ok next
  join_to bounded next i =
      let es = s.graph.edges in
      let p = i.picks in
      let consistent : not (is_false know) ≡ true = is_sound know s tells i.consistent in
      let there : edge_with es first ≡ Some (Seg i.at i.args i.pred i.stop i.ends) = p.0 in
      let other : other_edge es first second ≡ Some (Seg i.from i.from_args i.pred i.last i.last_args) = other_to es first second (Seg i.from i.from_args i.pred i.last i.last_args) (gone 0 es s.graph.next first bounded.ids) p.1.0 in
      let own : (i.pred.0 == i.pred.0) ≡ true = eq-eqb i.pred.0 i.pred.0 refl in
      let meet : equal know i.stop i.from ≡ true = equal_to know s tells i.stop i.from i.meet in
      let args : all_equal know i.ends i.from_args ≡ true = all_equal_to know s tells i.ends i.from_args i.args_meet in
      let new : Edge = Seg i.at i.args i.pred i.last i.last_args in
      let gives : ◌≡◌ {A = Judged (List State)} (Ok (with_fold s (first ∷ second ∷ []) new ∷ [])) (Ok next) =
      ap (λ es. Ok (folded s es new ∷ [])) (sym p.1.1.1) ∙ ap (λ n. Ok n) (sym i.gives) in
      rw consistent (rw there (rw other (rw own (rw meet (rw args gives)))))

-- nodes of kinds, by a test
module _ (kinds : Kinds) where
  pub kinds_from : (ks : List Kind) (ns : List NodeId) → all_both (has_kind kinds) ks ns ≡ true → HaveKinds kinds ks ns
  kinds_from = both_from (has_kind kinds) (HaveKinds kinds) tt (λ k n ks ns e p. (has_kind_from kinds k n e, p))

  pub kinds_to : (ks : List Kind) (ns : List NodeId) → HaveKinds kinds ks ns → all_both (has_kind kinds) ks ns ≡ true
  kinds_to = both_to (has_kind kinds) (HaveKinds kinds) (λ k n ks ns p. (has_kind_to kinds k n p.0, p.1)) (λ n ns p. p) (λ k ks p. p)

module _ (know : Test) (defs : List Def) (pred : PredId) (at : NodeId) (args : List NodeId) (stop : NodeId) (ends : List NodeId) (s : State) (tells : Tells know s) where
  make_from : (next : List State) → making_seg know defs pred at args stop ends s ≡ Ok next → MakesEmptySeg defs pred at args stop ends s next
  make_from next e =
      let two = need_ok 2 _ _ next e in
      let three = have_ok 3 (slice_get defs pred.0) _ next two.1 in
      let def = three.0 in
      let first = need_ok 3 (has_kind s.kinds Ptr at && all_both (has_kind s.kinds) def.params args) _ next three.2 in
      let last = need_ok 3 (has_kind s.kinds Ptr stop && all_both (has_kind s.kinds) def.params ends) _ next first.1 in
      let four = need_ok 4 (equal know at stop) _ next last.1 in
      let five = need_ok 5 (all_equal know args ends) _ next four.1 in
      let f = and_both (has_kind s.kinds Ptr at) (all_both (has_kind s.kinds) def.params args) first.0 in
      let l = and_both (has_kind s.kinds Ptr stop) (all_both (has_kind s.kinds) def.params ends) last.0 in
      let is : with_edges s (Seg at args pred stop ends ∷ []) ∷ [] ≡ next = cc five.1 in
      record {
        consistent = not_false know s tells two.0;
        at_is = has_kind_from s.kinds Ptr at f.0;
        args_are = (def, three.1, kinds_from s.kinds def.params args f.1);
        stop_is = has_kind_from s.kinds Ptr stop l.0;
        ends_are = (def, three.1, kinds_from s.kinds def.params ends l.1);
        meet = equal_from know s tells at stop four.0;
        args_meet = all_equal_from know s tells args ends five.0;
        gives = sym is;
      }

  make_to : (next : List State) → MakesEmptySeg defs pred at args stop ends s next → making_seg know defs pred at args stop ends s ≡ Ok next
  make_to next i =
      let consistent : not (is_false know) ≡ true = is_sound know s tells i.consistent in
      let def : Def = i.args_are.0 in
      let defined : slice_get defs pred.0 ≡ Some def = i.args_are.1 in
      let one : def ≡ i.ends_are.0 = cc (defined, i.ends_are.1) in
      let ends_are : HaveKinds s.kinds def.params ends = subst (λ (d : Def). HaveKinds s.kinds d.params ends) (sym one) i.ends_are.2 in
      let first : (has_kind s.kinds Ptr at && all_both (has_kind s.kinds) def.params args) ≡ true =
      and_yes (has_kind s.kinds Ptr at) (all_both (has_kind s.kinds) def.params args) (has_kind_to s.kinds Ptr at i.at_is) (kinds_to s.kinds def.params args i.args_are.2) in
      let last : (has_kind s.kinds Ptr stop && all_both (has_kind s.kinds) def.params ends) ≡ true =
      and_yes (has_kind s.kinds Ptr stop) (all_both (has_kind s.kinds) def.params ends) (has_kind_to s.kinds Ptr stop i.stop_is) (kinds_to s.kinds def.params ends ends_are) in
      let meet : equal know at stop ≡ true = equal_to know s tells at stop i.meet in
      let args_meet : all_equal know args ends ≡ true = all_equal_to know s tells args ends i.args_meet in
      let gives : ◌≡◌ {A = Judged (List State)} (Ok (with_edges s (Seg at args pred stop ends ∷ []) ∷ [])) (Ok next) = ap (λ n. Ok n) (sym i.gives) in
      rw consistent (rw defined (rw first (rw last (rw meet (rw args_meet gives)))))

module _ (know : Test) (goal : Goal) (edge : EdgeId) (s : State) (tells : Tells know s) where
  meet_from : (done : Unit {0}) → meeting_goal know goal edge s ≡ Ok done → MeetsGoal goal edge s
  meet_from done e =
      let two = need_ok 2 _ _ done e in
      let three = have_ok 3 (ind_of goal.pred (edge_with s.graph.edges edge)) _ done two.1 in
      let p = three.0 in
      let four = need_ok 4 (equal know goal.at p.at && all_equal know goal.args p.args) _ done three.2 in
      let both = and_both (equal know goal.at p.at) (all_equal know goal.args p.args) four.0 in
      record {
        consistent = not_false know s tells two.0;
        at = p.at;
        args = p.args;
        there = ind_is goal.pred (edge_with s.graph.edges edge) p three.1;
        meets = equal_from know s tells goal.at p.at both.0;
        args_meet = all_equal_from know s tells goal.args p.args both.1;
      }

  meet_to : (done : Unit {0}) → MeetsGoal goal edge s → meeting_goal know goal edge s ≡ Ok done
  meet_to done i =
      let consistent : not (is_false know) ≡ true = is_sound know s tells i.consistent in
      let there : edge_with s.graph.edges edge ≡ Some (Ind i.at goal.pred i.args) = i.there in
      let own : (goal.pred.0 == goal.pred.0) ≡ true = eq-eqb goal.pred.0 goal.pred.0 refl in
      let meets : (equal know goal.at i.at && all_equal know goal.args i.args) ≡ true =
      and_yes (equal know goal.at i.at) (all_equal know goal.args i.args) (equal_to know s tells goal.at i.at i.meets) (all_equal_to know s tells goal.args i.args i.args_meet) in
      let gives : ◌≡◌ {A = Judged (Unit {0})} (Ok tt) (Ok done) = refl in
      rw consistent (rw there (rw own (rw meets gives)))

pub close_judged : CloseSegIsJudged
close_judged know first second s bounded tells next = (close_from know first second s tells next, close_to know first second s tells bounded next)

pub join_judged : JoinSegsIsJudged
join_judged know first second s bounded tells next = (join_from know first second s tells next, join_to know first second s tells bounded next)

pub make_judged : EmptySegIsJudged
make_judged know defs pred at args stop ends s tells next =
    (make_from know defs pred at args stop ends s tells next, make_to know defs pred at args stop ends s tells next)

pub goal_judged : GoalIsJudged
goal_judged know goal edge s tells done = (meet_from know goal edge s tells done, meet_to know goal edge s tells done)
