-- The rule that unfolds a segment from its end is judged by its instances, and gives one list of successors.
use Rattle.std.proofs.Common.{◌≡◌, ◌+◌, ℕ, zero, suc, List, [], ◌∷◌, Bool, true, ◌&&◌, Option, Some, None, slice_get, refl, ap, sym, ◌∙◌, inl, inr, arith}
use Rattle.std.specs.Prelude.{not, Ok}
use Rattle.mc_base.specs.declared.ids.EdgeId.{EdgeId}
use Rattle.mc_base.specs.declared.ids.NodeId.{NodeId}
use Rattle.mc_base.specs.declared.ids.PredId.{PredId}
use Rattle.mc_flow.specs.declared.defs.rules.Def.{Def}
use Rattle.mc_state.specs.declared.graph.edge.Edge.{Edge}
use Rattle.mc_state.specs.declared.graph.edge.Edge.TheVariants.{Seg}
use Rattle.mc_state.specs.Graph.Graph.{edge_with}
use Rattle.mc_state.specs.Back.{IsBackPosition, is_back}
use Rattle.mc_state.specs.Known.{Test, Tells, is_false, equal}
use Rattle.mc_state.specs.Told.{BackIsTold}
use Rattle.mc_state.specs.Lists.{on_some}
use Rattle.mc_state.specs.Named.{SegParts, seg_of}
use Rattle.mc_state.specs.Premises.{Judged}
use Rattle.mc_state.proofs.Numbered.{need_ok, have_ok}
use Rattle.mc_state.proofs.Tests.{and_both, and_yes, not_false, is_sound, equal_from, equal_to}
use Rattle.mc_state.specs.State.{State}
use Rattle.mc_rules_logic.specs.Unfold.Judges.{rules_in, rules_of}
use Rattle.mc_rules_logic.specs.Back.Judges.{ends_back_at, is_reached_back, unfolding_back}
use Rattle.mc_rules_logic.specs.Back.Laws.{BackIsJudged, BackIsDetermined}
use Rattle.mc_rules_logic.specs.Back.Unfolded.{back_successors, UnfoldsBack}
use Rattle.mc_rules_logic.proofs.UnfoldLemmas.Judging.{or_left, or_right, or_true, seg_is}

some_test : {A : Type 0} (test : A → Bool) (o : Option A) → on_some test o ≡ true → (a : A) × (o ≡ Some a) × (test a ≡ true)
some_test test None e = absurd (cc e)
some_test test (Some a) e = (a, refl, e)

module _ (know : Test) (defs : List Def) (pred : PredId) (node : NodeId) where
  -- an end argument at a back position, which is known to be equal to the node
  pub record ReachedBack (position : ℕ) (ends : List NodeId) : Type 0 where
    pub place : ℕ
    pub last : NodeId
    pub ends_at : slice_get ends place ≡ Some last
    pub back : is_back defs pred (position + place) ≡ true
    pub known : equal know last node ≡ true

  pub back_from : (position : ℕ) (ends : List NodeId) → ends_back_at know defs pred node position ends ≡ true → ReachedBack position ends
  back_from position [] e = absurd (cc e)
  back_from position (x ∷ ends) e =
      elim (or_true (is_back defs pred position && equal know x node) (ends_back_at know defs pred node (suc position) ends) e) [
        | inl here ↦
            let both = and_both (is_back defs pred position) (equal know x node) here in
            let at : position + 0 ≡ position = omega arith in
            record { place = 0; last = x; ends_at = refl; back = ap (is_back defs pred) at ∙ both.0; known = both.1 }
        | inr later ↦
            let more = back_from (suc position) ends later in
            let place = more.place in
            let at : position + suc place ≡ suc position + place = omega arith in
            record { place = suc place; last = more.last; ends_at = more.ends_at; back = ap (is_back defs pred) at ∙ more.back; known = more.known }
      ]

  pub back_to : (position : ℕ) (ends : List NodeId) (place : ℕ) (last : NodeId) → slice_get ends place ≡ Some last → is_back defs pred (position + place) ≡ true → equal know last node ≡ true → ends_back_at know defs pred node position ends ≡ true
  back_to position [] place last e back known = cc
  back_to position (x ∷ ends) zero last e back known =
      let same : x ≡ last = cc in
      let at : position ≡ position + 0 = omega arith in
      let first : (is_back defs pred position && equal know x node) ≡ true = and_yes (is_back defs pred position) (equal know x node) (ap (is_back defs pred) at ∙ back) (ap (λ n. equal know n node) same ∙ known) in
      or_left (is_back defs pred position && equal know x node) (ends_back_at know defs pred node (suc position) ends) first
  back_to position (x ∷ ends) (suc place) last e back known =
      let at : suc position + place ≡ position + suc place = omega arith in
      or_right (is_back defs pred position && equal know x node) (ends_back_at know defs pred node (suc position) ends)
      (back_to (suc position) ends place last e (ap (is_back defs pred) at ∙ back) known)

-- what the rules of the predicate give is what those of its definition give
given : (defs : List Def) (edge : EdgeId) (s : State) (g : SegParts) (position : ℕ) (back : IsBackPosition defs g.pred position) (next : List State)
    → back_successors s edge g.at g.args g.pred g.stop g.ends (rules_of defs g.pred) ≡ next → next ≡ back_successors s edge g.at g.args g.pred g.stop g.ends back.def.rules
given defs edge s g position back next is = sym is ∙ ap (λ (o : Option Def). back_successors s edge g.at g.args g.pred g.stop g.ends (rules_in o)) back.defined

module _ (told : BackIsTold) (know : Test) (defs : List Def) (accessed : Option NodeId) (edge : EdgeId) (s : State) (tells : Tells know s) where
  from : (next : List State) → unfolding_back know defs accessed edge s ≡ Ok next → UnfoldsBack defs accessed edge s next
  from next e =
      let two = need_ok 2 _ _ next e in
      let three = have_ok 3 (seg_of (edge_with s.graph.edges edge)) _ next two.1 in
      let g = three.0 in
      let four = need_ok 4 (is_reached_back know defs accessed g) _ next three.2 in
      let node = some_test (λ node. ends_back_at know defs g.pred node 0 g.ends) accessed four.0 in
      let reached = back_from know defs g.pred node.0 0 g.ends node.2 in
      let position = reached.place in
      let at : position ≡ 0 + position = omega arith in
      let back = (told defs g.pred position).0 (ap (is_back defs g.pred) at ∙ reached.back) in
      let is : back_successors s edge g.at g.args g.pred g.stop g.ends (rules_of defs g.pred) ≡ next = cc four.1 in
      record {
        consistent = not_false know s tells two.0;
        at = g.at;
        args = g.args;
        pred = g.pred;
        stop = g.stop;
        ends = g.ends;
        there = seg_is (edge_with s.graph.edges edge) g three.1;
        node = node.0;
        accesses = node.1;
        position = position;
        back = back;
        last = reached.last;
        ends_at = reached.ends_at;
        meets = equal_from know s tells reached.last node.0 reached.known;
        gives = given defs edge s g position back next is;
      }

  to : (next : List State) → UnfoldsBack defs accessed edge s next → unfolding_back know defs accessed edge s ≡ Ok next
  to next u =
      let sound : not (is_false know) ≡ true = is_sound know s tells u.consistent in
      let there : edge_with s.graph.edges edge ≡ Some (Seg u.at u.args u.pred u.stop u.ends) = u.there in
      let g : SegParts = record { at = u.at; args = u.args; pred = u.pred; stop = u.stop; ends = u.ends } in
      let position = u.position in
      let at : 0 + position ≡ position = omega arith in
      let back : is_back defs u.pred (0 + position) ≡ true = ap (is_back defs u.pred) at ∙ (told defs u.pred position).1 u.back in
      let known : ends_back_at know defs u.pred u.node 0 u.ends ≡ true = back_to know defs u.pred u.node 0 u.ends position u.last u.ends_at back (equal_to know s tells u.last u.node u.meets) in
      let reached : is_reached_back know defs accessed g ≡ true = ap (λ (o : Option NodeId). is_reached_back know defs o g) u.accesses ∙ known in
      let gives : ◌≡◌ {A = Judged (List State)} (Ok (back_successors s edge u.at u.args u.pred u.stop u.ends (rules_of defs u.pred))) (Ok next) =
      ap (λ (o : Option Def). Ok (back_successors s edge u.at u.args u.pred u.stop u.ends (rules_in o))) u.back.defined ∙ ap (λ n. Ok n) (sym u.gives) in
      rw sound (rw there (rw reached gives))

pub back_judged : BackIsTold → BackIsJudged
back_judged told know defs accessed edge s tells next = (from told know defs accessed edge s tells next, to told know defs accessed edge s tells next)

one_def : (defs : List Def) (p q : PredId) (d e : Def) → p ≡ q → slice_get defs p.0 ≡ Some d → slice_get defs q.0 ≡ Some e → d ≡ e
one_def defs p q d e same at there = let other : slice_get defs q.0 ≡ Some d = ap (λ (r : PredId). slice_get defs r.0) (sym same) ∙ at in cc (other, there)

pub back_determined : BackIsDetermined
back_determined defs accessed edge s next other i j =
    let same : ◌≡◌ {A = Edge} (Seg i.at i.args i.pred i.stop i.ends) (Seg j.at j.args j.pred j.stop j.ends) = cc (i.there, j.there) in
    let at : i.at ≡ j.at = cc same in
    let args : i.args ≡ j.args = cc same in
    let pred : i.pred ≡ j.pred = cc same in
    let stop : i.stop ≡ j.stop = cc same in
    let ends : i.ends ≡ j.ends = cc same in
    let def : i.back.def ≡ j.back.def = one_def defs i.pred j.pred i.back.def j.back.def pred i.back.defined j.back.defined in
    let rules : i.back.def.rules ≡ j.back.def.rules = ap (λ (d : Def). d.rules) def in
    i.gives
    ∙ ap (λ n. back_successors s edge n i.args i.pred i.stop i.ends i.back.def.rules) at
    ∙ ap (λ ns. back_successors s edge j.at ns i.pred i.stop i.ends i.back.def.rules) args
    ∙ ap (λ p. back_successors s edge j.at j.args p i.stop i.ends i.back.def.rules) pred
    ∙ ap (λ n. back_successors s edge j.at j.args j.pred n i.ends i.back.def.rules) stop
    ∙ ap (λ ns. back_successors s edge j.at j.args j.pred j.stop ns i.back.def.rules) ends
    ∙ ap (λ rs. back_successors s edge j.at j.args j.pred j.stop j.ends rs) rules
    ∙ sym j.gives
