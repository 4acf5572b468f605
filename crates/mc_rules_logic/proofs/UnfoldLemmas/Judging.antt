-- The rules that unfold are judged by their instances.
use Rattle.std.proofs.Common.{◌≡◌, ◌⊎◌, List, [], ◌∷◌, Bool, true, false, Option, Some, None, refl, ap, sym, ◌∙◌, subst, inl, inr}
use Rattle.std.specs.Prelude.{◌==◌, ◌||◌, not, Ok, if◌then◌else◌}
use Rattle.std.specs.List.{AllByRecursion}
use Rattle.mc_base.specs.declared.ids.EdgeId.{EdgeId}
use Rattle.mc_base.specs.declared.ids.NodeId.{NodeId}
use Rattle.mc_base.specs.Nodes.{null}
use Rattle.mc_flow.specs.declared.defs.rules.Def.{Def}
use Rattle.mc_state.specs.declared.graph.edge.Edge.{Edge}
use Rattle.mc_state.specs.declared.graph.edge.Edge.TheVariants.{Block, Ind, Seg}
use Rattle.mc_state.specs.Graph.Graph.{Edges, edge_with}
use Rattle.mc_state.specs.Known.{Test, Tells, is_false, equal}
use Rattle.mc_state.specs.Named.{SegParts, seg_of}
use Rattle.mc_state.specs.Premises.{Judged}
use Rattle.mc_state.proofs.Numbered.{need_ok, have_ok}
use Rattle.mc_state.proofs.Tests.{not_false, is_sound, equal_from, equal_to}
use Rattle.mc_state.specs.Fits.{EdgeFitsDefs, FitsDefs}
use Rattle.mc_state.specs.Rules.{MayUnfold}
use Rattle.mc_state.specs.State.{State}
use Rattle.mc_rules_logic.specs.Unfold.JudgedLaws.{IndIsJudged, SegIsJudged}
use Rattle.mc_rules_logic.specs.Unfold.Judges.{AnyInd, any_ind_of, may_unfold, rules_in, rules_of, ind_successors, seg_successors, unfolding_ind, unfolding_seg}
use Rattle.mc_rules_logic.specs.Unfold.Unfolded.{UnfoldsInd, UnfoldsSeg}

-- an edge with the parts of an Ind is that Ind
ind_is : (o : Option Edge) (i : AnyInd) → any_ind_of o ≡ Some i → o ≡ Some (Ind i.at i.pred i.args)
ind_is None i e = absurd (cc e)
ind_is (Some (Block at shape fields)) i e = absurd (cc e)
ind_is (Some (Seg at args pred stop ends)) i e = absurd (cc e)
ind_is (Some (Ind at pred args)) i e =
    let same : ◌≡◌ {A = AnyInd} (record { at = at; pred = pred; args = args }) i = cc e in
    ap (λ (i : AnyInd). Some (Ind i.at i.pred i.args)) same

-- and one with the parts of a Seg is that Seg
pub seg_is : (o : Option Edge) (g : SegParts) → seg_of o ≡ Some g → o ≡ Some (Seg g.at g.args g.pred g.stop g.ends)
seg_is None g e = absurd (cc e)
seg_is (Some (Block at shape fields)) g e = absurd (cc e)
seg_is (Some (Ind at pred args)) g e = absurd (cc e)
seg_is (Some (Seg at args pred stop ends)) g e =
    let same : ◌≡◌ {A = SegParts} (record { at = at; args = args; pred = pred; stop = stop; ends = ends }) g = cc e in
    ap (λ (g : SegParts). Some (Seg g.at g.args g.pred g.stop g.ends)) same

-- what holds of every edge holds of the one with an id
pub edge_fits : (P : Edge → Type 0) (es : Edges) (id : EdgeId) (e : Edge) → edge_with es id ≡ Some e → AllByRecursion (λ x. P x.1) es → P e
edge_fits P [] id e there all = absurd (cc there)
edge_fits P (x ∷ es) id e there all = at (λ is. edge_fits P es id e is all.1) (x.0.0 == id.0) there
  where
    at : (edge_with es id ≡ Some e → P e) → (here : Bool) → (if here then Some x.1 else edge_with es id) ≡ Some e → P e
    at rest true is = let same : x.1 ≡ e = cc is in subst P same all.0
    at rest false is = rest is

pub or_true : (a b : Bool) → (a || b) ≡ true → (a ≡ true) ⊎ (b ≡ true)
or_true true b e = inl refl
or_true false b e = inr e

pub or_left : (a b : Bool) → a ≡ true → (a || b) ≡ true
or_left a b e = ap (λ x. x || b) e

pub or_right : (a b : Bool) → b ≡ true → (a || b) ≡ true
or_right true b e = refl
or_right false b e = e

module _ (know : Test) (s : State) (tells : Tells know s) where
  may_from : (accessed : Option NodeId) (at : NodeId) → may_unfold know accessed at ≡ true → MayUnfold s accessed at
  may_from None at e = equal_from know s tells at null e
  may_from (Some n) at e =
      elim (or_true (equal know at null) (equal know at n) e) [
        | inl null_is ↦ inl (equal_from know s tells at null null_is)
        | inr n_is ↦ inr (equal_from know s tells at n n_is)
      ]

  may_to : (accessed : Option NodeId) (at : NodeId) → MayUnfold s accessed at → may_unfold know accessed at ≡ true
  may_to None at m = equal_to know s tells at null m
  may_to (Some n) at (inl m) = or_left (equal know at null) (equal know at n) (equal_to know s tells at null m)
  may_to (Some n) at (inr m) = or_right (equal know at null) (equal know at n) (equal_to know s tells at n m)

  module _ (defs : List Def) (accessed : Option NodeId) (edge : EdgeId) where
    ind_from : FitsDefs defs s → (next : List State) → unfolding_ind know defs accessed edge s ≡ Ok next → UnfoldsInd defs accessed edge s next
    ind_from fits next e =
        let two = need_ok 2 _ _ next e in
        let three = have_ok 3 (any_ind_of (edge_with s.graph.edges edge)) _ next two.1 in
        let i = three.0 in
        let four = need_ok 4 (may_unfold know accessed i.at) _ next three.2 in
        let there = ind_is (edge_with s.graph.edges edge) i three.1 in
        let fit : EdgeFitsDefs defs s.kinds (Ind i.at i.pred i.args) = edge_fits (EdgeFitsDefs defs s.kinds) s.graph.edges edge (Ind i.at i.pred i.args) there fits in
        let is : ind_successors s edge i (rules_of defs i.pred) ≡ next = cc four.1 in
        record {
          consistent = not_false know s tells two.0;
          at = i.at;
          pred = i.pred;
          args = i.args;
          there = there;
          may = may_from accessed i.at four.0;
          def = fit.1.0;
          defined = fit.1.1;
          gives = sym is ∙ ap (λ (o : Option Def). ind_successors s edge i (rules_in o)) fit.1.1;
        }

    ind_to : (next : List State) → UnfoldsInd defs accessed edge s next → unfolding_ind know defs accessed edge s ≡ Ok next
    ind_to next u =
        let sound : not (is_false know) ≡ true = is_sound know s tells u.consistent in
        let there : edge_with s.graph.edges edge ≡ Some (Ind u.at u.pred u.args) = u.there in
        let may : may_unfold know accessed u.at ≡ true = may_to accessed u.at u.may in
        let i : AnyInd = record { at = u.at; pred = u.pred; args = u.args } in
        let gives : ◌≡◌ {A = Judged (List State)} (Ok (ind_successors s edge i (rules_of defs u.pred))) (Ok next) =
        ap (λ (o : Option Def). Ok (ind_successors s edge i (rules_in o))) u.defined ∙ ap (λ n. Ok n) (sym u.gives) in
        rw sound (rw there (rw may gives))

    seg_from : FitsDefs defs s → (next : List State) → unfolding_seg know defs accessed edge s ≡ Ok next → UnfoldsSeg defs accessed edge s next
    seg_from fits next e =
        let two = need_ok 2 _ _ next e in
        let three = have_ok 3 (seg_of (edge_with s.graph.edges edge)) _ next two.1 in
        let g = three.0 in
        let four = need_ok 4 (may_unfold know accessed g.at) _ next three.2 in
        let there = seg_is (edge_with s.graph.edges edge) g three.1 in
        let fit : EdgeFitsDefs defs s.kinds (Seg g.at g.args g.pred g.stop g.ends) = edge_fits (EdgeFitsDefs defs s.kinds) s.graph.edges edge (Seg g.at g.args g.pred g.stop g.ends) there fits in
        let is : seg_successors s edge g (rules_of defs g.pred) ≡ next = cc four.1 in
        record {
          consistent = not_false know s tells two.0;
          at = g.at;
          args = g.args;
          pred = g.pred;
          stop = g.stop;
          ends = g.ends;
          there = there;
          may = may_from accessed g.at four.0;
          def = fit.1.0;
          defined = fit.1.1;
          gives = sym is ∙ ap (λ (o : Option Def). seg_successors s edge g (rules_in o)) fit.1.1;
        }

    seg_to : (next : List State) → UnfoldsSeg defs accessed edge s next → unfolding_seg know defs accessed edge s ≡ Ok next
    seg_to next u =
        let sound : not (is_false know) ≡ true = is_sound know s tells u.consistent in
        let there : edge_with s.graph.edges edge ≡ Some (Seg u.at u.args u.pred u.stop u.ends) = u.there in
        let may : may_unfold know accessed u.at ≡ true = may_to accessed u.at u.may in
        let g : SegParts = record { at = u.at; args = u.args; pred = u.pred; stop = u.stop; ends = u.ends } in
        let gives : ◌≡◌ {A = Judged (List State)} (Ok (seg_successors s edge g (rules_of defs u.pred))) (Ok next) =
        ap (λ (o : Option Def). Ok (seg_successors s edge g (rules_in o))) u.defined ∙ ap (λ n. Ok n) (sym u.gives) in
        rw sound (rw there (rw may gives))

pub ind_judged : IndIsJudged
ind_judged know defs accessed edge s fits tells next = (ind_from know s tells defs accessed edge fits next, ind_to know s tells defs accessed edge next)

pub seg_judged : SegIsJudged
seg_judged know defs accessed edge s fits tells next = (seg_from know s tells defs accessed edge fits next, seg_to know s tells defs accessed edge next)
