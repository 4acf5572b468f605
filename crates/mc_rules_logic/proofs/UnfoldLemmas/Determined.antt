-- A rule that unfolds gives one list of successors at most.
use Rattle.std.proofs.Common.{◌≡◌, Some, List, ◌∷◌, map, slice_get, sym, ◌∙◌, ap}
use Rattle.std.specs.List.{flat_map}
use Rattle.mc_base.specs.declared.ids.EdgeId.{EdgeId}
use Rattle.mc_base.specs.declared.ids.NodeId.{NodeId}
use Rattle.mc_base.specs.declared.ids.PredId.{PredId}
use Rattle.mc_flow.specs.declared.defs.rules.Def.{Def}
use Rattle.mc_state.specs.declared.graph.edge.Edge.{Edge}
use Rattle.mc_state.specs.declared.graph.edge.Edge.TheVariants.{Ind, Seg}
use Rattle.mc_state.specs.State.{State}
use Rattle.mc_rules_logic.specs.Unfold.Unfolded.{unfolded, unfolded_at, emptied, own_places}
use Rattle.mc_rules_logic.specs.Unfold.Laws.{IndIsDetermined, SegIsDetermined}

one_def : (defs : List Def) (p q : PredId) (d e : Def) → p ≡ q → slice_get defs p.0 ≡ Some d → slice_get defs q.0 ≡ Some e → d ≡ e
one_def defs p q d e same at there = let other : slice_get defs q.0 ≡ Some d = ap (λ r. slice_get defs r.0) (sym same) ∙ at in cc (other, there)

pub ind_determined : IndIsDetermined
ind_determined defs accessed edge s next other i j =
    let same : ◌≡◌ {A = Edge} (Ind i.at i.pred i.args) (Ind j.at j.pred j.args) = cc (i.there, j.there) in
    let at : i.at ≡ j.at = cc same in
    let pred : i.pred ≡ j.pred = cc same in
    let args : i.args ≡ j.args = cc same in
    let def : i.def ≡ j.def = one_def defs i.pred j.pred i.def j.def pred i.defined j.defined in
    i.gives ∙ ap (λ n. map (unfolded s edge n i.args) i.def.rules) at ∙ ap (λ ns. map (unfolded s edge j.at ns) i.def.rules) args ∙ ap (λ d. map (unfolded s edge j.at j.args) d.rules) def ∙ sym j.gives

-- the successors of a Seg
abbrev seg_next : State → EdgeId → NodeId → List NodeId → PredId → NodeId → List NodeId → Def → List State
seg_next s edge at args pred stop ends def =
    emptied s edge at args stop ends ∷ flat_map (λ rule. map (unfolded_at s edge at args stop ends rule) (own_places pred 0 rule.calls)) def.rules

pub seg_determined : SegIsDetermined
seg_determined defs accessed edge s next other i j =
    let same : ◌≡◌ {A = Edge} (Seg i.at i.args i.pred i.stop i.ends) (Seg j.at j.args j.pred j.stop j.ends) = cc (i.there, j.there) in
    let at : i.at ≡ j.at = cc same in
    let args : i.args ≡ j.args = cc same in
    let pred : i.pred ≡ j.pred = cc same in
    let stop : i.stop ≡ j.stop = cc same in
    let ends : i.ends ≡ j.ends = cc same in
    let def : i.def ≡ j.def = one_def defs i.pred j.pred i.def j.def pred i.defined j.defined in
    i.gives
    ∙ ap (λ n. seg_next s edge n i.args i.pred i.stop i.ends i.def) at
    ∙ ap (λ ns. seg_next s edge j.at ns i.pred i.stop i.ends i.def) args
    ∙ ap (λ p. seg_next s edge j.at j.args p i.stop i.ends i.def) pred
    ∙ ap (λ n. seg_next s edge j.at j.args j.pred n i.ends i.def) stop
    ∙ ap (λ ns. seg_next s edge j.at j.args j.pred j.stop ns i.def) ends
    ∙ ap (λ d. seg_next s edge j.at j.args j.pred j.stop j.ends d) def
    ∙ sym j.gives
