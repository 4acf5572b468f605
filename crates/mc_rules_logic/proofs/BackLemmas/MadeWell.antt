-- What the rule that unfolds a segment from its end makes is well made.
use Rattle.std.proofs.Common.{◌≡◌, ℕ, zero, suc, Some, List, [], ◌∷◌, map, take, drop, remove, length, slice_get, refl, sym, ap, subst}
use Rattle.std.specs.List.{AllByRecursion}
use Rattle.mc_base.specs.declared.ids.EdgeId.{EdgeId}
use Rattle.mc_base.specs.declared.ids.NodeId.{NodeId}
use Rattle.mc_base.specs.declared.ids.PredId.{PredId}
use Rattle.mc_base.specs.declared.plain.Kind.{Kind}
use Rattle.mc_base.specs.declared.plain.Kind.TheVariants.{Ptr}
use Rattle.mc_base.specs.declared.plain.VarInfo.{VarInfo}
use Rattle.mc_flow.specs.declared.defs.rules.Call.{Call}
use Rattle.mc_flow.specs.declared.defs.rules.Def.{Def}
use Rattle.mc_flow.specs.declared.defs.rules.Rule.{Rule}
use Rattle.mc_flow.specs.declared.defs.shapes.StructInfo.{StructInfo}
use Rattle.mc_flow.specs.Defs.Conditions.{DefsFit}
use Rattle.mc_flow.specs.Defs.Instances.{node_of, atom_of}
use Rattle.mc_state.specs.declared.graph.edge.Edge.TheVariants.{Seg}
use Rattle.mc_state.specs.Graph.Graph.{edge_with, without}
use Rattle.mc_pure.specs.Pure.{Kinds, HasKind, IsWellFormed}
use Rattle.mc_state.specs.Bodies.{call_edge, block_edges}
use Rattle.mc_state.specs.Fits.{HaveKinds, ArgsFit, EdgeFitsDefs, IsWellMade}
use Rattle.mc_state.specs.Laws.{NewNodesHaveKinds}
use Rattle.mc_state.specs.State.{State, with_nodes, with_edges, with_only_edges}
use Rattle.mc_rules_logic.specs.Unfold.RuleLaws.{IsOwnPlace, OwnPlacesAreOwn, RuleOfFitting}
use Rattle.mc_rules_logic.specs.Unfold.Unfolded.{own_places}
use Rattle.mc_rules_logic.specs.Unfold.WellMade.{EdgeFits, NodesKeepWellMade, EdgesKeepWellMade, AtomsKeepWellMade, FewerKeepWellMade, EdgeOfFitting, EmptiedIsWellMade, RuleIsMade, RulesAreMade, EqualsAreFormed}
use Rattle.mc_rules_logic.specs.Back.Laws.{BackMakesWellMade}
use Rattle.mc_rules_logic.specs.Back.Unfolded.{new_nodes, body_behind, call_is_end, atoms_behind, unfolded_back}
use Rattle.mc_rules_logic.proofs.BackLemmas.Lists.{all_remove, one_of_all, all_pieces, all_images}
use Rattle.mc_state.proofs.Lists.{all_append}

-- what the proofs of this file rest on
pub record MadeLaws : Type 0 where
  pub nodes : NodesKeepWellMade
  pub edges : EdgesKeepWellMade
  pub atoms : AtomsKeepWellMade
  pub fewer : FewerKeepWellMade
  pub edge : EdgeOfFitting
  pub emptied : EmptiedIsWellMade
  pub have_kinds : NewNodesHaveKinds
  pub fits : RuleOfFitting
  pub rules : RulesAreMade
  pub equal : EqualsAreFormed
  pub own : OwnPlacesAreOwn

pub have_more : (small big : Kinds) → ((kind : Kind) (n : NodeId) → HasKind small kind n → HasKind big kind n) → (ks : List Kind) (ns : List NodeId) → HaveKinds small ks ns → HaveKinds big ks ns
have_more small big more [] [] h = tt
have_more small big more [] (n ∷ ns) h = absurd h
have_more small big more (k ∷ ks) [] h = absurd h
have_more small big more (k ∷ ks) (n ∷ ns) h = (more k n h.0, have_more small big more ks ns h.1)

module _ (kinds : Kinds) where
  have_take : (n : ℕ) (ks : List Kind) (ns : List NodeId) → HaveKinds kinds ks ns → HaveKinds kinds (take n ks) (take n ns)
  have_take zero ks ns h = tt
  have_take (suc n) [] [] h = tt
  have_take (suc n) [] (x ∷ ns) h = absurd h
  have_take (suc n) (k ∷ ks) [] h = absurd h
  have_take (suc n) (k ∷ ks) (x ∷ ns) h = (h.0, have_take n ks ns h.1)

  pub have_count : (ks : List Kind) (ns : List NodeId) → HaveKinds kinds ks ns → length ns ≡ length ks
  have_count [] [] h = refl
  have_count [] (n ∷ ns) h = absurd h
  have_count (k ∷ ks) [] h = absurd h
  have_count (k ∷ ks) (n ∷ ns) h = ap suc (have_count ks ns h.1)

  -- the first node and those after it, of the kinds of `this` and of the parameters
  front_kinds : (params : List Kind) (ns : List NodeId) → HaveKinds kinds (Ptr ∷ params) (take (suc (length params)) ns)
      → HasKind kinds Ptr (node_of ns 0) × HaveKinds kinds params (take (length params) (drop 1 ns))
  front_kinds params [] h = absurd h
  front_kinds params (n ∷ ns) h = (h.0, h.1)

module _ (laws : MadeLaws) (defs : List Def) (vars : List VarInfo) (structs : List StructInfo) (fit : DefsFit structs defs)
    (s : State) (made : IsWellMade defs vars structs s) (edge : EdgeId) (at : NodeId) (args : List NodeId) (pred : PredId) (stop : NodeId) (ends : List NodeId)
    (there : edge_with s.graph.edges edge ≡ Some (Seg at args pred stop ends)) (def : Def) (defined : slice_get defs pred.0 ≡ Some def)
    (r : ℕ) (rule : Rule) (listed : slice_get def.rules r ≡ Some rule) where
  abbrev rest : State
  rest = with_only_edges s (without s.graph.edges edge)

  abbrev wide : State
  wide = with_nodes rest rule.names

  abbrev new : List NodeId
  new = new_nodes s rule

  rest_made : IsWellMade defs vars structs rest
  rest_made = laws.fewer defs vars structs s edge (Seg at args pred stop ends) there made

  wide_made : IsWellMade defs vars structs wide
  wide_made = laws.nodes defs vars structs rest rule.names rest_made

  new_kinds : HaveKinds wide.kinds rule.names new
  new_kinds = (laws.have_kinds rest rule.names rest_made.bounded).0

  rule_made : RuleIsMade defs structs wide.kinds new rule
  rule_made = laws.rules defs structs def rule pred.0 r wide.kinds new fit defined listed new_kinds

  -- the Seg fits still
  seg_fits : EdgeFitsDefs defs wide.kinds (Seg at args pred stop ends)
  seg_fits =
      let f : EdgeFitsDefs defs s.kinds (Seg at args pred stop ends) = laws.edge defs s edge (Seg at args pred stop ends) there made.fits_defs in
      let more = (laws.have_kinds rest rule.names rest_made.bounded).1 in (
        more Ptr at f.0,
        (f.1.0, f.1.1, have_more s.kinds wide.kinds more f.1.0.params args f.1.2),
        more Ptr stop f.2,
        (f.3.0, f.3.1, have_more s.kinds wide.kinds more f.3.0.params ends f.3.2),
      )

  -- arguments of the predicate have its parameters' kinds
  of_def : (ns : List NodeId) → ArgsFit defs wide.kinds pred ns → HaveKinds wide.kinds def.params ns
  of_def ns f =
      let same : f.0 ≡ def = cc (f.1, defined) in
      subst (λ (d : Def). HaveKinds wide.kinds d.params ns) same f.2

  -- the nodes of `this` and of the parameters
  front : HasKind wide.kinds Ptr (node_of new 0) × HaveKinds wide.kinds def.params (take (length args) (drop 1 new))
  front =
      let taken = have_take wide.kinds (suc (length def.params)) rule.names new new_kinds in
      let names = (laws.fits structs defs pred.0 r def rule fit defined listed).fits.names.front in
      let parts = front_kinds wide.kinds def.params new (subst (λ ks. HaveKinds wide.kinds ks (take (suc (length def.params)) new)) names taken) in
      let count : length def.params ≡ length args = sym (have_count wide.kinds def.params args (of_def args seg_fits.1)) in
      (parts.0, subst (λ n. HaveKinds wide.kinds def.params (take n (drop 1 new))) count parts.1)

  module _ (place : ℕ) (call : Call) (at_place : slice_get rule.calls place ≡ Some call) (own : call.pred ≡ pred) where
    body_fits : AllByRecursion (EdgeFits defs structs wide.kinds) (body_behind at args pred new rule place)
    body_fits = (
      ((seg_fits.0, seg_fits.1, front.0, (def, defined, front.1)), tt),
      all_append (EdgeFits defs structs wide.kinds) (block_edges new rule.block rule.contents) (map (call_edge new) (remove rule.calls place)) rule_made.block
          (all_images (EdgeFits defs structs wide.kinds) (λ c. EdgeFitsDefs defs wide.kinds (call_edge new c)) (call_edge new) (λ c f. (f, tt)) (remove rule.calls place)
          (all_remove (λ c. EdgeFitsDefs defs wide.kinds (call_edge new c)) place rule.calls rule_made.calls)),
    )

    call_formed : AllByRecursion (IsWellFormed wide.kinds) (call_is_end new stop ends (slice_get rule.calls place))
    call_formed =
        let fits : EdgeFitsDefs defs wide.kinds (call_edge new call) = one_of_all (λ c. EdgeFitsDefs defs wide.kinds (call_edge new c)) rule.calls place call at_place rule_made.calls in
        let args_fit : ArgsFit defs wide.kinds pred (map (node_of new) call.args) = subst (λ q. ArgsFit defs wide.kinds q (map (node_of new) call.args)) own fits.1 in
        subst (λ o. AllByRecursion (IsWellFormed wide.kinds) (call_is_end new stop ends o)) (sym at_place)
        (laws.equal wide.kinds (Ptr ∷ def.params) (node_of new call.at ∷ map (node_of new) call.args) (stop ∷ ends)
        (fits.0, of_def (map (node_of new) call.args) args_fit) (seg_fits.2, of_def ends seg_fits.3))

    unfolded_made : IsWellMade defs vars structs (unfolded_back s edge at args pred stop ends rule place)
    unfolded_made =
        laws.atoms defs vars structs (with_edges wide (body_behind at args pred new rule place)) (atoms_behind new stop ends rule place)
        (all_append (IsWellFormed wide.kinds) (map (atom_of new) rule.atoms) (call_is_end new stop ends (slice_get rule.calls place)) rule_made.atoms call_formed)
        (laws.edges defs vars structs wide (body_behind at args pred new rule place) body_fits wide_made)

  all_made : AllByRecursion (IsWellMade defs vars structs) (map (unfolded_back s edge at args pred stop ends rule) (own_places pred 0 rule.calls))
  all_made =
      all_images (IsWellMade defs vars structs) (IsOwnPlace pred rule.calls) (unfolded_back s edge at args pred stop ends rule)
      (λ place o. unfolded_made place o.0 o.1 o.2) (own_places pred 0 rule.calls) (laws.own pred rule.calls)

pub back_makes : MadeLaws → BackMakesWellMade
back_makes laws defs vars structs accessed edge s next fit made u =
    let first = laws.emptied defs vars structs s edge u.at u.args u.pred u.stop u.ends u.there made in
    let others = all_pieces (IsWellMade defs vars structs) (λ (rule : Rule). map (unfolded_back s edge u.at u.args u.pred u.stop u.ends rule) (own_places u.pred 0 rule.calls)) u.back.def.rules
    (λ r rule listed. all_made laws defs vars structs fit s made edge u.at u.args u.pred u.stop u.ends u.there u.back.def u.back.defined r rule listed) in
    subst (AllByRecursion (IsWellMade defs vars structs)) (sym u.gives) (first, others)
