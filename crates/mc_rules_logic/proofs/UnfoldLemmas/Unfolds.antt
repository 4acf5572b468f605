-- The rules that unfold are sound, and numbers stay in their bounds.
use Rattle.std.proofs.Common.{◌≡◌, ◌+◌, ℕ, suc, ℤ, pos, Option, Some, List, [], ◌∷◌, ◌++◌, map, slice_get, refl, sym, ◌∙◌, ap, ap₂, subst, inl, inr, arith}
use Rattle.std.specs.List.{AllByRecursion, flat_map}
use Rattle.std.proofs.lemmas.Int.{ints}
use Rattle.mc_base.specs.declared.ids.EdgeId.{EdgeId}
use Rattle.mc_base.specs.declared.ids.NodeId.{NodeId}
use Rattle.mc_base.specs.declared.ids.PredId.{PredId}
use Rattle.mc_base.specs.Atoms.{IsTrueAtom, nodes_of_atom}
use Rattle.mc_base.specs.Nodes.{Valuation, at_node}
use Rattle.mc_flow.specs.Heap.Heap.{Region}
use Rattle.mc_flow.specs.Heap.Parts.{Split, Star, StarAt}
use Rattle.mc_flow.specs.declared.defs.rules.Def.{Def}
use Rattle.mc_flow.specs.declared.defs.rules.Rule.{Rule}
use Rattle.mc_flow.specs.Defs.Meaning.{RuleValues, CallMeets, SegCallMeets, BodyMeets, SegBodyMeets, Sat, EndsThere}
use Rattle.mc_flow.specs.Defs.Meaning as meaning
use Rattle.mc_state.specs.declared.graph.edge.Edge.{Edge}
use Rattle.mc_state.specs.declared.graph.edge.Edge.TheVariants.{Ind, Seg}
use Rattle.mc_state.specs.Graph.Graph.{Picks, edge_with, without}
use Rattle.mc_pure.specs.Pure.{Kinds, IsNode}
use Rattle.mc_state.specs.Bodies.{body_edges, body_to}
use Rattle.mc_state.specs.BodyLaws.{IsBody, IsBodyTo}
use Rattle.mc_state.specs.Fits.{AreNodes, IsBounded}
use Rattle.mc_state.specs.Rules.{StandsForSome, IsSound}
use Rattle.mc_state.specs.Stands.{EdgeMeets, StandsBy}
use Rattle.mc_state.specs.State.{State}
use Rattle.mc_rules_logic.specs.Unfold.Unfolded.{new_kinds, rule_nodes, unfolded, unfolded_at, equal_atoms, emptied, own_places}
use Rattle.mc_rules_logic.specs.Unfold.Laws.{LawOfInd, LawOfSeg}
use Rattle.mc_rules_logic.proofs.UnfoldLemmas.Lists.{all_images}
use Rattle.mc_rules_logic.proofs.UnfoldLemmas.Openings.{UnfoldLaws, closed, values_stay, new, agrees, new_zero, names_are, opened_stands, body_there, body_to_there, wide, nodes_there, opened_bounded}
use Rattle.mc_rules_logic.proofs.UnfoldLemmas.Places.{image_at, in_pieces, all_pieces, own_place}
use Rattle.mc_state.proofs.Lists.{all_left, all_map, all_right}

-- a list of one thing has the whole region
alone : (laws : UnfoldLaws) {A : Type 0} (M : A → Region → Type 0) (x : A) (region : Region) → Star M (x ∷ []) region → M x region
alone laws M x region s = subst (M x) (sym (laws.drops_empty region s.1 s.0 s.4 (laws.commutes region s.0 s.1 s.2))) s.3

module _ (laws : UnfoldLaws) (defs : List Def) (s : State) (bounded : IsBounded s) (edge : EdgeId) where
  -- the one edge that is named
  picked : (e : Edge) → edge_with s.graph.edges edge ≡ Some e → Picks (edge ∷ []) s.graph.edges (e ∷ []) (without s.graph.edges edge)
  picked e there = (there, (refl, refl))

  less_bounded : (e : Edge) → edge_with s.graph.edges edge ≡ Some e → IsBounded (closed s edge)
  less_bounded e there = laws.fewer_bounded s (edge ∷ []) (e ∷ []) (without s.graph.edges edge) (picked e there) bounded

  -- ---- an Ind
  module _ (at : NodeId) (pred : PredId) (args : List NodeId) (there : edge_with s.graph.edges edge ≡ Some (Ind at pred args)) (def : Def) (defined : slice_get defs pred.0 ≡ Some def) where
    ind_there : AreNodes s.kinds (at ∷ args)
    ind_there = (laws.picked_there s (edge ∷ []) (Ind at pred args ∷ []) (without s.graph.edges edge) (picked (Ind at pred args) there) bounded).0

    pub ind_sound : IsSound defs s (map (unfolded s edge at args) def.rules)
    ind_sound v values region addresses st =
        let taken = laws.taken defs v values region s (edge ∷ []) (Ind at pred args ∷ []) (without s.graph.edges edge) (picked (Ind at pred args) there) st in
        let sat : Sat defs pred (v at.0) (map (at_node v) args) taken.0 = alone laws (EdgeMeets defs v) (Ind at pred args) taken.0 taken.3 in
        let body = laws.unfolds defs pred (v at.0) (map (at_node v) args) taken.0 sat in
        let by : RuleValues defs pred (v at.0) (map (at_node v) args) = body.0 in
        let less = less_bounded (Ind at pred args) there in
        let w = new laws defs v s edge at args pred bounded less st.null ind_there by in
        let ns = rule_nodes s at args by.rule in
        let are = names_are laws defs v s edge at args pred bounded less st.null ind_there by in
        let parts : IsBody defs w ns by.rule.block by.rule.contents by.rule.calls taken.0 = rw are (body.1, body.2, body.3, body.4, body.5) in
        let same : by.def ≡ def = cc (by.defined, defined) in (
          by.place,
          unfolded s edge at args by.rule,
          w,
          image_at (unfolded s edge at args) def.rules by.place by.rule (subst (λ d. slice_get d.rules by.place ≡ Some by.rule) same by.listed),
          agrees laws defs v s edge at args pred bounded less st.null ind_there by,
          opened_stands laws defs v s edge at args pred bounded less st.null ind_there by values region taken.0 taken.1 (body_edges ns by.rule.block by.rule.contents by.rule.calls) taken.2
              ((laws.bodies defs w ns by.rule.block by.rule.contents by.rule.calls taken.0 (new_zero laws defs v s edge at args pred bounded less st.null ind_there by)).0 parts) taken.4,
        )

    pub ind_bounded : AllByRecursion IsBounded (map (unfolded s edge at args) def.rules)
    ind_bounded =
        all_images IsBounded (unfolded s edge at args)
        (λ rule.
        let less = less_bounded (Ind at pred args) there in
        let ns = rule_nodes s at args rule in
        opened_bounded laws s edge less at args ind_there rule (body_edges ns rule.block rule.contents rule.calls)
        (body_there (wide laws s edge less at args ind_there rule).kinds ns (nodes_there laws s edge less at args ind_there rule) rule.block rule.contents rule.calls)) def.rules

pub unfold_ind : UnfoldLaws → LawOfInd
unfold_ind laws defs accessed edge s next bounded i =
    subst (λ states. IsSound defs s states × AllByRecursion IsBounded states) (sym i.gives)
    (ind_sound laws defs s bounded edge i.at i.pred i.args i.there i.def i.defined, ind_bounded laws defs s bounded edge i.at i.pred i.args i.there i.def i.defined)

-- ---- a Seg

pub equal_true : (v : Valuation) (as' bs : List NodeId) → map (at_node v) as' ≡ map (at_node v) bs → AllByRecursion (IsTrueAtom v) (equal_atoms as' bs)
equal_true v [] bs e = tt
equal_true v (a ∷ as') [] e = tt
equal_true v (a ∷ as') (b ∷ bs) e =
    let here : v a.0 ≡ v b.0 = cc in
    let rest : map (at_node v) as' ≡ map (at_node v) bs = cc in
    (omega (arith, ints), equal_true v as' bs rest)

pub equal_there : (kinds : Kinds) (as' bs : List NodeId) → AreNodes kinds as' → AreNodes kinds bs → AllByRecursion (λ a. AreNodes kinds (nodes_of_atom a)) (equal_atoms as' bs)
equal_there kinds [] bs a b = tt
equal_there kinds (x ∷ as') [] a b = tt
equal_there kinds (x ∷ as') (y ∷ bs) a b = ((a.0, (b.0, tt)), equal_there kinds as' bs a.1 b.1)

-- the segment that a call goes on as, by any valuation with the same values at its end
seg_parts : (defs : List Def) (v w : Valuation) (ns : List NodeId) (names : List ℤ) (pred : PredId) (stop : NodeId) (ends : List NodeId) (place : ℕ) (rule : Rule) (region held rest : Region)
    → map (at_node w) ns ≡ names → w stop.0 ≡ v stop.0 → map (at_node w) ends ≡ map (at_node v) ends
    → Split region held rest → meaning.BlockMeets rule.block rule.contents names held
    → StarAt (CallMeets (Sat defs) names) (SegCallMeets (λ value args part. meaning.Seg defs pred value args (v stop.0) (map (at_node v) ends) part) pred names) place rule.calls rest
    → IsBodyTo defs w ns pred stop ends place rule.block rule.contents rule.calls region
seg_parts defs v w ns names pred stop ends place rule region held rest are last lasts split block calls = rw (are, last, lasts) (held, rest, split, block, calls)

module _ (laws : UnfoldLaws) (defs : List Def) (s : State) (bounded : IsBounded s) (edge : EdgeId) (at : NodeId) (args : List NodeId) (pred : PredId) (stop : NodeId) (ends : List NodeId)
    (there : edge_with s.graph.edges edge ≡ Some (Seg at args pred stop ends)) (def : Def) (defined : slice_get defs pred.0 ≡ Some def) where
  abbrev pub opened_seg : Rule → List State
  opened_seg rule = map (unfolded_at s edge at args stop ends rule) (own_places pred 0 rule.calls)

  abbrev pub seg_next : List State
  seg_next = emptied s edge at args stop ends ∷ flat_map opened_seg def.rules

  all_there : AreNodes s.kinds (at ∷ (args ++ (stop ∷ ends)))
  all_there = (laws.picked_there s (edge ∷ []) (Seg at args pred stop ends ∷ []) (without s.graph.edges edge) (picked laws defs s bounded edge (Seg at args pred stop ends) there) bounded).0

  start_there : AreNodes s.kinds (at ∷ args)
  start_there = (all_there.0, all_left (IsNode s.kinds) args (stop ∷ ends) all_there.1)

  end_there : AreNodes s.kinds (stop ∷ ends)
  end_there = all_right (IsNode s.kinds) args (stop ∷ ends) all_there.1

  less : IsBounded (closed s edge)
  less = less_bounded laws defs s bounded edge (Seg at args pred stop ends) there

  empty_stands : (v : Valuation) (values : List (Option ℤ)) (region part others : Region)
      → Split region part others → EndsThere (v stop.0) (map (at_node v) ends) (v at.0) (map (at_node v) args) part → StandsBy defs v values others (closed s edge)
      → StandsBy defs v values region (emptied s edge at args stop ends)
  empty_stands v values region part others split e st =
      let same : region ≡ others = laws.drops_empty region part others e.2 split in
      laws.atoms defs v values region (closed s edge) (equal_atoms (at ∷ args) (stop ∷ ends)) (equal_true v (at ∷ args) (stop ∷ ends) (ap₂ (λ z zs. z ∷ zs) e.0 e.1))
      (subst (λ r. StandsBy defs v values r (closed s edge)) (sym same) st)

  opened_at : (v : Valuation) (values : List (Option ℤ)) (region part others : Region) → v 0 ≡ pos 0
      → Split region part others → SegBodyMeets (Sat defs) (λ value' args' part'. meaning.Seg defs pred value' args' (v stop.0) (map (at_node v) ends) part') defs pred (v at.0) (map (at_node v) args) part
      → StandsBy defs v values others (closed s edge)
      → StandsForSome defs s.next v values region seg_next
  opened_at v values region part others zero_is split body st =
      let by : RuleValues defs pred (v at.0) (map (at_node v) args) = body.0 in
      let w = new laws defs v s edge at args pred bounded less zero_is start_there by in
      let ns = rule_nodes s at args by.rule in
      let agree = agrees laws defs v s edge at args pred bounded less zero_is start_there by in
      let stay = values_stay v w s (stop ∷ ends) bounded agree end_there in
      let last : w stop.0 ≡ v stop.0 = cc stay in
      let lasts : map (at_node w) ends ≡ map (at_node v) ends = cc stay in
      let parts = seg_parts defs v w ns by.names pred stop ends body.5 by.rule part body.1 body.2 (names_are laws defs v s edge at args pred bounded less zero_is start_there by) last lasts body.3 body.4 body.6 in
      let same : by.def ≡ def = cc (by.defined, defined) in
      let own = own_place (CallMeets (Sat defs) by.names) (SegCallMeets (λ value' args' part'. meaning.Seg defs pred value' args' (v stop.0) (map (at_node v) ends) part') pred by.names) pred (λ call r m. m.0) 0 body.5 by.rule.calls body.2 body.6 in
      let place_is : 0 + body.5 ≡ body.5 = omega arith in
      let inner = image_at (unfolded_at s edge at args stop ends by.rule) (own_places pred 0 by.rule.calls) own.0 body.5 (own.1 ∙ ap Some place_is) in
      let outer = in_pieces opened_seg def.rules by.place by.rule own.0 (unfolded_at s edge at args stop ends by.rule body.5) (subst (λ d. slice_get d.rules by.place ≡ Some by.rule) same by.listed) inner in (
        suc outer.0,
        unfolded_at s edge at args stop ends by.rule body.5,
        w,
        outer.1,
        agree,
        opened_stands laws defs v s edge at args pred bounded less zero_is start_there by values region part others (body_to ns stop ends body.5 by.rule.block by.rule.contents by.rule.calls) split
            (laws.seg_bodies defs w ns pred stop ends body.5 by.rule.block by.rule.contents by.rule.calls part (new_zero laws defs v s edge at args pred bounded less zero_is start_there by) parts) st,
      )

  pub seg_sound : IsSound defs s seg_next
  seg_sound v values region addresses st =
      let taken = laws.taken defs v values region s (edge ∷ []) (Seg at args pred stop ends ∷ []) (without s.graph.edges edge) (picked laws defs s bounded edge (Seg at args pred stop ends) there) st in
      let seg : meaning.Seg defs pred (v at.0) (map (at_node v) args) (v stop.0) (map (at_node v) ends) taken.0 = alone laws (EdgeMeets defs v) (Seg at args pred stop ends) taken.0 taken.3 in
      elim (laws.begins defs pred (v at.0) (map (at_node v) args) (v stop.0) (map (at_node v) ends) taken.0 seg) [
        | inl e ↦ (0, emptied s edge at args stop ends, v, refl, (λ m below. refl), empty_stands v values region taken.0 taken.1 taken.2 e taken.4)
        | inr body ↦ opened_at v values region taken.0 taken.1 st.null taken.2 body taken.4
      ]

  opened_all_bounded : (rule : Rule) → AllByRecursion IsBounded (opened_seg rule)
  opened_all_bounded rule =
      all_images IsBounded (unfolded_at s edge at args stop ends rule)
      (λ place.
      let ns = rule_nodes s at args rule in
      let kinds = (wide laws s edge less at args start_there rule).kinds in
      let far = all_map (IsNode s.kinds) (IsNode kinds) (laws.new_there (closed s edge) (new_kinds args rule)).1 (stop ∷ ends) end_there in
      opened_bounded laws s edge less at args start_there rule (body_to ns stop ends place rule.block rule.contents rule.calls)
      (body_to_there kinds ns (nodes_there laws s edge less at args start_there rule) stop ends far place rule.block rule.contents rule.calls))
      (own_places pred 0 rule.calls)

  pub seg_bounded : AllByRecursion IsBounded seg_next
  seg_bounded =
      (laws.atoms_bounded (closed s edge) (equal_atoms (at ∷ args) (stop ∷ ends)) less (equal_there s.kinds (at ∷ args) (stop ∷ ends) start_there end_there), all_pieces IsBounded opened_seg opened_all_bounded def.rules)

pub unfold_seg : UnfoldLaws → LawOfSeg
unfold_seg laws defs accessed edge s next bounded i =
    subst (λ states. IsSound defs s states × AllByRecursion IsBounded states) (sym i.gives)
    (seg_sound laws defs s bounded edge i.at i.args i.pred i.stop i.ends i.there i.def i.defined, seg_bounded laws defs s bounded edge i.at i.args i.pred i.stop i.ends i.there i.def i.defined)
