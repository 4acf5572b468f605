-- The rule that unfolds a segment from its end is sound, and numbers stay in their bounds.
use Rattle.std.proofs.Common.{◌≡◌, ℕ, zero, suc, ℤ, pos, Option, Some, None, List, [], ◌∷◌, ◌++◌, map, take, drop, remove, length, get_or, slice_get, refl, sym, ◌∙◌, ap, ap₂, subst, inl, inr}
use Rattle.std.specs.List.{AllByRecursion}
use Rattle.std.proofs.Math.ListN.{get_or-map}
use Rattle.std.proofs.lemmas.List.{length-map}
use Rattle.mc_base.specs.declared.ids.EdgeId.{EdgeId}
use Rattle.mc_base.specs.declared.ids.NodeId.{NodeId}
use Rattle.mc_base.specs.declared.ids.PredId.{PredId}
use Rattle.mc_base.specs.declared.plain.Atom.{Atom}
use Rattle.mc_base.specs.declared.plain.Kind.{Kind}
use Rattle.mc_base.specs.Atoms.{IsTrueAtom, nodes_of_atom}
use Rattle.mc_base.specs.Nodes.{Valuation, at_node, null}
use Rattle.mc_flow.specs.Heap.Heap.{Region}
use Rattle.mc_flow.specs.Heap.Parts.{Split, Star, StarAt}
use Rattle.mc_flow.specs.Heap.PartLaws.{SplitCommutes, SplitDropsEmpty}
use Rattle.mc_flow.specs.declared.defs.rules.Call.{Call}
use Rattle.mc_flow.specs.declared.defs.rules.Def.{Def}
use Rattle.mc_flow.specs.declared.defs.rules.Rule.{Rule}
use Rattle.mc_flow.specs.Defs.Instances.{node_of, atom_of}
use Rattle.mc_flow.specs.Defs.Laws.{SegBegins}
use Rattle.mc_flow.specs.Defs.Meaning.{RuleValues, BlockMeets, CallMeets, SegCallMeets, Sat, EndsThere, SegBodyMeets}
use Rattle.mc_flow.specs.Defs.Meaning as meaning
use Rattle.mc_flow.specs.Defs.Values as named
use Rattle.mc_flow.specs.Defs.Values.{value_of, InKinds}
use Rattle.mc_state.specs.declared.graph.edge.Edge.TheVariants.{Seg}
use Rattle.mc_state.specs.Graph.Edges.{nodes_of}
use Rattle.mc_state.specs.Graph.Graph.{Picks, edge_with, without}
use Rattle.mc_pure.specs.Pure.{IsNode}
use Rattle.mc_state.specs.Bodies.{body_edges}
use Rattle.mc_state.specs.BodyLaws.{BodiesAreEdges}
use Rattle.mc_state.specs.Fits.{AreNodes, IsBounded}
use Rattle.mc_state.specs.Laws.{NodesAreAdded, NodesHaveValues, ValuesAgree, AtomsAreAdded, EdgesAreTaken, EdgesArePut, NodesStayBounded, NewNodesAreThere, AtomsStayBounded, EdgesStayBounded, FewerEdgesStayBounded, PickedNodesAreThere}
use Rattle.mc_state.specs.Rules.{StandsForSome, IsSound}
use Rattle.mc_state.specs.Stands.{EdgeMeets, StandsBy, AgreeBelow, extended}
use Rattle.mc_state.specs.State.{State, numbered_nodes, with_nodes, with_edges, with_only_edges}
use Rattle.mc_rules_logic.specs.Unfold.RuleLaws.{RuleAtomsAreTrue, EqualAtomsAreTrue, NameIsThere, BodyIsThere, RuleAtomsAreThere, EqualAtomsAreThere, OwnPlaceIsListed}
use Rattle.mc_rules_logic.specs.Unfold.Unfolded.{emptied, equal_atoms, own_places}
use Rattle.mc_rules_logic.specs.Back.Ends.{SegEnds}
use Rattle.mc_rules_logic.specs.Back.Laws.{LawOfBack}
use Rattle.mc_rules_logic.specs.Back.Unfolded.{new_nodes, body_behind, call_is_end, atoms_behind, unfolded_back, back_successors}
use Rattle.mc_rules_logic.proofs.BackLemmas.Lists.{all_take, all_drop, image_at, in_pieces, all_pieces, all_images, star_at_get, star_without}
use Rattle.mc_state.proofs.Lists.{all_append, all_left, all_map, all_right}

-- what the rule rests on
pub record BackLaws : Type 0 where
  pub commutes : SplitCommutes
  pub drops_empty : SplitDropsEmpty
  pub begins : SegBegins
  pub ends : SegEnds
  pub bodies : BodiesAreEdges
  pub nodes : NodesAreAdded
  pub values : NodesHaveValues
  pub agree : ValuesAgree
  pub atoms : AtomsAreAdded
  pub taken : EdgesAreTaken
  pub put : EdgesArePut
  pub nodes_bounded : NodesStayBounded
  pub atoms_bounded : AtomsStayBounded
  pub edges_bounded : EdgesStayBounded
  pub fewer_bounded : FewerEdgesStayBounded
  pub new_there : NewNodesAreThere
  pub picked_there : PickedNodesAreThere
  pub rule_atoms : RuleAtomsAreTrue
  pub equal_true : EqualAtomsAreTrue
  pub name_there : NameIsThere
  pub body_there : BodyIsThere
  pub atoms_there : RuleAtomsAreThere
  pub equal_there : EqualAtomsAreThere
  pub listed : OwnPlaceIsListed

-- a list of one thing has the whole region
alone : (laws : BackLaws) {A : Type 0} (M : A → Region → Type 0) (x : A) (region : Region) → Star M (x ∷ []) region → M x region
alone laws M x region s = subst (M x) (sym (laws.drops_empty region s.1 s.0 s.4 (laws.commutes region s.0 s.1 s.2))) s.3

-- one number for each kind
numbers_count : (kinds : List Kind) (numbers : List ℤ) → InKinds kinds numbers → length kinds ≡ length numbers
numbers_count [] [] t = refl
numbers_count [] (z ∷ numbers) t = absurd t
numbers_count (kind ∷ kinds) [] t = absurd t
numbers_count (kind ∷ kinds) (z ∷ numbers) t = ap suc (numbers_count kinds numbers t.1)

-- ---- values of names
module _ (w : Valuation) (ns : List NodeId) (zero_is : w 0 ≡ pos 0) where
  name_value : (name : ℕ) → w (node_of ns name).0 ≡ value_of (map (at_node w) ns) name
  name_value name = sym (ap (λ d. get_or (map (at_node w) ns) name d) (sym zero_is) ∙ get_or-map (at_node w) ns name null)

  names_values : (names : List ℕ) → map (at_node w) (map (node_of ns) names) ≡ map (value_of (map (at_node w) ns)) names
  names_values [] = refl
  names_values (name ∷ names) = ap₂ (λ z zs. z ∷ zs) (name_value name) (names_values names)

drop_map : (w : Valuation) (n : ℕ) (ns : List NodeId) → map (at_node w) (drop n ns) ≡ drop n (map (at_node w) ns)
drop_map w zero ns = refl
drop_map w (suc n) [] = refl
drop_map w (suc n) (x ∷ ns) = drop_map w n ns

take_map : (w : Valuation) (n : ℕ) (ns : List NodeId) → map (at_node w) (take n ns) ≡ take n (map (at_node w) ns)
take_map w zero ns = refl
take_map w (suc n) [] = refl
take_map w (suc n) (x ∷ ns) = ap (λ zs. w x.0 ∷ zs) (take_map w n ns)

take_front : (xs ys : List ℤ) → take (length xs) (xs ++ ys) ≡ xs
take_front [] ys = refl
take_front (x ∷ xs) ys = ap (λ zs. x ∷ zs) (take_front xs ys)

-- a segment that ends where a rule of its predicate begins has as many arguments there as at its start
seg_counts : SegBegins → (defs : List Def) (pred : PredId) (value : ℤ) (args : List ℤ) (last : ℤ) (lasts : List ℤ) (region : Region)
    → meaning.Seg defs pred value args last lasts region → RuleValues defs pred last lasts → length args ≡ length lasts
seg_counts begins defs pred value args last lasts region seg by =
    elim (begins defs pred value args last lasts region seg) [
      | inl e ↦ ap length e.1
      | inr body ↦
          let first : RuleValues defs pred value args = body.0 in
          let same : first.def ≡ by.def = cc (first.defined, by.defined) in
          first.count ∙ ap (λ (d : Def). length d.params) same ∙ sym by.count
    ]

module _ (laws : BackLaws) (defs : List Def) (s : State) (bounded : IsBounded s) (edge : EdgeId) (at : NodeId) (args : List NodeId) (pred : PredId) (stop : NodeId) (ends : List NodeId)
    (there : edge_with s.graph.edges edge ≡ Some (Seg at args pred stop ends)) (def : Def) (defined : slice_get defs pred.0 ≡ Some def) where
  abbrev rest : State
  rest = with_only_edges s (without s.graph.edges edge)

  picked : Picks (edge ∷ []) s.graph.edges (Seg at args pred stop ends ∷ []) (without s.graph.edges edge)
  picked = (there, (refl, refl))

  all_there : AreNodes s.kinds (at ∷ (args ++ (stop ∷ ends)))
  all_there = (laws.picked_there s (edge ∷ []) (Seg at args pred stop ends ∷ []) (without s.graph.edges edge) picked bounded).0

  start_there : AreNodes s.kinds (at ∷ args)
  start_there = (all_there.0, all_left (IsNode s.kinds) args (stop ∷ ends) all_there.1)

  end_there : AreNodes s.kinds (stop ∷ ends)
  end_there = all_right (IsNode s.kinds) args (stop ∷ ends) all_there.1

  less : IsBounded rest
  less = laws.fewer_bounded s (edge ∷ []) (Seg at args pred stop ends ∷ []) (without s.graph.edges edge) picked bounded

  abbrev successors : List State
  successors = back_successors s edge at args pred stop ends def.rules

  abbrev opened : Rule → List State
  opened rule = map (unfolded_back s edge at args pred stop ends rule) (own_places pred 0 rule.calls)

  -- ---- soundness
  module _ (v : Valuation) (values : List (Option ℤ)) (region part others : Region) (split : Split region part others) (st : StandsBy defs v values others rest) where
    empty_stands : EndsThere (v stop.0) (map (at_node v) ends) (v at.0) (map (at_node v) args) part → StandsBy defs v values region (emptied s edge at args stop ends)
    empty_stands e =
        let same : region ≡ others = laws.drops_empty region part others e.2 split in
        laws.atoms defs v values region rest (equal_atoms (at ∷ args) (stop ∷ ends)) (laws.equal_true v (at ∷ args) (stop ∷ ends) (ap₂ (λ z zs. z ∷ zs) e.0 e.1))
        (subst (λ r. StandsBy defs v values r rest) (sym same) st)

    module _ (last : ℤ) (lasts : List ℤ) (front back : Region) (halves : Split part front back) (seg : meaning.Seg defs pred (v at.0) (map (at_node v) args) last lasts front)
        (by : RuleValues defs pred last lasts) (block calls : Region) (inner : Split back block calls) (block_is : BlockMeets by.rule.block by.rule.contents by.names block)
        (place : ℕ) (calls_are : StarAt (CallMeets (Sat defs) by.names) (SegCallMeets (EndsThere (v stop.0) (map (at_node v) ends)) pred by.names) place by.rule.calls calls) where
      abbrev w : Valuation
      w = extended v s.next by.names

      abbrev ns : List NodeId
      ns = new_nodes s by.rule

      agrees : AgreeBelow s.next v w
      agrees = (laws.values v s.next by.names).1

      w_zero : w 0 ≡ pos 0
      w_zero = agrees 0 bounded.positive ∙ st.null

      -- the new nodes have the values of the rule's names
      names_are : map (at_node w) ns ≡ by.names
      names_are = ap (λ n. map (at_node w) (numbered_nodes s.next n)) (numbers_count by.rule.names by.names by.kinds) ∙ (laws.values v s.next by.names).0

      -- the call that is the end
      ending : (call : Call) × (g : Region) × (slice_get by.rule.calls place ≡ Some call) × SegCallMeets (EndsThere (v stop.0) (map (at_node v) ends)) pred by.names call g
      ending = star_at_get (CallMeets (Sat defs) by.names) (SegCallMeets (EndsThere (v stop.0) (map (at_node v) ends)) pred by.names) place by.rule.calls calls calls_are

      this_is : w (node_of ns 0).0 ≡ last
      this_is = name_value w ns w_zero 0 ∙ ap (λ names. value_of names 0) (names_are ∙ by.front)

      params_are : map (at_node w) (take (length args) (drop 1 ns)) ≡ lasts
      params_are =
          let count : length args ≡ length lasts = sym (length-map args (at_node v)) ∙ seg_counts laws.begins defs pred (v at.0) (map (at_node v) args) last lasts front seg by in
          take_map w (length args) (drop 1 ns) ∙ ap (λ l. take (length args) l) (drop_map w 1 ns) ∙ ap (λ l. take (length args) (drop 1 l)) (names_are ∙ by.front)
          ∙ ap (λ n. take n (lasts ++ by.others)) count ∙ take_front lasts by.others

      start_is : map (at_node w) (at ∷ args) ≡ map (at_node v) (at ∷ args)
      start_is = laws.agree s v w (at ∷ args) bounded agrees start_there

      segment : EdgeMeets defs w (Seg at args pred (node_of ns 0) (take (length args) (drop 1 ns))) front
      segment =
          let at_is : v at.0 ≡ w at.0 = cc start_is in
          let args_are : map (at_node v) args ≡ map (at_node w) args = cc start_is in
          subst (λ z. meaning.Seg defs pred z (map (at_node w) args) (w (node_of ns 0).0) (map (at_node w) (take (length args) (drop 1 ns))) front) at_is
          (subst (λ zs. meaning.Seg defs pred (v at.0) zs (w (node_of ns 0).0) (map (at_node w) (take (length args) (drop 1 ns))) front) args_are
          (subst (λ z. meaning.Seg defs pred (v at.0) (map (at_node v) args) z (map (at_node w) (take (length args) (drop 1 ns))) front) (sym this_is)
          (subst (λ zs. meaning.Seg defs pred (v at.0) (map (at_node v) args) last zs front) (sym params_are) seg)))

      body : Star (EdgeMeets defs w) (body_edges ns by.rule.block by.rule.contents (remove by.rule.calls place)) back
      body =
          let held : BlockMeets by.rule.block by.rule.contents (map (at_node w) ns) block = subst (λ names. BlockMeets by.rule.block by.rule.contents names block) (sym names_are) block_is in
          let left = star_without (CallMeets (Sat defs) by.names) (SegCallMeets (EndsThere (v stop.0) (map (at_node v) ends)) pred by.names) laws.drops_empty (λ call g m. m.1.2) place by.rule.calls calls calls_are in
          let others' : Star (CallMeets (Sat defs) (map (at_node w) ns)) (remove by.rule.calls place) calls = subst (λ names. Star (CallMeets (Sat defs) names) (remove by.rule.calls place) calls) (sym names_are) left in
          (laws.bodies defs w ns by.rule.block by.rule.contents (remove by.rule.calls place) back w_zero).0 (block, calls, inner, held, others')

      -- the values of the call's node and arguments are those of the end
      call_values : (call : Call) → EndsThere (v stop.0) (map (at_node v) ends) (value_of by.names call.at) (map (value_of by.names) call.args) ending.1
          → map (at_node w) (node_of ns call.at ∷ map (node_of ns) call.args) ≡ map (at_node w) (stop ∷ ends)
      call_values call e =
          ap₂ (λ z zs. z ∷ zs) (name_value w ns w_zero call.at ∙ ap (λ names. value_of names call.at) names_are ∙ e.0)
          (names_values w ns w_zero call.args ∙ ap (λ names. map (value_of names) call.args) names_are ∙ e.1)
          ∙ sym (laws.agree s v w (stop ∷ ends) bounded agrees end_there)

      atoms_true : AllByRecursion (IsTrueAtom w) (atoms_behind ns stop ends by.rule place)
      atoms_true =
          let own = laws.rule_atoms w ns by.rule.atoms w_zero (subst (λ names. AllByRecursion (named.IsTrueAtom names) by.rule.atoms) (sym names_are) by.atoms) in
          let met = laws.equal_true w (node_of ns ending.0.at ∷ map (node_of ns) ending.0.args) (stop ∷ ends) (call_values ending.0 ending.3.1) in
          all_append (IsTrueAtom w) (map (atom_of ns) by.rule.atoms) (call_is_end ns stop ends (slice_get by.rule.calls place)) own
          (subst (λ o. AllByRecursion (IsTrueAtom w) (call_is_end ns stop ends o)) (sym ending.2) met)

      body_stands : StandsForSome defs s.next v values region successors
      body_stands =
          let same : by.def ≡ def = cc (by.defined, defined) in
          let listed = laws.listed pred by.rule.calls place ending.0 ending.2 ending.3.0 in
          let first = image_at (unfolded_back s edge at args pred stop ends by.rule) (own_places pred 0 by.rule.calls) listed.0 place listed.1 in
          let outer = in_pieces opened def.rules by.place by.rule listed.0 (unfolded_back s edge at args pred stop ends by.rule place) (subst (λ (d : Def). slice_get d.rules by.place ≡ Some by.rule) same by.listed) first in
          let wider : StandsBy defs w values others (with_nodes rest by.rule.names) = laws.nodes defs v values others rest by.rule.names by.names less by.kinds st in
          let full = laws.put defs w values region part others (with_nodes rest by.rule.names) (body_behind at args pred ns by.rule place) split (front, back, halves, segment, body) wider in (
            suc outer.0,
            unfolded_back s edge at args pred stop ends by.rule place,
            w,
            outer.1,
            agrees,
            laws.atoms defs w values region (with_edges (with_nodes rest by.rule.names) (body_behind at args pred ns by.rule place)) (atoms_behind ns stop ends by.rule place) atoms_true full,
          )

  back_sound : IsSound defs s successors
  back_sound v values region addresses st =
      let taken = laws.taken defs v values region s (edge ∷ []) (Seg at args pred stop ends ∷ []) (without s.graph.edges edge) picked st in
      let seg : meaning.Seg defs pred (v at.0) (map (at_node v) args) (v stop.0) (map (at_node v) ends) taken.0 = alone laws (EdgeMeets defs v) (Seg at args pred stop ends) taken.0 taken.3 in
      elim (laws.ends defs pred (v at.0) (map (at_node v) args) (v stop.0) (map (at_node v) ends) taken.0 seg) [
        | inl e ↦ (0, emptied s edge at args stop ends, v, refl, (λ m below. refl), empty_stands v values region taken.0 taken.1 taken.2 taken.4 e)
        | inr b ↦
            let body = b.6 in
            body_stands v values region taken.0 taken.1 taken.2 taken.4 b.0 b.1 b.2 b.3 b.4 b.5 body.0 body.1 body.2 body.3 body.4 body.5 body.6
      ]

  -- ---- numbers stay in their bounds
  module _ (rule : Rule) (place : ℕ) where
    abbrev wide : State
    wide = with_nodes rest rule.names

    abbrev new : List NodeId
    new = new_nodes s rule

    stay : (n : NodeId) → IsNode s.kinds n → IsNode wide.kinds n
    stay = (laws.new_there rest rule.names).1

    new_are : AreNodes wide.kinds new
    new_are = (laws.new_there rest rule.names).0

    start_stays : AreNodes wide.kinds (at ∷ args)
    start_stays = all_map (IsNode s.kinds) (IsNode wide.kinds) stay (at ∷ args) start_there

    end_stays : AreNodes wide.kinds (stop ∷ ends)
    end_stays = all_map (IsNode s.kinds) (IsNode wide.kinds) stay (stop ∷ ends) end_there

    body_is_there : AllByRecursion (λ e. AreNodes wide.kinds (nodes_of e)) (body_behind at args pred new rule place)
    body_is_there = (
      (
        start_stays.0,
        all_append (IsNode wide.kinds) args (node_of new 0 ∷ take (length args) (drop 1 new)) start_stays.1
            (laws.name_there wide.kinds new 0 new_are, all_take (IsNode wide.kinds) (length args) (drop 1 new) (all_drop (IsNode wide.kinds) 1 new new_are)),
      ),
      laws.body_there wide.kinds new rule.block rule.contents (remove rule.calls place) new_are,
    )

    names_there : (names : List ℕ) → AreNodes wide.kinds (map (node_of new) names)
    names_there [] = tt
    names_there (name ∷ names) = (laws.name_there wide.kinds new name new_are, names_there names)

    call_there : (call : Option Call) → AllByRecursion (λ a. AreNodes wide.kinds (nodes_of_atom a)) (call_is_end new stop ends call)
    call_there None = tt
    call_there (Some call) = laws.equal_there wide.kinds (node_of new call.at ∷ map (node_of new) call.args) (stop ∷ ends) (laws.name_there wide.kinds new call.at new_are, names_there call.args) end_stays

    unfolded_bounded : IsBounded (unfolded_back s edge at args pred stop ends rule place)
    unfolded_bounded =
        laws.atoms_bounded (with_edges wide (body_behind at args pred new rule place)) (atoms_behind new stop ends rule place)
        (laws.edges_bounded wide (body_behind at args pred new rule place) (laws.nodes_bounded rest rule.names less) body_is_there)
        (all_append (λ (a : Atom). AreNodes wide.kinds (nodes_of_atom a)) (map (atom_of new) rule.atoms) (call_is_end new stop ends (slice_get rule.calls place))
        (laws.atoms_there wide.kinds new rule.atoms new_are) (call_there (slice_get rule.calls place)))

  any_place : (places : List ℕ) → AllByRecursion (λ (place : ℕ). Unit {0}) places
  any_place [] = tt
  any_place (place ∷ places) = (tt, any_place places)

  back_bounded : AllByRecursion IsBounded successors
  back_bounded = (
    laws.atoms_bounded rest (equal_atoms (at ∷ args) (stop ∷ ends)) less (laws.equal_there s.kinds (at ∷ args) (stop ∷ ends) start_there end_there),
    all_pieces IsBounded opened def.rules (λ i rule e. all_images IsBounded (λ (place : ℕ). Unit {0}) (unfolded_back s edge at args pred stop ends rule) (λ place t. unfolded_bounded rule place) (own_places pred 0 rule.calls) (any_place (own_places pred 0 rule.calls))),
  )

pub unfold_back : BackLaws → LawOfBack
unfold_back laws defs accessed edge s next bounded i =
    subst (λ states. IsSound defs s states × AllByRecursion IsBounded states) (sym i.gives)
    (back_sound laws defs s bounded edge i.at i.args i.pred i.stop i.ends i.there i.back.def i.back.defined, back_bounded laws defs s bounded edge i.at i.args i.pred i.stop i.ends i.there i.back.def i.back.defined)
