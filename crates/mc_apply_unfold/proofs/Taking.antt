-- In a state that is made for the definitions an edge takes each rule of its predicate.
use Rattle.std.proofs.Common.{◌≡◌, ℕ, zero, suc, Some, List, [], ◌∷◌, ◌++◌, map, take, drop, length, slice_get, refl, sym, ◌∙◌, ap, subst}
use Rattle.std.specs.List.{AllByRecursion}
use Rattle.std.proofs.Math.ListN.{take-append-drop}
use Rattle.mc_rules_logic.specs.Back.Unfolded.{new_nodes}
use Rattle.mc_base.specs.declared.ids.NodeId.{NodeId}
use Rattle.mc_base.specs.declared.ids.PredId.{PredId}
use Rattle.mc_base.specs.declared.plain.Kind.{Kind}
use Rattle.mc_base.specs.declared.plain.Kind.TheVariants.{Ptr}
use Rattle.mc_flow.specs.declared.defs.rules.Call.{Call}
use Rattle.mc_flow.specs.declared.defs.rules.Def.{Def}
use Rattle.mc_flow.specs.declared.defs.rules.Rule.{Rule}
use Rattle.mc_flow.specs.Defs.Instances.{node_of}
use Rattle.mc_state.specs.declared.graph.edge.Edge.TheVariants.{Ind, Seg}
use Rattle.mc_pure.specs.Pure.{Kinds, HasKind, IsNode, IsWellFormed}
use Rattle.mc_rules_logic.specs.Rule.Made.{IsMadeFor}
use Rattle.mc_state.specs.Fits.{AreNodes, HaveKinds, ArgsFit, EdgeFitsDefs}
use Rattle.mc_state.specs.Bodies.{call_edge}
use Rattle.mc_state.specs.Laws.{NewNodesHaveKinds, NewNodesAreThere}
use Rattle.mc_state.specs.State.{State, numbered_nodes, with_nodes}
use Rattle.mc_rules_logic.specs.Unfold.Judges.{rules_in}
use Rattle.mc_rules_logic.specs.Unfold.RuleLaws.{RuleOfFitting}
use Rattle.mc_rules_logic.specs.Unfold.Unfolded.{equal_atoms, new_kinds, rule_nodes}
use Rattle.mc_rules_logic.specs.Unfold.WellMade.{EdgeOfFitting, RuleIsMade, RulesAreMade, EqualsAreFormed}
use Rattle.mc_apply_unfold.specs.Taking.{TakesRule, TakesRuleTo, TakesRuleBack, IndTakesRules, SegTakesRules, BackTakesRules, parts}
use Rattle.mc_rules_logic.proofs.BackLemmas.MadeWell.{have_count, have_more}

-- what the proofs of this file rest on
pub record TakingLaws : Type 0 where
  pub have_kinds : NewNodesHaveKinds
  pub new_there : NewNodesAreThere
  pub edge : EdgeOfFitting
  pub fits : RuleOfFitting
  pub rules : RulesAreMade
  pub equal : EqualsAreFormed

-- ---- lists
module _ {X : Type 0} where
  -- what holds of each item at its place holds of all
  pub all_by_place : (P : X → Type 0) (xs : List X) → ((i : ℕ) (x : X) → slice_get xs i ≡ Some x → P x) → AllByRecursion P xs
  all_by_place P [] h = tt
  all_by_place P (x ∷ xs) h = (h 0 x refl, all_by_place P xs (λ i y e. h (suc i) y e))

  pub all_so : (P Q : X → Type 0) → ((x : X) → P x → Q x) → (xs : List X) → AllByRecursion P xs → AllByRecursion Q xs
  all_so P Q f [] a = tt
  all_so P Q f (x ∷ xs) a = (f x a.0, all_so P Q f xs a.1)

module _ {X : Type 0} where
  one_of_all : (P : X → Type 0) (xs : List X) (i : ℕ) (x : X) → slice_get xs i ≡ Some x → AllByRecursion P xs → P x
  one_of_all P [] i x e a = cc
  one_of_all P (y ∷ xs) zero x e a = let same : y ≡ x = cc in subst P same a.0
  one_of_all P (y ∷ xs) (suc i) x e a = one_of_all P xs i x e a.1

same_pred : (a b : PredId) → a.0 ≡ b.0 → a ≡ b
same_pred a b e = ap (λ (n : ℕ). record { 0 = n }) e

-- ---- nodes of kinds
module _ (kinds : Kinds) where
  pub are_nodes : (ks : List Kind) (ns : List NodeId) → HaveKinds kinds ks ns → AreNodes kinds ns
  are_nodes [] [] h = tt
  are_nodes [] (n ∷ ns) h = absurd h
  are_nodes (k ∷ ks) [] h = absurd h
  are_nodes (k ∷ ks) (n ∷ ns) h = ((k, h.0), are_nodes ks ns h.1)

  have_append : (ks ls : List Kind) (ns ms : List NodeId) → HaveKinds kinds ks ns → HaveKinds kinds ls ms → HaveKinds kinds (ks ++ ls) (ns ++ ms)
  have_append [] ls [] ms h g = g
  have_append [] ls (n ∷ ns) ms h g = absurd h
  have_append (k ∷ ks) ls [] ms h g = absurd h
  have_append (k ∷ ks) ls (n ∷ ns) ms h g = (h.0, have_append ks ls ns ms h.1 g)

-- arguments of a predicate have its parameters' kinds
pub args_of : (defs : List Def) (kinds : Kinds) (pred : PredId) (def : Def) (ns : List NodeId) → slice_get defs pred.0 ≡ Some def → ArgsFit defs kinds pred ns → HaveKinds kinds def.params ns
args_of defs kinds pred def ns defined f =
    let same : f.0 ≡ def = cc (f.1, defined) in
    subst (λ (d : Def). HaveKinds kinds d.params ns) same f.2

-- ---- rules at nodes
module _ (laws : TakingLaws) (defs : List Def) (s : State) (home : IsMadeFor defs s)
    (at : NodeId) (args : List NodeId) (pred : PredId) (pointer : HasKind s.kinds Ptr at)
    (def : Def) (defined : slice_get defs pred.0 ≡ Some def) (args_are : HaveKinds s.kinds def.params args) where
  module _ (r : ℕ) (rule : Rule) (listed : slice_get def.rules r ≡ Some rule) where
    abbrev wide : State
    wide = with_nodes s (new_kinds args rule)

    names_are : HaveKinds wide.kinds rule.names (rule_nodes s at args rule)
    names_are =
        let made = laws.have_kinds s (new_kinds args rule) home.made.bounded in
        let old : HaveKinds wide.kinds (Ptr ∷ def.params) (at ∷ args) = (made.1 Ptr at pointer, have_more s.kinds wide.kinds made.1 def.params args args_are) in
        let all = have_append wide.kinds (Ptr ∷ def.params) (new_kinds args rule) (at ∷ args) (numbered_nodes s.next (length (new_kinds args rule))) old made.0 in
        let front = (laws.fits home.structs defs pred.0 r def rule home.fit defined listed).fits.names.front in
        let count : length args ≡ length def.params = have_count s.kinds def.params args args_are in
        let names : (Ptr ∷ def.params) ++ new_kinds args rule ≡ rule.names =
        ap (λ l. l ++ new_kinds args rule) (sym front) ∙ ap (λ n. take (suc (length def.params)) rule.names ++ drop (suc n) rule.names) count ∙ take-append-drop (suc (length def.params)) rule.names in
        subst (λ ks. HaveKinds wide.kinds ks (rule_nodes s at args rule)) names all

    takes : TakesRule s at args rule
    takes = (
      are_nodes wide.kinds rule.names (rule_nodes s at args rule) names_are,
      (laws.rules defs home.structs def rule pred.0 r wide.kinds (rule_nodes s at args rule) home.fit defined listed names_are).atoms,
    )

    takes_to : (stop : NodeId) (ends : List NodeId) → AreNodes s.kinds (stop ∷ ends) → TakesRuleTo s at args stop ends rule
    takes_to stop ends there = (takes, all_so (IsNode s.kinds) (IsNode wide.kinds) (laws.new_there s (new_kinds args rule)).1 (stop ∷ ends) there)

-- ---- rules at new nodes
module _ (laws : TakingLaws) (defs : List Def) (s : State) (home : IsMadeFor defs s)
    (at : NodeId) (args : List NodeId) (pred : PredId) (stop : NodeId) (ends : List NodeId) (pointer : HasKind s.kinds Ptr at) (far : HasKind s.kinds Ptr stop)
    (def : Def) (defined : slice_get defs pred.0 ≡ Some def) (args_are : HaveKinds s.kinds def.params args) (ends_are : HaveKinds s.kinds def.params ends)
    (r : ℕ) (rule : Rule) (listed : slice_get def.rules r ≡ Some rule) where
  abbrev grown : State
  grown = with_nodes s rule.names

  abbrev new : List NodeId
  new = new_nodes s rule

  new_are : HaveKinds grown.kinds rule.names new
  new_are = (laws.have_kinds s rule.names home.made.bounded).0

  rule_made : RuleIsMade defs home.structs grown.kinds new rule
  rule_made = laws.rules defs home.structs def rule pred.0 r grown.kinds new home.fit defined listed new_are

  end_formed : (place : ℕ) (call : Call) → slice_get rule.calls place ≡ Some call → call.pred.0 ≡ pred.0
      → AllByRecursion (IsWellFormed grown.kinds) (equal_atoms (node_of new call.at ∷ map (node_of new) call.args) (stop ∷ ends))
  end_formed place call there own =
      let more = (laws.have_kinds s rule.names home.made.bounded).1 in
      let fits : EdgeFitsDefs defs grown.kinds (call_edge new call) = one_of_all (λ c. EdgeFitsDefs defs grown.kinds (call_edge new c)) rule.calls place call there rule_made.calls in
      let args_fit : ArgsFit defs grown.kinds pred (map (node_of new) call.args) = subst (λ q. ArgsFit defs grown.kinds q (map (node_of new) call.args)) (same_pred call.pred pred own) fits.1 in
      laws.equal grown.kinds (Ptr ∷ def.params) (node_of new call.at ∷ map (node_of new) call.args) (stop ∷ ends)
      (fits.0, args_of defs grown.kinds pred def (map (node_of new) call.args) defined args_fit)
      (more Ptr stop far, have_more s.kinds grown.kinds more def.params ends ends_are)

  takes_back : TakesRuleBack s (parts at args pred stop ends) rule
  takes_back = record {
    nodes = are_nodes grown.kinds rule.names new new_are;
    start = all_so (IsNode s.kinds) (IsNode grown.kinds) (laws.new_there s rule.names).1 (at ∷ args) (are_nodes s.kinds (Ptr ∷ def.params) (at ∷ args) (pointer, args_are));
    atoms = rule_made.atoms;
    ends = end_formed;
  }

pub ind_takes : TakingLaws → IndTakesRules
ind_takes laws defs s edge at pred args home there =
    let fits : EdgeFitsDefs defs s.kinds (Ind at pred args) = laws.edge defs s edge (Ind at pred args) there home.made.fits_defs in
    subst (λ o. AllByRecursion (TakesRule s at args) (rules_in o)) (sym fits.1.1)
    (all_by_place (TakesRule s at args) fits.1.0.rules (takes laws defs s home at args pred fits.0 fits.1.0 fits.1.1 fits.1.2))

pub seg_takes : TakingLaws → SegTakesRules
seg_takes laws defs s edge at args pred stop ends home there =
    let fits : EdgeFitsDefs defs s.kinds (Seg at args pred stop ends) = laws.edge defs s edge (Seg at args pred stop ends) there home.made.fits_defs in
    let ends_are : HaveKinds s.kinds fits.1.0.params ends = args_of defs s.kinds pred fits.1.0 ends fits.1.1 fits.3 in
    let far : AreNodes s.kinds (stop ∷ ends) = are_nodes s.kinds (Ptr ∷ fits.1.0.params) (stop ∷ ends) (fits.2, ends_are) in (
      subst (λ o. AllByRecursion (TakesRuleTo s at args stop ends) (rules_in o)) (sym fits.1.1)
          (all_by_place (TakesRuleTo s at args stop ends) fits.1.0.rules (λ r rule listed. takes_to laws defs s home at args pred fits.0 fits.1.0 fits.1.1 fits.1.2 r rule listed stop ends far)),
      laws.equal s.kinds (Ptr ∷ fits.1.0.params) (at ∷ args) (stop ∷ ends) (fits.0, fits.1.2) (fits.2, ends_are),
    )

pub back_takes : TakingLaws → BackTakesRules
back_takes laws defs s edge at args pred stop ends home there =
    let fits : EdgeFitsDefs defs s.kinds (Seg at args pred stop ends) = laws.edge defs s edge (Seg at args pred stop ends) there home.made.fits_defs in
    let ends_are : HaveKinds s.kinds fits.1.0.params ends = args_of defs s.kinds pred fits.1.0 ends fits.1.1 fits.3 in
    subst (λ o. AllByRecursion (TakesRuleBack s (parts at args pred stop ends)) (rules_in o)) (sym fits.1.1)
    (all_by_place (TakesRuleBack s (parts at args pred stop ends)) fits.1.0.rules
    (takes_back laws defs s home at args pred stop ends fits.0 fits.2 fits.1.0 fits.1.1 fits.1.2 ends_are))
