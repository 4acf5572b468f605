-- What the rules that unfold make is well made.
use Rattle.std.proofs.Common.{◌≡◌, ℕ, zero, suc, Some, List, [], ◌∷◌, ◌++◌, map, take, drop, length, slice_get, refl, sym, ◌∙◌, ap, subst}
use Rattle.std.specs.List.{AllByRecursion, flat_map}
use Rattle.std.proofs.Math.ListN.{take-append-drop}
use Rattle.mc_base.specs.declared.ids.EdgeId.{EdgeId}
use Rattle.mc_base.specs.declared.ids.NodeId.{NodeId}
use Rattle.mc_base.specs.declared.ids.PredId.{PredId}
use Rattle.mc_base.specs.declared.plain.Kind.{Kind}
use Rattle.mc_base.specs.declared.plain.Kind.TheVariants.{Ptr}
use Rattle.mc_base.specs.declared.plain.VarInfo.{VarInfo}
use Rattle.mc_flow.specs.declared.defs.rules.Call.{Call}
use Rattle.mc_flow.specs.declared.defs.rules.Def.{Def}
use Rattle.mc_flow.specs.declared.defs.rules.Rule.{Rule}
use Rattle.mc_flow.specs.declared.defs.shapes.StructInfo.{StructInfo}
use Rattle.mc_flow.specs.Defs.Conditions.{DefsFit}
use Rattle.mc_flow.specs.Defs.Instances.{atom_of}
use Rattle.mc_state.specs.declared.graph.edge.Edge.{Edge}
use Rattle.mc_state.specs.declared.graph.edge.Edge.TheVariants.{Ind, Seg}
use Rattle.mc_state.specs.Graph.Graph.{edge_with, without}
use Rattle.mc_pure.specs.Pure.{Kinds, HasKind}
use Rattle.mc_state.specs.Bodies.{call_edge, block_edges, body_edges, calls_to, body_to}
use Rattle.mc_state.specs.Fits.{HaveKinds, ArgsFit, EdgeFitsDefs, IsWellMade}
use Rattle.mc_state.specs.Laws.{NewNodesHaveKinds}
use Rattle.mc_state.specs.State.{State, numbered_nodes, with_nodes, with_edges, with_only_edges}
use Rattle.mc_rules_logic.specs.Unfold.RuleLaws.{IsOwnPlace}
use Rattle.mc_rules_logic.specs.Unfold.Unfolded.{new_kinds, rule_nodes, opened, unfolded, unfolded_at, own_places, equal_atoms}
use Rattle.mc_rules_logic.specs.Unfold.WellMade.{EdgeFits, NodesKeepWellMade, EdgesKeepWellMade, AtomsKeepWellMade, FewerKeepWellMade, EmptiedIsWellMade, RuleIsMade, IndMakesWellMade, SegMakesWellMade}
use Rattle.mc_rules_logic.proofs.UnfoldLemmas.Judging.{edge_fits}
use Rattle.mc_rules_logic.proofs.UnfoldLemmas.Keeping.{have_more, args_more}
use Rattle.mc_rules_logic.proofs.UnfoldLemmas.Places.{own_places_own}
use Rattle.mc_rules_logic.proofs.UnfoldLemmas.RulesMade.{rule_fits, rules_made, equals_formed}
use Rattle.mc_state.proofs.Lists.{all_append}

-- what the proofs of this file rest on
pub record KeepLaws : Type 0 where
  pub nodes : NodesKeepWellMade
  pub edges : EdgesKeepWellMade
  pub atoms : AtomsKeepWellMade
  pub fewer : FewerKeepWellMade
  pub have_kinds : NewNodesHaveKinds

-- ---- kinds
have_append : (kinds : Kinds) (ks ls : List Kind) (ns ms : List NodeId) → HaveKinds kinds ks ns → HaveKinds kinds ls ms → HaveKinds kinds (ks ++ ls) (ns ++ ms)
have_append kinds [] ls [] ms h g = g
have_append kinds [] ls (n ∷ ns) ms h g = absurd h
have_append kinds (k ∷ ks) ls [] ms h g = absurd h
have_append kinds (k ∷ ks) ls (n ∷ ns) ms h g = (h.0, have_append kinds ks ls ns ms h.1 g)

have_count : (kinds : Kinds) (ks : List Kind) (ns : List NodeId) → HaveKinds kinds ks ns → length ns ≡ length ks
have_count kinds [] [] h = refl
have_count kinds [] (n ∷ ns) h = absurd h
have_count kinds (k ∷ ks) [] h = absurd h
have_count kinds (k ∷ ks) (n ∷ ns) h = ap suc (have_count kinds ks ns h.1)

-- ---- lists
module _ {X Y : Type 0} where
  -- what holds of the image of each of a list holds of the list of images
  all_images_of : (P : Y → Type 0) (Q : X → Type 0) (f : X → Y) → ((x : X) → Q x → P (f x)) → (xs : List X) → AllByRecursion Q xs → AllByRecursion P (map f xs)
  all_images_of P Q f h [] a = tt
  all_images_of P Q f h (x ∷ xs) a = (h x a.0, all_images_of P Q f h xs a.1)

  -- and where it holds of each at its place
  all_at_places : (P : Y → Type 0) (f : X → Y) (xs : List X) → ((i : ℕ) (x : X) → slice_get xs i ≡ Some x → P (f x)) → AllByRecursion P (map f xs)
  all_at_places P f [] h = tt
  all_at_places P f (x ∷ xs) h = (h 0 x refl, all_at_places P f xs (λ i y e. h (suc i) y e))

  all_pieces_at : (P : Y → Type 0) (f : X → List Y) (xs : List X) → ((i : ℕ) (x : X) → slice_get xs i ≡ Some x → AllByRecursion P (f x)) → AllByRecursion P (flat_map f xs)
  all_pieces_at P f [] h = tt
  all_pieces_at P f (x ∷ xs) h = all_append P (f x) (flat_map f xs) (h 0 x refl) (all_pieces_at P f xs (λ i y e. h (suc i) y e))

-- a list of calls of which one, of a predicate, goes on to an end that fits it
calls_to_fit : (defs : List Def) (structs : List StructInfo) (kinds : Kinds) (nodes : List NodeId) (pred : PredId) (stop : NodeId) (ends : List NodeId)
    → HasKind kinds Ptr stop → ArgsFit defs kinds pred ends
    → (place : ℕ) (calls : List Call) (call : Call) → slice_get calls place ≡ Some call → call.pred ≡ pred
    → AllByRecursion (λ c. EdgeFitsDefs defs kinds (call_edge nodes c)) calls → AllByRecursion (EdgeFits defs structs kinds) (calls_to nodes stop ends place calls)
calls_to_fit defs structs kinds nodes pred stop ends pointer fits place [] call e own all = absurd (cc e)
calls_to_fit defs structs kinds nodes pred stop ends pointer fits zero (c ∷ calls) call e own all =
    let same : c.pred ≡ pred = cc (e, own) in
    let ends_fit : ArgsFit defs kinds c.pred ends = subst (λ q. ArgsFit defs kinds q ends) (sym same) fits in
    (((all.0.0, all.0.1, pointer, ends_fit), tt), all_images_of (EdgeFits defs structs kinds) (λ c. EdgeFitsDefs defs kinds (call_edge nodes c)) (call_edge nodes) (λ c f. (f, tt)) calls all.1)
calls_to_fit defs structs kinds nodes pred stop ends pointer fits (suc place) (c ∷ calls) call e own all =
    ((all.0, tt), calls_to_fit defs structs kinds nodes pred stop ends pointer fits place calls call e own all.1)

module _ (laws : KeepLaws) (defs : List Def) (vars : List VarInfo) (structs : List StructInfo) (fit : DefsFit structs defs)
    (s : State) (made : IsWellMade defs vars structs s) (edge : EdgeId) (e : Edge) (there : edge_with s.graph.edges edge ≡ Some e) where
  abbrev less : State
  less = with_only_edges s (without s.graph.edges edge)

  less_made : IsWellMade defs vars structs less
  less_made = laws.fewer defs vars structs s edge e there made

  module _ (at : NodeId) (args : List NodeId) (pred : PredId) (pointer : HasKind s.kinds Ptr at) (args_fit : ArgsFit defs s.kinds pred args)
      (def : Def) (defined : slice_get defs pred.0 ≡ Some def) (r : ℕ) (rule : Rule) (listed : slice_get def.rules r ≡ Some rule) where
    abbrev wide : State
    wide = with_nodes less (new_kinds args rule)

    wide_made : IsWellMade defs vars structs wide
    wide_made = laws.nodes defs vars structs less (new_kinds args rule) less_made

    more : (kind : Kind) (n : NodeId) → HasKind s.kinds kind n → HasKind wide.kinds kind n
    more = (laws.have_kinds less (new_kinds args rule) less_made.bounded).1

    args_kinds : HaveKinds s.kinds def.params args
    args_kinds =
        let same : args_fit.0 ≡ def = cc (args_fit.1, defined) in
        subst (λ (d : Def). HaveKinds s.kinds d.params args) same args_fit.2

    nodes_kinds : HaveKinds wide.kinds rule.names (rule_nodes s at args rule)
    nodes_kinds =
        let new = (laws.have_kinds less (new_kinds args rule) less_made.bounded).0 in
        let old : HaveKinds wide.kinds (Ptr ∷ def.params) (at ∷ args) = (more Ptr at pointer, have_more s.kinds wide.kinds more def.params args args_kinds) in
        let all = have_append wide.kinds (Ptr ∷ def.params) (new_kinds args rule) (at ∷ args) (numbered_nodes s.next (length (new_kinds args rule))) old new in
        let front = (rule_fits defs structs fit pred.0 r def rule defined listed).fits.names.front in
        let count : length args ≡ length def.params = have_count s.kinds def.params args args_kinds in
        let names : (Ptr ∷ def.params) ++ new_kinds args rule ≡ rule.names =
        ap (λ l. l ++ new_kinds args rule) (sym front) ∙ ap (λ n. take (suc (length def.params)) rule.names ++ drop (suc n) rule.names) count ∙ take-append-drop (suc (length def.params)) rule.names in
        subst (λ ks. HaveKinds wide.kinds ks (rule_nodes s at args rule)) names all

    rule_made : RuleIsMade defs structs wide.kinds (rule_nodes s at args rule) rule
    rule_made = rules_made defs structs def rule pred.0 r wide.kinds (rule_nodes s at args rule) fit defined listed nodes_kinds

    opened_made : (body : List Edge) → AllByRecursion (EdgeFits defs structs wide.kinds) body → IsWellMade defs vars structs (opened s edge at args rule body)
    opened_made body fits =
        laws.atoms defs vars structs (with_edges wide body) (map (atom_of (rule_nodes s at args rule)) rule.atoms) rule_made.atoms
        (laws.edges defs vars structs wide body fits wide_made)

    unfolded_made : IsWellMade defs vars structs (unfolded s edge at args rule)
    unfolded_made =
        let ns = rule_nodes s at args rule in
        opened_made (body_edges ns rule.block rule.contents rule.calls)
        (all_append (EdgeFits defs structs wide.kinds) (block_edges ns rule.block rule.contents) (map (call_edge ns) rule.calls) rule_made.block
        (all_images_of (EdgeFits defs structs wide.kinds) (λ c. EdgeFitsDefs defs wide.kinds (call_edge ns c)) (call_edge ns) (λ c f. (f, tt)) rule.calls rule_made.calls))

    unfolded_at_made : (stop : NodeId) (ends : List NodeId) → HasKind s.kinds Ptr stop → ArgsFit defs s.kinds pred ends → (place : ℕ) (call : Call) → slice_get rule.calls place ≡ Some call → call.pred ≡ pred
        → IsWellMade defs vars structs (unfolded_at s edge at args stop ends rule place)
    unfolded_at_made stop ends stop_is ends_fit place call at_place own =
        let ns = rule_nodes s at args rule in
        opened_made (body_to ns stop ends place rule.block rule.contents rule.calls)
        (all_append (EdgeFits defs structs wide.kinds) (block_edges ns rule.block rule.contents) (calls_to ns stop ends place rule.calls) rule_made.block
        (calls_to_fit defs structs wide.kinds ns pred stop ends (more Ptr stop stop_is) (args_more s.kinds wide.kinds more defs pred ends ends_fit) place rule.calls call at_place own rule_made.calls))

    all_unfolded_at_made : (stop : NodeId) (ends : List NodeId) → HasKind s.kinds Ptr stop → ArgsFit defs s.kinds pred ends
        → AllByRecursion (IsWellMade defs vars structs) (map (unfolded_at s edge at args stop ends rule) (own_places pred 0 rule.calls))
    all_unfolded_at_made stop ends stop_is ends_fit =
        all_images_of (IsWellMade defs vars structs) (IsOwnPlace pred rule.calls) (unfolded_at s edge at args stop ends rule)
        (λ place o. unfolded_at_made stop ends stop_is ends_fit place o.0 o.1 o.2) (own_places pred 0 rule.calls) (own_places_own pred rule.calls)

-- the Seg's ends may be written equal
pub emptied_made : KeepLaws → EmptiedIsWellMade
emptied_made laws defs vars structs s edge at args pred stop ends there made =
    let fits : EdgeFitsDefs defs s.kinds (Seg at args pred stop ends) = edge_fits (EdgeFitsDefs defs s.kinds) s.graph.edges edge (Seg at args pred stop ends) there made.fits_defs in
    let same : fits.3.0 ≡ fits.1.0 = cc (fits.1.1, fits.3.1) in
    let ends_are : HaveKinds s.kinds fits.1.0.params ends = subst (λ (d : Def). HaveKinds s.kinds d.params ends) same fits.3.2 in
    laws.atoms defs vars structs (with_only_edges s (without s.graph.edges edge)) (equal_atoms (at ∷ args) (stop ∷ ends))
    (equals_formed s.kinds (Ptr ∷ fits.1.0.params) (at ∷ args) (stop ∷ ends) (fits.0, fits.1.2) (fits.2, ends_are))
    (laws.fewer defs vars structs s edge (Seg at args pred stop ends) there made)

pub ind_makes : KeepLaws → IndMakesWellMade
ind_makes laws defs vars structs accessed edge s next fit made u =
    let e : Edge = Ind u.at u.pred u.args in
    let fits : EdgeFitsDefs defs s.kinds e = edge_fits (EdgeFitsDefs defs s.kinds) s.graph.edges edge e u.there made.fits_defs in
    subst (AllByRecursion (IsWellMade defs vars structs)) (sym u.gives)
    (all_at_places (IsWellMade defs vars structs) (unfolded s edge u.at u.args) u.def.rules
    (λ r rule listed. unfolded_made laws defs vars structs fit s made edge e u.there u.at u.args u.pred fits.0 fits.1 u.def u.defined r rule listed))

pub seg_makes : KeepLaws → SegMakesWellMade
seg_makes laws defs vars structs accessed edge s next fit made u =
    let e : Edge = Seg u.at u.args u.pred u.stop u.ends in
    let fits : EdgeFitsDefs defs s.kinds e = edge_fits (EdgeFitsDefs defs s.kinds) s.graph.edges edge e u.there made.fits_defs in
    let first = emptied_made laws defs vars structs s edge u.at u.args u.pred u.stop u.ends u.there made in
    let others = all_pieces_at (IsWellMade defs vars structs) (λ (rule : Rule). map (unfolded_at s edge u.at u.args u.stop u.ends rule) (own_places u.pred 0 rule.calls)) u.def.rules
    (λ r rule listed. all_unfolded_at_made laws defs vars structs fit s made edge e u.there u.at u.args u.pred fits.0 fits.1 u.def u.defined r rule listed u.stop u.ends fits.2 fits.3) in
    subst (AllByRecursion (IsWellMade defs vars structs)) (sym u.gives) (first, others)
