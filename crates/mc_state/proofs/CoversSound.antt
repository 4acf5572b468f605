-- The edges of a cover make the predicate, and those of a segment cover the segment.
use Rattle.std.proofs.Common.{◌≡◌, ℕ, zero, suc, ℤ, Option, Some, None, List, [], ◌∷◌, map, sym, ◌∙◌, ap, subst, inl, inr}
use Rattle.std.proofs.lemmas.Simd.{map-map}
use Rattle.mc_base.specs.declared.ids.NodeId.{NodeId}
use Rattle.mc_base.specs.declared.ids.PredId.{PredId}
use Rattle.mc_base.specs.declared.ids.StructId.{StructId}
use Rattle.mc_base.specs.Nodes.{Valuation, at_node}
use Rattle.mc_flow.specs.Heap.Heap.{Region, IsAtAddresses}
use Rattle.mc_flow.specs.Heap.Instances.{nowhere}
use Rattle.mc_flow.specs.Heap.Parts.{Split, IsEmpty, Star, StarAt}
use Rattle.mc_flow.specs.declared.defs.rules.Call.{Call}
use Rattle.mc_flow.specs.declared.defs.rules.Def.{Def}
use Rattle.mc_flow.specs.Defs.Conditions.{IsDefs}
use Rattle.mc_flow.specs.Defs.Laws.{SatFolds, SegThenSat, SegThenSeg}
use Rattle.mc_flow.specs.Defs.Meaning.{BlockMeets, CallMeets, SegCallMeets, Sat, SegAt, Seg}
use Rattle.mc_flow.specs.Defs.Values.{value_of}
use Rattle.mc_state.specs.declared.graph.edge.Edge.TheVariants as edge
use Rattle.mc_state.specs.Graph.Graph.{Edges, without}
use Rattle.mc_state.specs.declared.terms.Term.{Term}
use Rattle.mc_state.specs.State.{State}
use Rattle.mc_state.specs.Stands.{EdgeMeets, EdgesMeet, StandsBy}
use Rattle.mc_state.specs.Laws.{DerivedIsTrue}
use Rattle.mc_state.specs.BodyLaws.{CoverMakesPredicate, SegCoverMakesSegment}
use Rattle.mc_state.specs.Terms.{plain, term_value, term_of}
use Rattle.mc_state.specs.Covers.{Finding, BlockIsTaken, CallsAreFound, CallsAreFoundAt, IsByInd, IsBySeg, IsByRule, IsByRuleAt, CoverAt, Cover, EndsThere, SegCoverAt}
use Rattle.mc_state.proofs.Parts.{SplitLaws, nowhere-IsEmpty, star_take}
use Rattle.mc_state.proofs.Stars.{none_left}
use Rattle.mc_state.proofs.CoversTerms.{known_fields, plain_value, plain_values, name_value, name_values, one_value, same_values, rule_values, first_name, contents_are}

-- what covers rest on
pub record CoverLaws : Type 0 where
  pub parts : SplitLaws
  pub folds : SatFolds
  pub then_sat : SegThenSat
  pub then_seg : SegThenSeg
  pub truth : DerivedIsTrue

module _ (laws : CoverLaws) (defs : List Def) (fit : IsDefs defs) (v : Valuation) (values : List (Option ℤ)) (whole : Region) (s : State) (addresses : IsAtAddresses whole) (st : StandsBy defs v values whole s) where
  -- a part of the region with P, and the part of the edges that are left
  abbrev Beside : (Region → Type 0) → Edges → Region → Type 0
  Beside P left region = (part : Region) × (rest : Region) × Split region part rest × P part × EdgesMeet defs v left rest

  -- what is found holds on a part
  abbrev Makes : Finding → Type 0
  Makes M =
      (pred : PredId) (at : Term) (args : List Term) (es left : Edges) (region : Region)
      → M pred at args es left → EdgesMeet defs v es region → Beside (Sat defs pred (term_value v at) (map (term_value v) args)) left region

  -- or is a segment to this end
  abbrev MakesTo : Term → List Term → Finding → Type 0
  MakesTo «end» ends M =
      (pred : PredId) (at : Term) (args : List Term) (es left : Edges) (region : Region)
      → M pred at args es left → EdgesMeet defs v es region
      → Beside (Seg defs pred (term_value v at) (map (term_value v) args) (term_value v end) (map (term_value v) ends)) left region

  -- nothing is taken
  none_taken : (P : Region → Type 0) → ((part : Region) → IsEmpty part → P part) → (es left : Edges) (region : Region) → left ≡ es → EdgesMeet defs v es region → Beside P left region
  none_taken P f es left region is m =
      (nowhere, region, none_left laws.parts region, f nowhere nowhere-IsEmpty, subst (λ xs. EdgesMeet defs v xs region) (sym is) m)

  -- one part after another
  both_beside : (P Q R : Region → Type 0) (mid left : Edges) (region : Region) → ((part held more : Region) → Split part held more → P held → Q more → R part)
      → Beside P mid region → ((rest : Region) → EdgesMeet defs v mid rest → Beside Q left rest) → Beside R left region
  both_beside P Q R mid left region f b next =
      let c = next b.1 b.4 in
      let joined = laws.parts.left region b.0 b.1 c.0 c.1 b.2 c.2 in
      (joined.0, c.1, joined.2, f joined.0 b.0 c.0 joined.1 b.3 c.3, c.4)

  by_ind : Makes (IsByInd s)
  by_ind pred at args es left region f m =
      let got = star_take laws.parts (EdgeMeets defs v) es f.0 (edge.Ind f.1 pred f.2) region f.3 m in
      let here : term_value v at ≡ v f.1.0 = one_value laws.truth defs v values whole s addresses st at (plain f.1) f.4 ∙ plain_value v f.1 in
      let there : map (term_value v) args ≡ map (at_node v) f.2 = same_values laws.truth defs v values whole s addresses st args (map plain f.2) f.5 ∙ plain_values v f.2 in
      (got.0, got.1, got.2, rw (here, there) got.3, rw f.6 got.4)

  -- the block of a rule
  block_taken : (block : Option StructId) (contents : List ℕ) (names : List ℤ) (at : Term) (nodes : List NodeId) (es left : Edges) (region : Region)
      → value_of names 0 ≡ term_value v at → map (value_of names) contents ≡ map (at_node v) nodes
      → BlockIsTaken s block at nodes es left → EdgesMeet defs v es region → Beside (BlockMeets block contents names) left region
  block_taken None contents names at nodes es left region first are b m = none_taken IsEmpty (λ part e. e) es left region b.1 m
  block_taken (Some shape) contents names at nodes es left region first are b m =
      let got = star_take laws.parts (EdgeMeets defs v) es b.0 (edge.Block b.1 shape (map Some nodes)) region b.2 m in
      let here : term_value v at ≡ v b.1.0 = one_value laws.truth defs v values whole s addresses st at (plain b.1) b.3 ∙ plain_value v b.1 in
      let fields : got.3.2.0 ≡ map (λ name. Some (value_of names name)) contents =
      known_fields v nodes got.3.2.0 got.3.2.2 ∙ ap (map Some) (sym are) ∙ map-map Some (value_of names) contents in
      (got.0, got.1, got.2, (got.3.0, first ∙ here ∙ got.3.1, rw (← fields) got.3.2.1), rw b.4 got.4)

  -- the calls of a rule, one after the other
  calls_made : (M : Finding) → Makes M → (names : List Term) (calls : List Call) (es left : Edges) (region : Region) → CallsAreFound M names calls es left → EdgesMeet defs v es region
      → Beside (Star (CallMeets (Sat defs) (map (term_value v) names)) calls) left region
  calls_made M makes names [] es left region f m = none_taken IsEmpty (λ part e. e) es left region f m
  calls_made M makes names (call ∷ calls) es left region f m =
      both_beside (CallMeets (Sat defs) (map (term_value v) names) call) (Star (CallMeets (Sat defs) (map (term_value v) names)) calls) (Star (CallMeets (Sat defs) (map (term_value v) names)) (call ∷ calls))
      f.0 left region (λ part held more split p q. (held, more, split, p, q))
      (rw (name_value v st.null names call.at, name_values v st.null names call.args) (makes call.pred (term_of names call.at) (map (term_of names) call.args) es f.0 region f.1 m))
      (λ rest k. calls_made M makes names calls f.0 left rest f.2 k)

  by_seg : (M : Finding) → Makes M → Makes (IsBySeg M s)
  by_seg M makes pred at args es left region f m =
      let got = star_take laws.parts (EdgeMeets defs v) es f.0 (edge.Seg f.1 f.2 pred f.3 f.4) region f.5 m in
      let here : term_value v at ≡ v f.1.0 = one_value laws.truth defs v values whole s addresses st at (plain f.1) f.6 ∙ plain_value v f.1 in
      let there : map (term_value v) args ≡ map (at_node v) f.2 = same_values laws.truth defs v values whole s addresses st args (map plain f.2) f.7 ∙ plain_values v f.2 in
      both_beside (Seg defs pred (v f.1.0) (map (at_node v) f.2) (v f.3.0) (map (at_node v) f.4)) (Sat defs pred (v f.3.0) (map (at_node v) f.4)) (Sat defs pred (term_value v at) (map (term_value v) args))
      (without es f.0) left region
      (λ part held more split p q. rw (here, there) (laws.then_sat defs pred (v f.1.0) (map (at_node v) f.2) (v f.3.0) (map (at_node v) f.4) part held more split p q))
      got
      (λ rest k. rw (sym (plain_value v f.3), sym (plain_values v f.4)) (makes pred (plain f.3) (map plain f.4) (without es f.0) left rest f.8 k))

  by_rule : (M : Finding) → Makes M → Makes (IsByRule M defs s)
  by_rule M makes pred at args es left region f m =
      let by = f.0 in
      let names = map (term_value v) by.names in
      let are = rule_values laws.truth defs v values whole s addresses st pred at args by in
      let first = first_name laws.truth defs v values whole s addresses st pred at args by in
      let contents = contents_are laws.truth defs v values whole s addresses st pred at args by fit in
      both_beside (BlockMeets by.rule.block by.rule.contents names) (Star (CallMeets (Sat defs) names) by.rule.calls) (Sat defs pred (term_value v at) (map (term_value v) args))
      f.1 left region
      (λ part held more split p q. laws.folds defs pred (term_value v at) (map (term_value v) args) part (are, held, more, split, p, q))
      (block_taken by.rule.block by.rule.contents names at by.contents es f.1 region first contents f.2 m)
      (λ rest k. calls_made M makes by.names by.rule.calls f.1 left rest f.3 k)

  cover_makes : (depth : ℕ) → Makes (CoverAt defs s depth)
  cover_makes zero pred at args es left region f m = absurd f
  cover_makes (suc depth) pred at args es left region f m =
      elim f [
        | inl i ↦ by_ind pred at args es left region i m
        | inr other ↦ elim other [
          | inl g ↦ by_seg (CoverAt defs s depth) (cover_makes depth) pred at args es left region g m
          | inr r ↦ by_rule (CoverAt defs s depth) (cover_makes depth) pred at args es left region r m
        ]
      ]

  pub covered : Makes (Cover defs s)
  covered pred at args es left region f m = cover_makes f.depth pred at args es left region f.found m

  -- ---- segments
  module _ («end» : Term) (ends : List Term) where
    ends_there : MakesTo end ends (EndsThere defs s end ends)
    ends_there pred at args es left region f m =
        let here : term_value v at ≡ term_value v end = one_value laws.truth defs v values whole s addresses st at end f.2 in
        let there : map (term_value v) args ≡ map (term_value v) ends = same_values laws.truth defs v values whole s addresses st args ends f.3 in
        none_taken (Seg defs pred (term_value v at) (map (term_value v) args) (term_value v end) (map (term_value v) ends)) (λ part e. record { height = 0; holds = (here, there, e) }) es left region f.5 m

    seg_by_seg : (S : Finding) → MakesTo end ends S → MakesTo end ends (IsBySeg S s)
    seg_by_seg S makes pred at args es left region f m =
        let got = star_take laws.parts (EdgeMeets defs v) es f.0 (edge.Seg f.1 f.2 pred f.3 f.4) region f.5 m in
        let here : term_value v at ≡ v f.1.0 = one_value laws.truth defs v values whole s addresses st at (plain f.1) f.6 ∙ plain_value v f.1 in
        let there : map (term_value v) args ≡ map (at_node v) f.2 = same_values laws.truth defs v values whole s addresses st args (map plain f.2) f.7 ∙ plain_values v f.2 in
        both_beside (Seg defs pred (v f.1.0) (map (at_node v) f.2) (v f.3.0) (map (at_node v) f.4)) (Seg defs pred (v f.3.0) (map (at_node v) f.4) (term_value v end) (map (term_value v) ends))
        (Seg defs pred (term_value v at) (map (term_value v) args) (term_value v end) (map (term_value v) ends))
        (without es f.0) left region
        (λ part held more split p q. rw (here, there) (laws.then_seg defs pred (v f.1.0) (map (at_node v) f.2) (v f.3.0) (map (at_node v) f.4) (term_value v end) (map (term_value v) ends) part held more split p q))
        got
        (λ rest k. rw (sym (plain_value v f.3), sym (plain_values v f.4)) (makes pred (plain f.3) (map plain f.4) (without es f.0) left rest f.8 k))

    -- the calls of a rule, of which the one at the place is a segment of some height
    abbrev CallsTo : PredId → ℕ → List Term → List Call → Region → Type 0
    CallsTo pred place names calls region =
        (height : ℕ) × StarAt (CallMeets (Sat defs) (map (term_value v) names)) (SegCallMeets (SegAt defs pred (term_value v end) (map (term_value v) ends) height) pred (map (term_value v) names)) place calls region

    module _ (S : Finding) (makes : MakesTo end ends S) (pred : PredId) (names : List Term) where
      abbrev vals : List ℤ
      vals = map (term_value v) names

      abbrev CallTo : Call → Region → Type 0
      CallTo call region = (call.pred ≡ pred) × Seg defs pred (value_of vals call.at) (map (value_of vals) call.args) (term_value v end) (map (term_value v) ends) region

      call_to : (call : Call) (es mid : Edges) (region : Region) → call.pred ≡ pred → S pred (term_of names call.at) (map (term_of names) call.args) es mid → EdgesMeet defs v es region → Beside (CallTo call) mid region
      call_to call es mid region same f m =
          let got = makes pred (term_of names call.at) (map (term_of names) call.args) es mid region f m in
          (got.0, got.1, got.2, (same, rw (name_value v st.null names call.at, name_values v st.null names call.args) got.3), got.4)

      calls_to_made : (place : ℕ) (calls : List Call) (es left : Edges) (region : Region) → CallsAreFoundAt (Cover defs s) S pred place names calls es left → EdgesMeet defs v es region
          → Beside (CallsTo pred place names calls) left region
      calls_to_made place [] es left region f m = absurd f
      calls_to_made zero (call ∷ calls) es left region f m =
          both_beside (CallTo call) (Star (CallMeets (Sat defs) vals) calls) (CallsTo pred zero names (call ∷ calls))
          f.0 left region (λ part held more split p q. (p.1.height, (held, more, split, (p.0, p.1.holds), q)))
          (call_to call es f.0 region f.1 f.2 m)
          (λ rest k. calls_made (Cover defs s) covered names calls f.0 left rest f.3 k)
      calls_to_made (suc place) (call ∷ calls) es left region f m =
          both_beside (CallMeets (Sat defs) vals call) (CallsTo pred place names calls) (CallsTo pred (suc place) names (call ∷ calls))
          f.0 left region (λ part held more split p q. (q.0, (held, more, split, p, q.1)))
          (rw (name_value v st.null names call.at, name_values v st.null names call.args) (covered call.pred (term_of names call.at) (map (term_of names) call.args) es f.0 region f.1 m))
          (λ rest k. calls_to_made place calls f.0 left rest f.2 k)

    seg_by_rule : (S : Finding) → MakesTo end ends S → MakesTo end ends (IsByRuleAt (Cover defs s) S defs s)
    seg_by_rule S makes pred at args es left region f m =
        let by = f.0 in
        let names = map (term_value v) by.names in
        let are = rule_values laws.truth defs v values whole s addresses st pred at args by in
        let first = first_name laws.truth defs v values whole s addresses st pred at args by in
        let contents = contents_are laws.truth defs v values whole s addresses st pred at args by fit in
        both_beside (BlockMeets by.rule.block by.rule.contents names) (CallsTo pred f.3 by.names by.rule.calls)
        (Seg defs pred (term_value v at) (map (term_value v) args) (term_value v end) (map (term_value v) ends))
        f.1 left region
        (λ part held more split p q. record { height = suc q.0; holds = inr (are, held, more, split, p, f.3, q.1) })
        (block_taken by.rule.block by.rule.contents names at by.contents es f.1 region first contents f.2 m)
        (λ rest k. calls_to_made S makes pred by.names f.3 by.rule.calls f.1 left rest f.4 k)

    seg_cover_makes : (depth : ℕ) → MakesTo end ends (SegCoverAt defs s end ends depth)
    seg_cover_makes zero pred at args es left region f m = ends_there pred at args es left region f m
    seg_cover_makes (suc depth) pred at args es left region f m =
        elim f [
          | inl e ↦ ends_there pred at args es left region e m
          | inr other ↦ elim other [
            | inl g ↦ seg_by_seg (SegCoverAt defs s end ends depth) (seg_cover_makes depth) pred at args es left region g m
            | inr r ↦ seg_by_rule (SegCoverAt defs s end ends depth) (seg_cover_makes depth) pred at args es left region r m
          ]
        ]

pub cover_predicate : CoverLaws → CoverMakesPredicate
cover_predicate laws defs v values region whole s pred at args es left fit addresses st f m =
    covered laws defs fit v values whole s addresses st pred at args es left region f m

pub seg_cover_segment : CoverLaws → SegCoverMakesSegment
seg_cover_segment laws defs v values region whole s pred at args «end» ends es left fit addresses st f m =
    seg_cover_makes laws defs fit v values whole s addresses st end ends f.depth pred at args es left region f.found m
