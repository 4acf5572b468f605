-- The goals of a cover are made, the last one first.
use Rattle.std.proofs.Common.{◌≡◌, inl, inr, ℕ, suc, Bool, true, false, not, ◌||◌, Option, Some, None, List, [], ◌∷◌, ◌++◌, length, map, refl, sym, ◌∙◌, ap, subst, arith, eq-eqb, ◌≤◌, length-append, ◌+◌}
use Rattle.std.specs.Prelude.{◌==◌, All, is_some, option_map, option_to_list}
use Rattle.std.proofs.lemmas.List.{length-map}
use Rattle.std.specs.List.{AllByRecursion}
use Rattle.mc_base.specs.declared.ids.EdgeId.{EdgeId}
use Rattle.mc_base.specs.declared.ids.NodeId.{NodeId}
use Rattle.mc_base.specs.declared.ids.StructId.{StructId}
use Rattle.mc_base.specs.declared.plain.Kind.{Kind}
use Rattle.mc_base.specs.declared.plain.VarInfo.{VarInfo}
use Rattle.mc_flow.specs.declared.defs.rules.Call.{Call}
use Rattle.mc_flow.specs.declared.defs.rules.Def.{Def}
use Rattle.mc_flow.specs.declared.defs.rules.Rule.{Rule}
use Rattle.mc_flow.specs.declared.defs.shapes.StructInfo.{StructInfo}
use Rattle.mc_flow.specs.Defs.Conditions.{DefsFit, CallFits, RuleFitsStructs, content_kinds}
use Rattle.mc_state.specs.declared.graph.edge.Edge.{Edge}
use Rattle.mc_state.specs.declared.graph.edge.Edge.TheVariants.{Ind, Seg}
use Rattle.mc_state.specs.Graph.Graph.{Graph, edge_with}
use Rattle.mc_state.specs.Known.{Test, Tells}
use Rattle.mc_state.specs.Named.{are_distinct, is_among, others}
use Rattle.mc_state.proofs.Lists.{all_left, all_map, all_right}
use Rattle.mc_state.proofs.Tests.{and_both}
use Rattle.mc_shape_search.specs.Search.Search.{is_free, is_unused, takes_this, uses}
use Rattle.mc_cover.specs.declared.goals.Goal.{Goal}
use Rattle.mc_cover.specs.declared.goals.Mark.{Mark}
use Rattle.mc_cover.specs.declared.goals.Mark.TheVariants.{AtEnd, ByInd, BySeg, ByRule, ByCall}
use Rattle.mc_cover.specs.Goals.{Setting, Stop, behind_seg, contents_by, is_ind, whole_block}
use Rattle.mc_cover.specs.Marks.{Named, calls_of, calls_of_rule, def_at, edge_of, ends_here, fits, goal_of, rule_at, takes}
use Rattle.mc_state.specs.declared.terms.Term.{Term}
use Rattle.mc_state.specs.Facts.{IsFalse}
use Rattle.mc_state.specs.Fits.{IsBounded, IsWellMade}
use Rattle.mc_state.specs.State.{State}
use Rattle.mc_state.specs.Terms.{plain, AreEqualTerms, AreAllEqualTerms, TermsLieIn}
use Rattle.mc_rules_logic.specs.Fold.Folded.{folded, ClosesSeg, FoldsInd, ind_fold}
use Rattle.mc_follow.specs.declared.ending.met.Met.{Met}
use Rattle.mc_follow.specs.Ending.Ending.{AreNamed, AreSameTerms, AreAllSameTerms, IsGrown, IsLater, IsMadeBy}
use Rattle.mc_follow.specs.Ending.Making.{AreMadeBy, IsMaking, Opened, marks_of, setting_in}
use Rattle.mc_follow.proofs.EndingLemmas.Edges.{is_new, next_none, stays}
use Rattle.mc_follow.proofs.EndingLemmas.Ends.{among_none, apart_more, clash, lie_count, made_grown, same_id}
use Rattle.mc_cover.proofs.Parts.{RuleParts, block_parts, ind_parts, rule_parts, seg_parts}
use Rattle.mc_cover.proofs.Sound.{terms}
use Rattle.mc_follow.proofs.EndingLemmas.Folding.{BlockIsThere, CallsAreMade, folds}
use Rattle.mc_follow.proofs.EndingLemmas.Kinded.{AllKnown, HaveTermKinds, IsKinded, call_kinded, contents_kinded, each_known, end_kinded, names_known, no_contents_kinded, rule_fits_structs}
use Rattle.mc_follow.proofs.EndingLemmas.Naming.{closes}
use Rattle.mc_cover.proofs.Options.{same_some, then_some, there}
use Rattle.mc_cover.proofs.Terms.{all_equal_from, equal_from}
use Rattle.mc_follow.proofs.EndingLemmas.Written.{later_on}

-- ---- what marks take

or_no : (a b : Bool) → (a || b) ≡ false → (a ≡ false) × (b ≡ false)
or_no true b e = absurd (cc e)
or_no false b e = (refl, e)

or_second : (a b : Bool) → b ≡ true → (a || b) ≡ true
or_second true b e = refl
or_second false b e = e

not_true : (b : Bool) → not b ≡ true → b ≡ false
not_true true e = absurd (cc e)
not_true false e = refl

bool_clash : (b : Bool) → b ≡ true → b ≡ false → ⊥
bool_clash b t f = let two : true ≡ false = sym t ∙ f in cc two

-- the mark takes the edge
abbrev Takes : Mark → EdgeId → Type 0
Takes m id = edge_of m ≡ Some id

takes_it : (m : Mark) (id : EdgeId) → edge_of m ≡ Some id → takes_this (takes m) id.0 ≡ true
takes_it m id e = ap (λ (o : Option EdgeId). takes_this (option_map (λ (i : EdgeId). i.0) o) id.0) e ∙ eq-eqb id.0 id.0 refl

takes_by : (o : Option EdgeId) (id : EdgeId) → takes_this (option_map (λ (i : EdgeId). i.0) o) id.0 ≡ true → o ≡ Some id
takes_by None id e = absurd (cc e)
takes_by (Some own) id e = ap (λ (i : EdgeId). Some i) (same_id own id e)

free_is : (ms : List Mark) (m : Mark) (id : EdgeId) → edge_of m ≡ Some id → is_free takes ms m ≡ true → uses takes ms id.0 ≡ false
free_is ms m id e free =
    not_true (uses takes ms id.0) (ap (λ (o : Option EdgeId). is_unused takes ms (option_map (λ (i : EdgeId). i.0) o)) (sym e) ∙ free)

-- ---- lists of ids

all_by : {A : Type 0} (P : A → Type 0) (xs : List A) → All P xs → AllByRecursion P xs
all_by P [] all = tt
all_by P (x ∷ xs) all = (all 0 x (omega arith), all_by P xs (λ i d less. all (suc i) d (omega arith)))

among_append : (id : EdgeId) (xs ys : List EdgeId) → is_among id (xs ++ ys) ≡ false → (is_among id xs ≡ false) × (is_among id ys ≡ false)
among_append id [] ys e = (refl, e)
among_append id (x ∷ xs) ys e =
    let both = or_no (x.0 == id.0) (is_among id (xs ++ ys)) e in
    let rest = among_append id xs ys both.1 in
    (ap (λ (b : Bool). b || is_among id xs) both.0 ∙ rest.0, rest.1)

distinct_parts : (x : EdgeId) (xs : List EdgeId) → are_distinct (x ∷ xs) ≡ true → (is_among x xs ≡ false) × (are_distinct xs ≡ true)
distinct_parts x xs e = let both = and_both (not (is_among x xs)) (are_distinct xs) e in (not_true (is_among x xs) both.0, both.1)

turned : (a b : ℕ) → (a == b) ≡ false → (b == a) ≡ false
turned a b e = grind arith

-- one is none of others, so they are not it
not_it : (x : EdgeId) (ys : List EdgeId) → is_among x ys ≡ false → AllByRecursion (λ y. (x.0 == y.0) ≡ false) ys
not_it x [] e = tt
not_it x (y ∷ ys) e = let both = or_no (y.0 == x.0) (is_among x ys) e in (turned y.0 x.0 both.0, not_it x ys both.1)

both_apart : (x : EdgeId) (xs ys : List EdgeId) → AllByRecursion (λ y. (x.0 == y.0) ≡ false) ys → AllByRecursion (λ y. is_among y xs ≡ false) ys → AllByRecursion (λ y. is_among y (x ∷ xs) ≡ false) ys
both_apart x xs [] a b = tt
both_apart x xs (y ∷ ys) a b = (ap (λ (z : Bool). z || is_among y xs) a.0 ∙ b.0, both_apart x xs ys a.1 b.1)

none_among : (ys : List EdgeId) → AllByRecursion (λ y. is_among y [] ≡ false) ys
none_among [] = tt
none_among (y ∷ ys) = (refl, none_among ys)

distinct_front : (xs ys : List EdgeId) → are_distinct (xs ++ ys) ≡ true → (are_distinct xs ≡ true) × (are_distinct ys ≡ true) × AllByRecursion (λ y. is_among y xs ≡ false) ys
distinct_front [] ys e = (refl, e, none_among ys)
distinct_front (x ∷ xs) ys e =
    let p = distinct_parts x (xs ++ ys) e in
    let a = among_append x xs ys p.0 in
    let rest = distinct_front xs ys p.1 in
    (apart_more x xs a.0 rest.0, rest.1, both_apart x xs ys (not_it x ys a.1) rest.2)

all_front : (P : EdgeId → Type 0) (xs ys : List EdgeId) → AllByRecursion P (xs ++ ys) → AllByRecursion P xs × AllByRecursion P ys
all_front P xs ys a = (all_left P xs ys a, all_right P xs ys a)

-- ---- goals

module _ (structs : List StructInfo) (defs : List Def) (vars : List VarInfo) (fit : DefsFit structs defs) (know : Test) (before : State) (made_before : IsWellMade defs vars structs before)
    (tells : Tells know before) (sound : IsFalse before → ⊥) (g : Goal) where
  abbrev w : Setting
  w = setting_in know defs before

  -- a goal that is asked for at terms of the right kinds, with no stop
  abbrev pub IsAsked : Goal → Type 0
  IsAsked h = IsKinded defs before.kinds h.pred h.at h.args × (h.stop ≡ None)

  -- a goal without a stop is met by no mark of a segment
  no_stop : (h : Goal) → h.stop ≡ None → is_some h.stop ≡ true → ⊥
  no_stop h e is = let two : is_some h.stop ≡ false = ap is_some e in bool_clash (is_some h.stop) is two

  rule_there : (h : Goal) (place : ℕ) (block : Option EdgeId) → fits w h (ByRule place block) ≡ true → (by : Named) × (rule_at w h place block ≡ Some by)
  rule_there h place block f = there (rule_at w h place block) (and_both (not (is_some h.stop)) (is_some (rule_at w h place block)) f).1

  -- the block of a rule is an edge
  block_is : (at : Term) (o : Option StructId) (id : EdgeId) (contents : List NodeId) → contents_by know before.graph.edges at o (Some id) ≡ Some contents → (e : Edge) × (edge_with before.graph.edges id ≡ Some e)
  block_is at None id contents e = absurd (cc e)
  block_is at (Some shape) id contents e = let r = then_some (whole_block know at shape) (edge_with before.graph.edges id) contents e in (r.0, r.1)

  -- a mark that fits takes an edge that is there
  mark_there : (h : Goal) (m : Mark) (id : EdgeId) → h.stop ≡ None → fits w h m ≡ true → edge_of m ≡ Some id → (e : Edge) × (edge_with before.graph.edges id ≡ Some e)
  mark_there h AtEnd id none f e = absurd (cc e)
  mark_there h (ByInd own) id none f e =
      let p = ind_parts know h (edge_with before.graph.edges own) (and_both (not (is_some h.stop)) (is_ind know h (edge_with before.graph.edges own)) f).1 in
      (_, ap (edge_with before.graph.edges) (sym (same_some own id e)) ∙ p.edge)
  mark_there h (BySeg own) id none f e =
      let p = seg_parts know h (edge_with before.graph.edges own) f in
      (_, ap (edge_with before.graph.edges) (sym (same_some own id e)) ∙ p.edge)
  mark_there h (ByRule place block) id none f e =
      let by = rule_there h place block f in
      let p = rule_parts w h place block by.0 by.1 in
      block_is h.at by.0.rule.block id p.contents (ap (contents_by know before.graph.edges h.at by.0.rule.block) (sym e) ∙ p.taken)
  mark_there h (ByCall place block call) id none f e = absurd (no_stop h none (and_both (is_some h.stop) _ f).0)

  -- ---- terms for the names of a rule

  contents_are : (h : Goal) (params : List Kind) (rule : Rule) → RuleFitsStructs structs defs params rule → (o : Option StructId) → rule.block ≡ o → (block : Option EdgeId) (contents : List NodeId)
      → contents_by know before.graph.edges h.at o block ≡ Some contents → HaveTermKinds before.kinds (content_kinds params rule) (map plain contents)
  contents_are h params rule fits None is None contents e =
      subst (λ (cs : List NodeId). HaveTermKinds before.kinds (content_kinds params rule) (map plain cs)) (same_some [] contents e)
      (no_contents_kinded structs defs vars fit before made_before params rule fits is)
  contents_are h params rule fits None is (Some id) contents e = absurd (cc e)
  contents_are h params rule fits (Some shape) is None contents e = absurd (cc e)
  contents_are h params rule fits (Some shape) is (Some id) contents e =
      let r = then_some (whole_block know h.at shape) (edge_with before.graph.edges id) contents e in
      let p = block_parts know h.at shape r.0 contents r.2 in
      contents_kinded structs defs vars fit before made_before params rule fits shape is id p.b contents (r.1 ∙ ap (λ b. Some b) p.block)

  module _ (h : Goal) (asked : IsAsked h) (place : ℕ) (block : Option EdgeId) (by : Named) (is : rule_at w h place block ≡ Some by) where
    pub p : RuleParts w h place block by
    p = rule_parts w h place block by is

    fits_structs : RuleFitsStructs structs defs p.def.params by.rule
    fits_structs = rule_fits_structs structs defs fit h.pred.0 p.def p.defined place by.rule p.listed

    -- each name's term has its kind
    pub all_known : AllKnown before.kinds by.rule.names by.names
    all_known =
        subst (λ (ts : List Term). AllKnown before.kinds by.rule.names ts) (sym p.names)
        (names_known structs defs vars fit before made_before h.pred h.at h.args asked.0 (terms w before tells (structs, fit) h place block by p)
        (contents_are h p.def.params by.rule fits_structs by.rule.block refl block p.contents p.taken))

    pub all_lie : TermsLieIn before by.rule.names by.names
    all_lie = subst (λ (ts : List Term). TermsLieIn before by.rule.names ts) (sym p.names) (terms w before tells (structs, fit) h place block by p).kinds

    pub all_kinds : HaveTermKinds before.kinds by.rule.names by.names
    all_kinds = each_known before.kinds by.rule.names by.names (lie_count before by.rule.names by.names all_lie) all_known

    calls_fit : AllByRecursion (CallFits defs by.rule.names) by.rule.calls
    calls_fit = all_by (CallFits defs by.rule.names) by.rule.calls fits_structs.fits.calls

    each_asked : (calls : List Call) → AllByRecursion (CallFits defs by.rule.names) calls → AllByRecursion IsAsked (map (goal_of by.names None) calls)
    each_asked [] f = tt
    each_asked (call ∷ calls) f = ((call_kinded before.kinds defs by.rule.names by.names call all_known f.0, refl), each_asked calls f.1)

    pub calls_asked : AllByRecursion IsAsked (map (goal_of by.names None) by.rule.calls)
    calls_asked = each_asked by.rule.calls calls_fit

  -- what a mark leaves is asked for rightly
  mark_asked : (h : Goal) (m : Mark) → IsAsked h → fits w h m ≡ true → AllByRecursion IsAsked (calls_of w h m)
  mark_asked h AtEnd asked f = tt
  mark_asked h (ByInd id) asked f = tt
  mark_asked h (BySeg id) asked f =
      let q = seg_parts know h (edge_with before.graph.edges id) f in
      subst (λ (o : Option Edge). AllByRecursion IsAsked (behind_seg h o)) (sym q.edge)
      ((end_kinded structs defs vars fit before made_before id q.b q.args h.pred q.last q.lasts q.edge, asked.1), tt)
  mark_asked h (ByRule place block) asked f =
      let by = rule_there h place block f in
      subst (λ (o : Option Named). AllByRecursion IsAsked (calls_of_rule o)) (sym by.1) (calls_asked h asked place block by.0 by.1)
  mark_asked h (ByCall place block call) asked f = absurd (no_stop h asked.1 (and_both (is_some h.stop) _ f).0)

  goals_append : (xs ys : List Goal) → AllByRecursion IsAsked xs → AllByRecursion IsAsked ys → AllByRecursion IsAsked (xs ++ ys)
  goals_append [] ys a b = b
  goals_append (x ∷ xs) ys a b = (a.0, goals_append xs ys a.1 b)

  module _ (first : IsAsked g) where
    pub opened_asked : (front : List Met) (open_goals : List Goal) → Opened w g front open_goals → AllByRecursion IsAsked open_goals
    opened_asked [] open_goals o = subst (AllByRecursion IsAsked) (sym o) (first, tt)
    opened_asked (met ∷ front) open_goals (rest, is, f, names, free, o) =
        let both = opened_asked front (met.goal ∷ rest) o in
        subst (AllByRecursion IsAsked) (sym is) (goals_append (calls_of w met.goal met.mark) rest (mark_asked met.goal met.mark both.0 f) both.1)

    -- what the marks take is there
    used_there : (front : List Met) (open_goals : List Goal) → Opened w g front open_goals → (id : EdgeId) → uses takes (marks_of front) id.0 ≡ true → (e : Edge) × (edge_with before.graph.edges id ≡ Some e)
    used_there [] open_goals o id used = absurd (cc used)
    used_there (met ∷ front) open_goals (rest, is, f, names, free, o) id used =
        by (used_there front (met.goal ∷ rest) o id) (opened_asked front (met.goal ∷ rest) o).0 (takes_this (takes met.mark) id.0) refl used
      where
        by : (uses takes (marks_of front) id.0 ≡ true → (e : Edge) × (edge_with before.graph.edges id ≡ Some e)) → IsAsked met.goal
            → (b : Bool) → takes_this (takes met.mark) id.0 ≡ b → (b || uses takes (marks_of front) id.0) ≡ true → (e : Edge) × (edge_with before.graph.edges id ≡ Some e)
        by later asked true takes_id u = mark_there met.goal met.mark id asked.1 f (takes_by (edge_of met.mark) id takes_id)
        by later asked false takes_id u = later u

    -- ---- steps

    -- the id of the edge that comes next
    abbrev pub next_id : State → EdgeId
    next_id t = record { 0 = t.graph.next }

    -- the state in which one edge comes in the place of others
    abbrev pub fold_of : State → List EdgeId → Edge → State
    fold_of t gone new = folded t (others t.graph.edges gone) new

    all_there : (t : State) (gs : List Goal) (ids : List EdgeId) → AreMadeBy t gs ids → AllByRecursion (λ id. (e : Edge) × (edge_with t.graph.edges id ≡ Some e)) ids
    all_there t [] [] m = tt
    all_there t [] (id ∷ ids) m = absurd m
    all_there t (h ∷ gs) [] m = absurd m
    all_there t (h ∷ gs) (id ∷ ids) m = ((_, m.0.there), all_there t gs ids m.1)

    made_stay : (t : State) (gone : List EdgeId) (new : Edge) (gs : List Goal) (ids : List EdgeId) → AllByRecursion (λ id. is_among id gone ≡ false) ids → AreMadeBy t gs ids → AreMadeBy (fold_of t gone new) gs ids
    made_stay t gone new [] [] apart m = tt
    made_stay t gone new [] (id ∷ ids) apart m = absurd m
    made_stay t gone new (h ∷ gs) [] apart m = absurd m
    made_stay t gone new (h ∷ gs) (id ∷ ids) apart m = (
      made_grown t (fold_of t gone new) (record { kinds = λ kind n h. h; written = λ f h. h }) h.pred h.at h.args id m.0 (stays t.graph.edges gone t.graph.next new id _ apart.0 m.0.there),
      made_stay t gone new gs ids apart.1 m.1,
    )

    made_grow : (t u : State) → IsGrown t u → u.graph ≡ t.graph → (gs : List Goal) (ids : List EdgeId) → AreMadeBy t gs ids → AreMadeBy u gs ids
    made_grow t u grown e [] [] m = tt
    made_grow t u grown e [] (id ∷ ids) m = absurd m
    made_grow t u grown e (h ∷ gs) [] m = absurd m
    made_grow t u grown e (h ∷ gs) (id ∷ ids) m = (
      made_grown t u grown h.pred h.at h.args id m.0 (subst (λ (g : Graph). edge_with g.edges id ≡ Some (Ind m.0.node h.pred m.0.nodes)) (sym e) m.0.there),
      made_grow t u grown e gs ids m.1,
    )

    abbrev pub Making : State → List Met → List EdgeId → Type 0
    Making t front ids = IsMaking know defs before g t front ids

    -- where nodes are named, nothing else changes
    pub grow_step : (t u : State) (front : List Met) (ids : List EdgeId) → Making t front ids → IsGrown t u → u.graph ≡ t.graph → Making u front ids
    grow_step t u front ids m grown e = record {
      open_goals = m.open_goals;
      opened = m.opened;
      made = made_grow t u grown e m.open_goals ids m.made;
      later = later_on before t u m.later grown;
      apart = m.apart;
      unused = m.unused;
      kept = λ id x used is. subst (λ (g : Graph). edge_with g.edges id ≡ Some x) (sym e) (m.kept id x used is);
    }

    -- one edge that makes the goal comes in the place of those that make what its mark leaves
    fold_step : (t : State) → IsBounded t → IsLater before t → (met : Met) (front : List Met) (rest : List Goal) → Opened w g front (met.goal ∷ rest) → (gone ids : List EdgeId) (new : Edge)
        → AllByRecursion (λ id. uses takes (marks_of front) id.0 ≡ false) gone → AllByRecursion (λ id. uses takes (marks_of front) id.0 ≡ false) ids
        → AllByRecursion (λ id. is_among id gone ≡ false) ids → are_distinct ids ≡ true → AreMadeBy t rest ids
        → ((id : EdgeId) (e : Edge) → uses takes (marks_of front) id.0 ≡ true → edge_with before.graph.edges id ≡ Some e → edge_with t.graph.edges id ≡ Some e)
        → IsMadeBy (fold_of t gone new) met.goal.pred met.goal.at met.goal.args (next_id t) → Making (fold_of t gone new) front (next_id t ∷ ids)
    fold_step t bounded later met front rest o gone ids new gone_unused ids_unused apart distinct made kept by = record {
      open_goals = met.goal ∷ rest;
      opened = o;
      made = (by, made_stay t gone new rest ids apart made);
      later = record { kinds = later.kinds; known = later.known };
      apart = apart_more (next_id t) ids (among_none (λ id. (e : Edge) × (edge_with t.graph.edges id ≡ Some e)) (next_id t) ids (λ x. clash (edge_with t.graph.edges (next_id t)) x.0 none x.1) (all_there t rest ids made)) distinct;
      unused = (next_unused (uses takes (marks_of front) (next_id t).0) refl, ids_unused);
      kept = λ id e used is. stays t.graph.edges gone t.graph.next new id e (among_none (λ (x : EdgeId). uses takes (marks_of front) x.0 ≡ false) id gone (λ f. bool_clash _ used f) gone_unused) (kept id e used is);
    }
      where
        none : edge_with t.graph.edges (next_id t) ≡ None
        none = next_none 0 t.graph.edges t.graph.next bounded.ids

        next_unused : (b : Bool) → uses takes (marks_of front) (next_id t).0 ≡ b → uses takes (marks_of front) (next_id t).0 ≡ false
        next_unused false e = e
        next_unused true e = let is = used_there front (met.goal ∷ rest) o (next_id t) e in absurd (clash (edge_with t.graph.edges (next_id t)) is.0 none (kept (next_id t) is.0 e is.1))

    -- ids that no mark takes, are taken by none of fewer
    unused_front : (met : Met) (front : List Met) (ids : List EdgeId) → AllByRecursion (λ id. uses takes (marks_of (met ∷ front)) id.0 ≡ false) ids → AllByRecursion (λ id. uses takes (marks_of front) id.0 ≡ false) ids
    unused_front met front ids a =
        all_map (λ id. uses takes (marks_of (met ∷ front)) id.0 ≡ false) (λ id. uses takes (marks_of front) id.0 ≡ false) (λ id e. (or_no (takes_this (takes met.mark) id.0) (uses takes (marks_of front) id.0) e).1) ids a

    own_used : (met : Met) (front : List Met) (id : EdgeId) → edge_of met.mark ≡ Some id → uses takes (marks_of (met ∷ front)) id.0 ≡ true
    own_used met front id e = ap (λ (b : Bool). b || uses takes (marks_of front) id.0) (takes_it met.mark id e)

    own_apart : (met : Met) (front : List Met) (id : EdgeId) (ids : List EdgeId) → edge_of met.mark ≡ Some id → AllByRecursion (λ id. uses takes (marks_of (met ∷ front)) id.0 ≡ false) ids → is_among id ids ≡ false
    own_apart met front id ids e unused =
        among_none (λ (x : EdgeId). uses takes (marks_of (met ∷ front)) x.0 ≡ false) id ids (λ f. bool_clash _ (own_used met front id e) f) unused

    kept_front : (t : State) (met : Met) (front : List Met)
        → ((id : EdgeId) (e : Edge) → uses takes (marks_of (met ∷ front)) id.0 ≡ true → edge_with before.graph.edges id ≡ Some e → edge_with t.graph.edges id ≡ Some e)
        → (id : EdgeId) (e : Edge) → uses takes (marks_of front) id.0 ≡ true → edge_with before.graph.edges id ≡ Some e → edge_with t.graph.edges id ≡ Some e
    kept_front t met front kept id e used is = kept id e (or_second (takes_this (takes met.mark) id.0) (uses takes (marks_of front) id.0) used) is

    same_from : (t : State) → IsLater before t → (x y : Term) → AreEqualTerms before x y → AreSameTerms t x y
    same_from t later x y h = elim h [ inl a ↦ later.known _ a | inr wrong ↦ absurd (sound wrong) ]

    all_same_from : (t : State) → IsLater before t → (xs ys : List Term) → AreAllEqualTerms before xs ys → AreAllSameTerms t xs ys
    all_same_from t later [] [] h = tt
    all_same_from t later [] (y ∷ ys) h = absurd h
    all_same_from t later (x ∷ xs) [] h = absurd h
    all_same_from t later (x ∷ xs) (y ∷ ys) h = (same_from t later x y h.0, all_same_from t later xs ys h.1)

    -- an Ind is there
    pub ind_step : (t : State) (met : Met) (front : List Met) (ids : List EdgeId) (id : EdgeId) → met.mark ≡ ByInd id → Making t (met ∷ front) ids → Making t front (id ∷ ids)
    ind_step t met front ids id is_mark m =
        let o = m.opened in
        let f = subst (λ (x : Mark). fits w met.goal x ≡ true) is_mark o.2 in
        let open_is = subst (λ (x : Mark). m.open_goals ≡ calls_of w met.goal x ++ o.0) is_mark o.1 in
        let own : edge_of met.mark ≡ Some id = ap edge_of is_mark in
        let q = ind_parts know met.goal (edge_with before.graph.edges id) (and_both (not (is_some met.goal.stop)) (is_ind know met.goal (edge_with before.graph.edges id)) f).1 in
        record {
          open_goals = met.goal ∷ o.0;
          opened = o.5;
          made = (
            record {
              node = q.b;
              nodes = q.args;
              there = m.kept id _ (own_used met front id own) q.edge;
              same_at = same_from t m.later met.goal.at (plain q.b) (equal_from know before tells met.goal.at (plain q.b) q.same_at);
              same_args = all_same_from t m.later met.goal.args (map plain q.args) (all_equal_from know before tells met.goal.args (map plain q.args) q.same_args);
            },
            subst (λ (gs : List Goal). AreMadeBy t gs ids) open_is m.made,
          );
          later = m.later;
          apart = apart_more id ids (own_apart met front id ids own m.unused) m.apart;
          unused = (free_is (marks_of front) met.mark id own o.4, unused_front met front ids m.unused);
          kept = kept_front t met front m.kept;
        }

    -- a segment is closed
    pub record SegStep (t : State) (met : Met) (front : List Met) (id rest : EdgeId) (ids : List EdgeId) : Type 0 where
      pub new : Edge
      pub instance : ClosesSeg id rest t (fold_of t (id ∷ rest ∷ []) new ∷ [])
      pub making : Making (fold_of t (id ∷ rest ∷ []) new) front (next_id t ∷ ids)

    pub seg_step : (t : State) → IsBounded t → (IsFalse t → ⊥) → (met : Met) (front : List Met) (id rest : EdgeId) (ids : List EdgeId) → met.mark ≡ BySeg id → Making t (met ∷ front) (rest ∷ ids) → SegStep t met front id rest ids
    seg_step t bounded consistent met front id rest ids is_mark m =
        let o = m.opened in
        let f = subst (λ (x : Mark). fits w met.goal x ≡ true) is_mark o.2 in
        let q = seg_parts know met.goal (edge_with before.graph.edges id) f in
        let own : edge_of met.mark ≡ Some id = ap edge_of is_mark in
        let asked = (opened_asked front (met.goal ∷ o.0) o.5).0 in
        let next : Goal = record { pred = met.goal.pred; at = plain q.last; args = map plain q.lasts; stop = met.goal.stop } in
        let open_is : m.open_goals ≡ next ∷ o.0 = subst (λ (x : Mark). m.open_goals ≡ calls_of w met.goal x ++ o.0) is_mark o.1 ∙ ap (λ (x : Option Edge). behind_seg met.goal x ++ o.0) q.edge in
        let made = subst (λ (gs : List Goal). AreMadeBy t gs (rest ∷ ids)) open_is m.made in
        let here : edge_with t.graph.edges id ≡ Some (Seg q.b q.args met.goal.pred q.last q.lasts) = m.kept id _ (own_used met front id own) q.edge in
        let own_none = own_apart met front id (rest ∷ ids) own m.unused in
        let parts = among_append id (rest ∷ []) ids own_none in
        let last = distinct_parts rest ids m.apart in
        let gone = id ∷ rest ∷ [] in
        let new : Edge = Ind q.b met.goal.pred q.args in
        let both : are_distinct (id ∷ rest ∷ []) ≡ true = apart_more id (rest ∷ []) parts.0 refl in
        let gone_unused : AllByRecursion (λ id. uses takes (marks_of front) id.0 ≡ false) gone = (free_is (marks_of front) met.mark id own o.4, ((unused_front met front (rest ∷ ids) m.unused).0, tt)) in
        let apart : AllByRecursion (λ x. is_among x gone ≡ false) ids = both_apart id (rest ∷ []) ids (not_it id ids parts.1) (both_apart rest [] ids (not_it rest ids last.0) (none_among ids)) in
        record {
          new = new;
          instance = closes t id rest met.goal.pred q.b q.args q.last q.lasts consistent here made.0 both;
          making = fold_step t bounded m.later met front o.0 o.5 gone ids new gone_unused (unused_front met front (rest ∷ ids) m.unused).1 apart last.1 made.1 (kept_front t met front m.kept)
              (record {
                node = q.b;
                nodes = q.args;
                there = is_new t.graph.edges gone t.graph.next new bounded.ids;
                same_at = same_from t m.later met.goal.at (plain q.b) (equal_from know before tells met.goal.at (plain q.b) q.same_at);
                same_args = all_same_from t m.later met.goal.args (map plain q.args) (all_equal_from know before tells met.goal.args (map plain q.args) q.same_args);
              });
        }

    -- ---- a rule folds

    calls_split : (t : State) (names : List Term) (calls : List Call) (rest : List Goal) (own ids : List EdgeId) → length own ≡ length calls → AreMadeBy t (map (goal_of names None) calls ++ rest) (own ++ ids)
        → CallsAreMade t names calls own × AreMadeBy t rest ids
    calls_split t names [] rest [] ids e m = (tt, m)
    calls_split t names [] rest (id ∷ own) ids e m = absurd (omega arith)
    calls_split t names (call ∷ calls) rest [] ids e m = absurd (omega arith)
    calls_split t names (call ∷ calls) rest (id ∷ own) ids e m = let r = calls_split t names calls rest own ids (omega arith) m.1 in ((m.0, r.0), r.1)

    -- the block is there still
    block_at : (t : State) → IsLater before t → (at : Term) (o : Option StructId) (block : Option EdgeId) (contents : List NodeId) → contents_by know before.graph.edges at o block ≡ Some contents
        → ((id : EdgeId) (e : Edge) → block ≡ Some id → edge_with before.graph.edges id ≡ Some e → edge_with t.graph.edges id ≡ Some e) → BlockIsThere t o at contents block
    block_at t later at None None contents e kept = sym (same_some [] contents e)
    block_at t later at None (Some id) contents e kept = absurd (cc e)
    block_at t later at (Some shape) None contents e kept = absurd (cc e)
    block_at t later at (Some shape) (Some id) contents e kept =
        let r = then_some (whole_block know at shape) (edge_with before.graph.edges id) contents e in
        let q = block_parts know at shape r.0 contents r.2 in
        (q.b, kept id _ refl (r.1 ∙ ap (λ b. Some b) q.block), same_from t later at (plain q.b) (equal_from know before tells at (plain q.b) q.same_at))

    block_apart : (met : Met) (front : List Met) (block : Option EdgeId) (ids : List EdgeId) → edge_of met.mark ≡ block → AllByRecursion (λ id. uses takes (marks_of (met ∷ front)) id.0 ≡ false) ids → are_distinct ids ≡ true
        → are_distinct (option_to_list block ++ ids) ≡ true
    block_apart met front None ids e unused distinct = distinct
    block_apart met front (Some id) ids e unused distinct = apart_more id ids (own_apart met front id ids e unused) distinct

    block_unused : (met : Met) (front : List Met) (block : Option EdgeId) (ids : List EdgeId) → edge_of met.mark ≡ block → is_free takes (marks_of front) met.mark ≡ true
        → AllByRecursion (λ id. uses takes (marks_of front) id.0 ≡ false) ids → AllByRecursion (λ id. uses takes (marks_of front) id.0 ≡ false) (option_to_list block ++ ids)
    block_unused met front None ids e free a = a
    block_unused met front (Some id) ids e free a = (free_is (marks_of front) met.mark id e free, a)

    others_apart : (block : Option EdgeId) (own ids : List EdgeId) → are_distinct (option_to_list block ++ (own ++ ids)) ≡ true → AllByRecursion (λ x. is_among x (option_to_list block ++ own) ≡ false) ids
    others_apart None own ids e = (distinct_front own ids e).2
    others_apart (Some id) own ids e = (distinct_front (id ∷ own) ids e).2

    pub record RuleStep (t : State) (met : Met) (front : List Met) (place : ℕ) (ns : List NodeId) (block : Option EdgeId) (own ids : List EdgeId) : Type 0 where
      pub new : Edge
      pub instance : FoldsInd defs (ind_fold met.goal.pred place ns block own) t (fold_of t (option_to_list block ++ own) new ∷ [])
      pub making : Making (fold_of t (option_to_list block ++ own) new) front (next_id t ∷ ids)

    pub rule_step : (t : State) → IsBounded t → (IsFalse t → ⊥) → (met : Met) (front : List Met) (place : ℕ) (block : Option EdgeId) (by : Named) → met.mark ≡ ByRule place block → rule_at w met.goal place block ≡ Some by
        → (ns : List NodeId) → AreNamed t by.rule.names by.names ns → (own ids : List EdgeId) → length own ≡ length by.rule.calls → Making t (met ∷ front) (own ++ ids) → RuleStep t met front place ns block own ids
    rule_step t bounded consistent met front place block by is_mark is ns named own ids count m =
        let o = m.opened in
        let p = rule_parts w met.goal place block by is in
        let is_edge : edge_of met.mark ≡ block = ap edge_of is_mark in
        let open_is : m.open_goals ≡ map (goal_of by.names None) by.rule.calls ++ o.0 =
        subst (λ (x : Mark). m.open_goals ≡ calls_of w met.goal x ++ o.0) is_mark o.1 ∙ ap (λ (x : Option Named). calls_of_rule x ++ o.0) is in
        let made = calls_split t by.names by.rule.calls o.0 own ids count (subst (λ (gs : List Goal). AreMadeBy t gs (own ++ ids)) open_is m.made) in
        let here = block_at t m.later met.goal.at by.rule.block block p.contents p.taken (λ id e b there. m.kept id e (own_used met front id (is_edge ∙ b)) there) in
        let all = block_apart met front block (own ++ ids) is_edge m.unused m.apart in
        let apart = others_apart block own ids all in
        let d = distinct_front own ids m.apart in
        let u = all_front (λ id. uses takes (marks_of (met ∷ front)) id.0 ≡ false) own ids m.unused in
        let own_distinct = block_apart met front block own is_edge u.0 d.0 in
        let gone = option_to_list block ++ own in
        let r = folds defs (structs, fit) before t sound m.later met.goal.pred met.goal.at met.goal.args (terms w before tells (structs, fit) met.goal place block by p) ns
        (subst (λ (ts : List Term). AreNamed t by.rule.names ts ns) p.names named) block own consistent here
        (subst (λ (ts : List Term). CallsAreMade t ts by.rule.calls own) p.names made.0) own_distinct in
        let new : Edge = Ind r.node met.goal.pred r.nodes in
        record {
          new = new;
          instance = r.instance;
          making = fold_step t bounded m.later met front o.0 o.5 gone ids new (block_unused met front block own is_edge o.4 (unused_front met front own u.0)) (unused_front met front ids u.1) apart d.1 made.1 (kept_front t met front m.kept)
              (record {
                node = r.node;
                nodes = r.nodes;
                there = is_new t.graph.edges gone t.graph.next new bounded.ids;
                same_at = r.same_at;
                same_args = r.same_args;
              });
        }

    -- ---- the begin and the end

    made_count : (t : State) (gs : List Goal) (ids : List EdgeId) → AreMadeBy t gs ids → length gs ≡ length ids
    made_count t [] [] m = refl
    made_count t [] (id ∷ ids) m = absurd m
    made_count t (h ∷ gs) [] m = absurd m
    made_count t (h ∷ gs) (id ∷ ids) m = ap suc (made_count t gs ids m.1)

    -- as many edges as a rule has calls are made
    pub calls_enough : (t : State) (met : Met) (front : List Met) (place : ℕ) (block : Option EdgeId) (by : Named) → met.mark ≡ ByRule place block → rule_at w met.goal place block ≡ Some by
        → (ids : List EdgeId) → Making t (met ∷ front) ids → length by.rule.calls ≤ length ids
    calls_enough t met front place block by is_mark is ids m =
        let o = m.opened in
        let open_is : m.open_goals ≡ map (goal_of by.names None) by.rule.calls ++ o.0 =
        subst (λ (x : Mark). m.open_goals ≡ calls_of w met.goal x ++ o.0) is_mark o.1 ∙ ap (λ (x : Option Named). calls_of_rule x ++ o.0) is in
        let count = made_count t m.open_goals ids m.made in
        let a : length m.open_goals ≡ length (map (goal_of by.names None) by.rule.calls ++ o.0) = ap length open_is in
        let b = length-append (map (goal_of by.names None) by.rule.calls) o.0 in
        let c : length (map (goal_of by.names None) by.rule.calls) ≡ length by.rule.calls = length-map by.rule.calls (goal_of by.names None) in
        omega arith

    -- after a segment one edge is made
    pub rest_there : (t : State) (met : Met) (front : List Met) (id : EdgeId) → met.mark ≡ BySeg id → Making t (met ∷ front) [] → ⊥
    rest_there t met front id is_mark m =
        let o = m.opened in
        let f = subst (λ (x : Mark). fits w met.goal x ≡ true) is_mark o.2 in
        let q = seg_parts know met.goal (edge_with before.graph.edges id) f in
        let open_is = subst (λ (x : Mark). m.open_goals ≡ calls_of w met.goal x ++ o.0) is_mark o.1 ∙ ap (λ (x : Option Edge). behind_seg met.goal x ++ o.0) q.edge in
        subst (λ (gs : List Goal). AreMadeBy t gs []) open_is m.made

    -- where no mark is left, one edge makes the goal
    pub last_step : (t : State) (ids : List EdgeId) → Making t [] ids → (id : EdgeId) × (ids ≡ id ∷ []) × IsMadeBy t g.pred g.at g.args id
    last_step t ids m = by ids (subst (λ (gs : List Goal). AreMadeBy t gs ids) m.opened m.made)
      where
        by : (xs : List EdgeId) → AreMadeBy t (g ∷ []) xs → (id : EdgeId) × (xs ≡ id ∷ []) × IsMadeBy t g.pred g.at g.args id
        by [] h = absurd h
        by (id ∷ []) h = (id, refl, h.0)
        by (id ∷ other ∷ xs) h = absurd h.1

    -- at first all marks are left, and no goal is open
    pub first_step : (t : State) (front : List Met) → IsLater before t → t.graph ≡ before.graph → Opened w g front [] → Making t front []
    first_step t front later e o = record {
      open_goals = [];
      opened = o;
      made = tt;
      later = later;
      apart = refl;
      unused = tt;
      kept = λ id x used is. subst (λ (h : Graph). edge_with h.edges id ≡ Some x) (sym e) is;
    }

    -- a goal that is met by no mark of a segment
    pub no_other : (t : State) (met : Met) (front : List Met) (ids : List EdgeId) → Making t (met ∷ front) ids → (met.mark ≡ AtEnd → ⊥) × ((place : ℕ) (block : Option EdgeId) (call : ℕ) → met.mark ≡ ByCall place block call → ⊥)
    no_other t met front ids m =
        let o = m.opened in
        let asked = (opened_asked front (met.goal ∷ o.0) o.5).0 in (
          λ e. at_end (ends_here_none (def_at w met.goal) met.goal met.goal.stop asked.1 (subst (λ (x : Mark). fits w met.goal x ≡ true) e o.2)),
          λ place block call e. no_stop met.goal asked.1 (and_both (is_some met.goal.stop) _ (subst (λ (x : Mark). fits w met.goal x ≡ true) e o.2)).0,
        )
      where
        at_end : ⊥ → ⊥
        at_end x = x

        ends_here_none : (d : Option Def) (h : Goal) (stop : Option Stop) → stop ≡ None → ends_here know d h stop ≡ true → ⊥
        ends_here_none None h stop none e = cc e
        ends_here_none (Some d) h None none e = cc e
        ends_here_none (Some d) h (Some s) none e = cc none
