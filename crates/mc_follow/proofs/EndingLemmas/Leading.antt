-- The marks of a first cover lead from its goal to an end, and what a mark leaves is opened.
use Rattle.std.proofs.Common.{◌≡◌, ℕ, zero, suc, Bool, true, false, not, ◌||◌, Option, Some, None, List, [], ◌∷◌, ◌++◌, drop, get_or, length, map, reverse, slice_get, refl, sym, ◌∙◌, ap, subst, append-nil, append_assoc, ◌<◌, ◌≤◌, drop-cons, drop_of_length-le}
use Rattle.std.specs.Prelude.{is_some}
use Rattle.std.specs.List.{AllByRecursion}
use Rattle.std.proofs.lemmas.List.{reverse-append}
use Rattle.mc_base.specs.declared.ids.EdgeId.{EdgeId}
use Rattle.mc_base.specs.declared.ids.NodeId.{NodeId}
use Rattle.mc_flow.specs.declared.defs.rules.Call.{Call}
use Rattle.mc_flow.specs.declared.defs.rules.Def.{Def}
use Rattle.mc_flow.specs.declared.defs.rules.Rule.{Rule}
use Rattle.mc_state.specs.declared.graph.edge.Edge.{Edge}
use Rattle.mc_state.specs.declared.graph.edge.Edge.TheVariants.{Block, Ind, Seg}
use Rattle.mc_state.specs.Graph.Graph.{edge_with}
use Rattle.mc_state.specs.Known.{Test, Tells}
use Rattle.mc_state.proofs.Tests.{and_both}
use Rattle.mc_pure.specs.Classes.{EachIsDecided}
use Rattle.mc_pure.specs.Pure.{IsWellFormed}
use Rattle.mc_shape_search.specs.Search.Met.{Leads}
use Rattle.mc_shape_search.specs.Search.Search.{is_free, is_unused, takes_this, uses}
use Rattle.mc_shape_search.proofs.SearchLemmas.Bound.{uses_more}
use Rattle.mc_shape_search.proofs.SearchLemmas.Firsts.{first_leads}
use Rattle.mc_cover.specs.declared.goals.Goal.{Goal}
use Rattle.mc_cover.specs.declared.goals.Mark.{Mark}
use Rattle.mc_cover.specs.declared.goals.Mark.TheVariants.{AtEnd, ByInd, BySeg, ByRule, ByCall}
use Rattle.mc_cover.specs.First.{first_marks, limit}
use Rattle.mc_cover.specs.Goals.{Setting, behind_seg, contents_by}
use Rattle.mc_cover.specs.Marks.{Named, calls_of, calls_of_rule, fits, goal_of, names_at, rule_at, space, takes}
use Rattle.mc_state.specs.declared.terms.Term.{Term}
use Rattle.mc_state.specs.Fits.{IsBounded}
use Rattle.mc_state.specs.State.{State, pure_of}
use Rattle.mc_follow.specs.declared.ending.met.Met.{Met}
use Rattle.mc_follow.specs.Ending.Making.{HaveNoStop, IsOpenedBy, LeadsOn, Opened, marks_of}
use Rattle.mc_cover.proofs.Parts.{rule_parts}
use Rattle.mc_follow.proofs.EndingLemmas.Forgetting.{made_fits, made_rises}
use Rattle.mc_cover.proofs.Options.{same_some, there}

or_turned : (a b : Bool) → (a || b) ≡ (b || a)
or_turned true true = refl
or_turned true false = refl
or_turned false true = refl
or_turned false false = refl

free_as : (log taken : List Mark) → ((id : ℕ) → uses takes log id ≡ uses takes taken id) → (m : Mark) → is_free takes log m ≡ true → is_free takes taken m ≡ true
free_as log taken same m free = at (takes m) free
  where
    at : (o : Option ℕ) → is_unused takes log o ≡ true → is_unused takes taken o ≡ true
    at None e = refl
    at (Some id) e = ap not (sym (same id)) ∙ e

module _ (w : Setting) where
  leads_on : (n : ℕ) (gs : List Goal) (log after taken : List Mark) → ((id : ℕ) → uses takes log id ≡ uses takes taken id) → Leads (space w) n gs log after → (ms : List Mark) × (after ≡ log ++ ms) × LeadsOn w taken ms gs
  leads_on zero [] log after taken same h = ([], h.0 ∙ sym (append-nil log), refl)
  leads_on (suc n) [] log after taken same h = ([], h.0 ∙ sym (append-nil log), refl)
  leads_on zero (g ∷ gs) log after taken same h = absurd h
  leads_on (suc n) (g ∷ gs) log after taken same (m, i, a, r) =
      let both = and_both (fits w g m) (is_free takes log m) a in
      let more = λ (id : ℕ). uses_more takes log m id ∙ (or_turned (uses takes log id) (takes_this (takes m) id) ∙ ap (λ (b : Bool). takes_this (takes m) id || b) (same id)) in
      let rest = leads_on n (calls_of w g m ++ gs) (log ++ m ∷ []) after (m ∷ taken) more r in
      (m ∷ rest.0, rest.1 ∙ append_assoc log (m ∷ []) rest.0, (both.0, free_as log taken same m both.1, rest.2))

  -- the marks of the first way to meet a goal lead on from it
  pub first_leads_on : (g : Goal) (log : List Mark) → first_marks w g ≡ Some log → LeadsOn w [] log (g ∷ [])
  first_leads_on g log e =
      let r = leads_on (limit w) (g ∷ []) [] log [] (λ id. refl) (first_leads (space w) (limit w) g log e) in
      subst (λ (ms : List Mark). LeadsOn w [] ms (g ∷ [])) (sym r.1) r.2

  pub ind_opened : (h : Goal) (id : EdgeId) (names : List Term) (old : List Goal) → IsOpenedBy w h (ByInd id) names old old
  ind_opened h id names old = (refl, tt)

  pub seg_opened : (h next : Goal) (id : EdgeId) (names : List Term) (new old : List Goal) → h.stop ≡ None → behind_seg (record h { stop = None }) (edge_with w.edges id) ≡ next ∷ [] → new ≡ next ∷ old
      → IsOpenedBy w h (BySeg id) names new old
  seg_opened h next id names new old none is e =
      let same : record h { stop = None } ≡ h = sym (as_none h None none) in
      let own : calls_of w h (BySeg id) ≡ next ∷ [] = ap (λ (x : Goal). behind_seg x (edge_with w.edges id)) (sym same) ∙ is in
      (e ∙ ap (λ (gs : List Goal). gs ++ old) (sym own), tt)
    where
      as_none : (h : Goal) (o : Option (Term × List Term)) → h.stop ≡ o → h ≡ record h { stop = o }
      as_none h o e = ap (λ (z : Option (Term × List Term)). record h { stop = z }) e

  pub rule_opened : (h : Goal) (place : ℕ) (block : Option EdgeId) (rule : Rule) (def : Def) (names : List Term) (new old : List Goal) → fits w h (ByRule place block) ≡ true → slice_get w.defs h.pred.0 ≡ Some def → slice_get def.rules place ≡ Some rule
      → ((contents : List NodeId) → contents_by w.know w.edges h.at rule.block block ≡ Some contents → names ≡ names_at h rule contents)
      → new ≡ map (goal_of names None) rule.calls ++ old → IsOpenedBy w h (ByRule place block) names new old
  rule_opened h place block rule def names new old f defined listed made e =
      let by = there (rule_at w h place block) (and_both (not (is_some h.stop)) (is_some (rule_at w h place block)) f).1 in
      let p = rule_parts w h place block by.0 by.1 in
      let one : def ≡ p.def = same_some def p.def (sym defined ∙ p.defined) in
      let same : rule ≡ by.0.rule = same_some rule by.0.rule (sym listed ∙ (ap (λ (d : Def). slice_get d.rules place) one ∙ p.listed)) in
      let held = made p.contents (ap (λ (r : Rule). contents_by w.know w.edges h.at r.block block) same ∙ p.taken) in
      let are : names ≡ by.0.names = held ∙ (ap (λ (r : Rule). names_at h r p.contents) same ∙ sym p.names) in
      let calls : calls_of w h (ByRule place block) ≡ map (goal_of by.0.names None) by.0.rule.calls = ap calls_of_rule by.1 in (
        e ∙ ap (λ (gs : List Goal). gs ++ old) (ap (λ (ts : List Term). map (goal_of ts None) rule.calls) are ∙ (ap (λ (r : Rule). map (goal_of by.0.names None) r.calls) same ∙ sym calls)),
        (by.0, by.1, are),
      )

  -- where nothing is open at the end, all goals are met
  pub opened_last : (g : Goal) (front : List Met) (open_goals : List Goal) → LeadsOn w (marks_of front) [] open_goals → Opened w g front open_goals → Opened w g front []
  opened_last g front open_goals l o = subst (Opened w g front) l o

  -- one mark more
  pub opened_more : (g : Goal) (front : List Met) (met : Met) (ms : List Mark) (rest new : List Goal) → LeadsOn w (marks_of front) (met.mark ∷ ms) (met.goal ∷ rest) → Opened w g front (met.goal ∷ rest)
      → (fits w met.goal met.mark ≡ true → IsOpenedBy w met.goal met.mark met.names.items new rest) → LeadsOn w (marks_of (met ∷ front)) ms new × Opened w g (met ∷ front) new
  opened_more g front met ms rest new l o by =
      let b = by l.0 in
      (subst (λ (gs : List Goal). LeadsOn w (marks_of (met ∷ front)) ms gs) (sym b.0) l.2, (rest, b.0, l.0, b.1, l.1, o))

  stops_append : (xs ys : List Goal) → HaveNoStop xs → HaveNoStop ys → HaveNoStop (xs ++ ys)
  stops_append [] ys a b = b
  stops_append (x ∷ xs) ys a b = (a.0, stops_append xs ys a.1 b)

  call_stops : (names : List Term) (calls : List Call) → HaveNoStop (map (goal_of names None) calls)
  call_stops names [] = tt
  call_stops names (c ∷ calls) = (refl, call_stops names calls)

  rule_stops : (o : Option Named) → HaveNoStop (calls_of_rule o)
  rule_stops None = tt
  rule_stops (Some by) = call_stops by.names by.rule.calls

  seg_stops : (h : Goal) (o : Option Edge) → h.stop ≡ None → HaveNoStop (behind_seg h o)
  seg_stops h None none = tt
  seg_stops h (Some (Block at shape fields)) none = tt
  seg_stops h (Some (Ind at pred args)) none = tt
  seg_stops h (Some (Seg at args pred stop ends)) none = (none, tt)

  mark_stops : (h : Goal) (m : Mark) → h.stop ≡ None → fits w h m ≡ true → HaveNoStop (calls_of w h m)
  mark_stops h AtEnd none f = tt
  mark_stops h (ByInd id) none f = tt
  mark_stops h (BySeg id) none f = seg_stops h (edge_with w.edges id) none
  mark_stops h (ByRule place block) none f = rule_stops (rule_at w h place block)
  mark_stops h (ByCall place block call) none f =
      let both = and_both (is_some h.stop) _ f in
      let two : true ≡ false = sym both.0 ∙ ap is_some none in
      absurd (cc two)

  pub stops_more : (met : Met) (rest new : List Goal) → fits w met.goal met.mark ≡ true → HaveNoStop (met.goal ∷ rest) → IsOpenedBy w met.goal met.mark met.names.items new rest → HaveNoStop new
  stops_more met rest new f stops by = subst HaveNoStop (sym by.0) (stops_append (calls_of w met.goal met.mark) rest (mark_stops met.goal met.mark stops.0 f) stops.1)

  -- what holds of the marks that are opened so far
  pub record AreOpening (g : Goal) (mets : List Met) (ms : List Mark) (open_goals : List Goal) : Type 0 where
    pub leads : LeadsOn w (marks_of (reverse mets)) ms open_goals
    pub opened : Opened w g (reverse mets) open_goals
    pub stops : HaveNoStop open_goals

  pub opening_more : (g : Goal) (mets : List Met) (met : Met) (ms rest_marks : List Mark) (open_goals rest new : List Goal) → AreOpening g mets ms open_goals → ms ≡ met.mark ∷ rest_marks → open_goals ≡ met.goal ∷ rest
      → (fits w met.goal met.mark ≡ true → met.goal.stop ≡ None → IsOpenedBy w met.goal met.mark met.names.items new rest) → AreOpening g (mets ++ met ∷ []) rest_marks new
  opening_more g mets met ms rest_marks open_goals rest new a is_marks is_open by =
      let leads = subst (λ (gs : List Goal). LeadsOn w (marks_of (reverse mets)) (met.mark ∷ rest_marks) gs) is_open (subst (λ (xs : List Mark). LeadsOn w (marks_of (reverse mets)) xs open_goals) is_marks a.leads) in
      let opened = subst (Opened w g (reverse mets)) is_open a.opened in
      let stops = subst HaveNoStop is_open a.stops in
      let own = by leads.0 stops.0 in
      let more = opened_more g (reverse mets) met rest_marks rest new leads opened (λ f. own) in
      let turned : met ∷ reverse mets ≡ reverse (mets ++ met ∷ []) = sym (reverse-append mets (met ∷ [])) in
      record {
        leads = subst (λ (f : List Met). LeadsOn w (marks_of f) rest_marks new) turned more.0;
        opened = subst (λ (f : List Met). Opened w g f new) turned more.1;
        stops = stops_more met rest new leads.0 stops own;
      }

  pub opening_last : (g : Goal) (mets : List Met) (open_goals : List Goal) → AreOpening g mets [] open_goals → Opened w g (reverse mets) []
  opening_last g mets open_goals a = opened_last g (reverse mets) open_goals a.leads a.opened

  pub opening_first : (g : Goal) (log : List Mark) → g.stop ≡ None → first_marks w g ≡ Some log → AreOpening g [] log (g ∷ [])
  opening_first g log none e = record { leads = first_leads_on g log e; opened = refl; stops = (none, tt) }

  -- the same where lists are cut at a place
  pub opening_start : (g : Goal) (log ms : List Mark) (mets : List Met) (first items : List Goal) → g.stop ≡ None → first_marks w g ≡ Some log → ms ≡ log → mets ≡ [] → first ≡ [] → items ≡ first ++ g ∷ [] → AreOpening g mets ms (reverse items)
  opening_start g log ms mets first items none e is_log is_mets is_first is_items =
      let one : items ≡ g ∷ [] = is_items ∙ ap (λ (l : List Goal). l ++ g ∷ []) is_first in
      let two : g ∷ [] ≡ reverse items = sym (ap (λ (l : List Goal). reverse l) one) in
      subst (λ (l : List Met). AreOpening g l ms (reverse items)) (sym is_mets)
      (subst (λ (l : List Mark). AreOpening g [] l (reverse items)) (sym is_log)
      (subst (AreOpening g [] log) two (opening_first g log none e)))

  pub opening_step : (g : Goal) (marks : List Mark) (place next : ℕ) (mets : List Met) (met : Met) (open_goals rest new : List Goal) (items : List Met) (d : Mark) → AreOpening g mets (drop place marks) open_goals → place < length marks
      → next ≡ suc place → get_or marks place d ≡ met.mark → items ≡ mets ++ met ∷ [] → open_goals ≡ met.goal ∷ rest
      → (fits w met.goal met.mark ≡ true → met.goal.stop ≡ None → IsOpenedBy w met.goal met.mark met.names.items new rest) → AreOpening g items (drop next marks) new
  opening_step g marks place next mets met open_goals rest new items d a less is_next is_mark is_items is_open by =
      let cut : drop place marks ≡ met.mark ∷ drop (suc place) marks = drop-cons marks place d less ∙ ap (λ (m : Mark). m ∷ drop (suc place) marks) is_mark in
      subst (λ (l : List Met). AreOpening g l (drop next marks) new) (sym is_items)
      (subst (λ (n : ℕ). AreOpening g (mets ++ met ∷ []) (drop n marks) new) (sym is_next)
      (opening_more g mets met (drop place marks) (drop (suc place) marks) open_goals rest new a cut is_open by))

  pub opening_end : (g : Goal) (marks : List Mark) (place : ℕ) (mets : List Met) (open_goals : List Goal) → length marks ≤ place → AreOpening g mets (drop place marks) open_goals → Opened w g (reverse mets) []
  opening_end g marks place mets open_goals less a = opening_last g mets open_goals (subst (λ (ms : List Mark). AreOpening g mets ms open_goals) (drop_of_length-le marks less) a)

  -- while marks are left, a goal is open
  pub goal_open : (g : Goal) (marks : List Mark) (place : ℕ) (mets : List Met) (open_goals : List Goal) (d : Mark) → AreOpening g mets (drop place marks) open_goals → place < length marks → open_goals ≡ [] → ⊥
  goal_open g marks place mets open_goals d a less none =
      subst (λ (gs : List Goal). LeadsOn w (marks_of (reverse mets)) (get_or marks place d ∷ drop (suc place) marks) gs) none
      (subst (λ (ms : List Mark). LeadsOn w (marks_of (reverse mets)) ms open_goals) (drop-cons marks place d less) a.leads)

  -- which the next mark fits, and it has no stop
  pub next_fits : (g : Goal) (marks : List Mark) (place : ℕ) (mets : List Met) (open_goals rest : List Goal) (h : Goal) (d : Mark) → AreOpening g mets (drop place marks) open_goals → place < length marks
      → open_goals ≡ h ∷ rest → (fits w h (get_or marks place d) ≡ true) × (h.stop ≡ None)
  next_fits g marks place mets open_goals rest h d a less is =
      let leads = subst (λ (gs : List Goal). LeadsOn w (marks_of (reverse mets)) (get_or marks place d ∷ drop (suc place) marks) gs) is
      (subst (λ (ms : List Mark). LeadsOn w (marks_of (reverse mets)) ms open_goals) (drop-cons marks place d less) a.leads) in
      (leads.0, (subst HaveNoStop is a.stops).0)

  -- the block of a rule that fits is there
  pub contents_are_there : (h : Goal) (place : ℕ) (block : Option EdgeId) (def : Def) (rule : Rule) → fits w h (ByRule place block) ≡ true → slice_get w.defs h.pred.0 ≡ Some def
      → slice_get def.rules place ≡ Some rule → (contents : List NodeId) × (contents_by w.know w.edges h.at rule.block block ≡ Some contents)
  contents_are_there h place block def rule f defined listed =
      let by = there (rule_at w h place block) (and_both (not (is_some h.stop)) (is_some (rule_at w h place block)) f).1 in
      let p = rule_parts w h place block by.0 by.1 in
      let one : def ≡ p.def = same_some def p.def (sym defined ∙ p.defined) in
      let same : rule ≡ by.0.rule = same_some rule by.0.rule (sym listed ∙ (ap (λ (d : Def). slice_get d.rules place) one ∙ p.listed)) in
      (p.contents, ap (λ (r : Rule). contents_by w.know w.edges h.at r.block block) same ∙ p.taken)

-- a test tells what is entailed in a state
pub told : EachIsDecided → (s : State) → IsBounded s → AllByRecursion (IsWellFormed s.kinds) s.atoms → (know : Test) × Tells know s
told decided s bounded atoms = decided (pure_of s) (made_rises s bounded) (made_fits s bounded atoms)
