-- What is tried and meets a goal is a cover, or a segment cover where there is a stop.
use Rattle.std.proofs.Common.{◌≡◌, inl, inr, ℕ, zero, suc, true, not, Option, Some, None, List, [], ◌∷◌, ◌++◌, length, map, slice_get, refl, ap, sym, subst, ◌∙◌, append_assoc, length-append, arith}
use Rattle.std.specs.Prelude.{◌+◌, is_some, option_map}
use Rattle.std.proofs.lemmas.List.{length-map}
use Rattle.mc_base.specs.declared.ids.EdgeId.{EdgeId}
use Rattle.mc_base.specs.declared.ids.NodeId.{NodeId}
use Rattle.mc_base.specs.declared.ids.PredId.{PredId}
use Rattle.mc_base.specs.declared.ids.StructId.{StructId}
use Rattle.mc_flow.specs.declared.defs.rules.Call.{Call}
use Rattle.mc_flow.specs.declared.defs.rules.Def.{Def}
use Rattle.mc_flow.specs.declared.defs.rules.Rule.{Rule}
use Rattle.mc_flow.specs.Defs.Conditions.{IsDefs, DefFits, RuleFits, RuleFitsStructs}
use Rattle.mc_state.specs.declared.graph.edge.Edge.TheVariants.{Block, Ind, Seg}
use Rattle.mc_state.specs.Graph.Graph.{Edges, edge_with, without}
use Rattle.mc_state.specs.declared.terms.Term.{Term}
use Rattle.mc_state.specs.Covers.{BlockIsTaken, RuleTerms, CallsAreFound, CallsAreFoundAt, IsByInd, CoverAt, Cover, EndsThere, SegCoverAt}
use Rattle.mc_state.specs.State.{State}
use Rattle.mc_state.specs.Terms.{plain, term_of}
use Rattle.mc_state.specs.Known.{Tells}
use Rattle.mc_state.specs.Lists.{on_some}
use Rattle.mc_state.proofs.Tests.{and_both}
use Rattle.mc_shape_search.specs.Search.Search.{is_free, first_try}
use Rattle.mc_shape_search.specs.Search.Met.{AreMetBy, IsMet}
use Rattle.mc_shape_search.proofs.SearchLemmas.Firsts.{first_meets}
use Rattle.mc_cover.specs.Goals.{Stop, Goal, Mark, AtEnd, ByInd, BySeg, ByRule, ByCall, Setting, is_ind, is_seg, behind_seg, whole_block, contents_by}
use Rattle.mc_cover.specs.Marks.{Named, ends_here, names_at, def_at, rule_at, has_call, fits, goal_of, goals_to, calls_of_rule, calls_of_rule_to, calls_of, edge_of, takes, space}
use Rattle.mc_cover.specs.First.{Choice, choice_of, limit, first_for}
use Rattle.mc_cover.specs.Laws.{FirstIsCover, FirstIsSegCover}
use Rattle.mc_cover.proofs.Fixed.{fixed_front, fixed_fixes}
use Rattle.mc_cover.proofs.Left.{left_by, left_same, left_less, still_there}
use Rattle.mc_cover.proofs.Options.{there, not_there, then_some, same_some, all_at}
use Rattle.mc_cover.proofs.Parts.{end_parts, ind_parts, SegParts, seg_parts, block_parts, RuleParts, rule_parts, call_parts, named_there}
use Rattle.mc_cover.proofs.Terms.{equal_from, all_equal_from, all_lie_from, atoms_from}

-- a rule that is listed fits
pub rule_fits : (defs : List Def) → IsDefs defs → (p : ℕ) (def : Def) → slice_get defs p ≡ Some def → (place : ℕ) (rule : Rule) → slice_get def.rules place ≡ Some rule → RuleFits defs def.params rule
rule_fits defs fit p def d place rule l =
    let rules = (all_at (DefFits fit.0 defs) defs p def d fit.1).rules in
    (all_at (RuleFitsStructs fit.0 defs def.params) def.rules place rule l rules).fits

-- the first names of a rule are as many as are known before its atoms
pub first_count : (g : Goal) (def : Def) (rule : Rule) (contents : List NodeId) → length g.args ≡ length def.params → length contents ≡ length rule.contents → suc (length def.params) + length rule.contents ≡ length (g.at ∷ (g.args ++ map plain contents))
first_count g def rule contents args_count contents_count =
    let a : length (g.args ++ map plain contents) ≡ length g.args + length (map plain contents) = length-append g.args (map plain contents) in
    let b : length (map plain contents) ≡ length contents = length-map contents plain in
    omega arith

module _ (w : Setting) (s : State) (tells : Tells w.know s) (fit : IsDefs w.defs) where
  -- a goal is made, at a depth
  abbrev Made : ℕ → Goal → Option Stop → Edges → Edges → Type 0
  Made k g None es left = CoverAt w.defs s k g.pred g.at g.args es left
  Made k g (Some stop) es left = SegCoverAt w.defs s stop.0 stop.1 k g.pred g.at g.args es left

  -- goals are made, one after the other
  abbrev AreMade : ℕ → List Goal → Edges → Edges → Type 0
  AreMade k [] es left = left ≡ es
  AreMade k (g ∷ gs) es left = (mid : Edges) × Made k g g.stop es mid × AreMade k gs mid left

  all_made : (k : ℕ) → ((g : Goal) (log after : List Mark) → IsMet (space w) k g log after → Made k g g.stop (left_by w.edges log) (left_by w.edges after))
      → (gs : List Goal) (log after : List Mark) → AreMetBy (IsMet (space w) k) gs log after → AreMade k gs (left_by w.edges log) (left_by w.edges after)
  all_made k f [] log after h = ap (left_by w.edges) h
  all_made k f (g ∷ gs) log after (mid, h, r) = (left_by w.edges mid, f g log mid h, all_made k f gs mid after r)

  -- by the stop, which stands apart from its goal
  with_stop : (k : ℕ) (g : Goal) (o own : Option Stop) (es left : Edges) → o ≡ own → Made k g own es left → Made k g o es left
  with_stop k g o own es left e m = subst (λ o. Made k g o es left) (sym e) m

  ends_made : (k : ℕ) (g : Goal) (log after : List Mark) → ends_here w.know (def_at w g) g g.stop ≡ true → left_by w.edges after ≡ left_by w.edges (log ++ AtEnd ∷ []) → Made (suc k) g g.stop (left_by w.edges log) (left_by w.edges after)
  ends_made k g log after e r =
      let p = end_parts w.know (def_at w g) g g.stop e in
      let made : EndsThere w.defs s p.to.0 p.to.1 g.pred g.at g.args (left_by w.edges log) (left_by w.edges after) =
      (p.own, p.defined, equal_from w.know s tells g.at p.to.0 p.same_at, all_equal_from w.know s tells g.args p.to.1 p.same_args, all_lie_from w.know s tells p.own.params g.args p.kinds, r ∙ left_same w.edges log AtEnd refl) in
      with_stop (suc k) g g.stop (Some p.to) (left_by w.edges log) (left_by w.edges after) p.stops (inl made)

  ind_made : (k : ℕ) (g : Goal) (log after : List Mark) (id : EdgeId) → g.stop ≡ None → is_ind w.know g (edge_with w.edges id) ≡ true → is_free takes log (ByInd id) ≡ true → left_by w.edges after ≡ left_by w.edges (log ++ ByInd id ∷ []) → Made (suc k) g g.stop (left_by w.edges log) (left_by w.edges after)
  ind_made k g log after id no' e free r =
      let p = ind_parts w.know g (edge_with w.edges id) e in
      let made : IsByInd s g.pred g.at g.args (left_by w.edges log) (left_by w.edges after) =
      (id, p.b, p.args, still_there w.edges log (ByInd id) id (Ind p.b g.pred p.args) refl free p.edge, equal_from w.know s tells g.at (plain p.b) p.same_at, all_equal_from w.know s tells g.args (map plain p.args) p.same_args, r ∙ left_less w.edges log (ByInd id) id refl) in
      with_stop (suc k) g g.stop None (left_by w.edges log) (left_by w.edges after) no' (inl made)

  -- what is after a Seg
  seg_by : (k : ℕ) (g next : Goal) (o : Option Stop) (log : List Mark) (left : Edges) (id : EdgeId) (p : SegParts w.know g (edge_with w.edges id)) → is_free takes log (BySeg id) ≡ true
      → next ≡ (record { pred = g.pred; at = plain p.last; args = map plain p.lasts; stop = g.stop }) → Made k next o (without (left_by w.edges log) id) left → Made (suc k) g o (left_by w.edges log) left
  seg_by k g next None log left id p free is m =
      let still = still_there w.edges log (BySeg id) id (Seg p.b p.args g.pred p.last p.lasts) refl free p.edge in
      let rest = subst (λ n. Made k n None (without (left_by w.edges log) id) left) is m in
      inr (inl (id, p.b, p.args, p.last, p.lasts, still, equal_from w.know s tells g.at (plain p.b) p.same_at, all_equal_from w.know s tells g.args (map plain p.args) p.same_args, rest))
  seg_by k g next (Some stop) log left id p free is m =
      let still = still_there w.edges log (BySeg id) id (Seg p.b p.args g.pred p.last p.lasts) refl free p.edge in
      let rest = subst (λ n. Made k n (Some stop) (without (left_by w.edges log) id) left) is m in
      inr (inl (id, p.b, p.args, p.last, p.lasts, still, equal_from w.know s tells g.at (plain p.b) p.same_at, all_equal_from w.know s tells g.args (map plain p.args) p.same_args, rest))

  seg_made : (k : ℕ) (g : Goal) (log after : List Mark) (id : EdgeId) → is_seg w.know g (edge_with w.edges id) ≡ true → is_free takes log (BySeg id) ≡ true
      → AreMade k (behind_seg g (edge_with w.edges id)) (left_by w.edges (log ++ BySeg id ∷ [])) (left_by w.edges after) → Made (suc k) g g.stop (left_by w.edges log) (left_by w.edges after)
  seg_made k g log after id e free r =
      let p = seg_parts w.know g (edge_with w.edges id) e in
      let one : AreMade k (record { pred = g.pred; at = plain p.last; args = map plain p.lasts; stop = g.stop } ∷ []) (left_by w.edges (log ++ BySeg id ∷ [])) (left_by w.edges after) =
      subst (λ o. AreMade k (behind_seg g o) (left_by w.edges (log ++ BySeg id ∷ [])) (left_by w.edges after)) p.edge r in
      let next : Goal = record { pred = g.pred; at = plain p.last; args = map plain p.lasts; stop = g.stop } in
      let from : Made k next g.stop (without (left_by w.edges log) id) one.0 = subst (λ es. Made k next g.stop es one.0) (left_less w.edges log (BySeg id) id refl) one.1 in
      let whole : Made k next g.stop (without (left_by w.edges log) id) (left_by w.edges after) = subst (λ left. Made k next g.stop (without (left_by w.edges log) id) left) (sym one.2) from in
      seg_by k g next g.stop log (left_by w.edges after) id p free refl whole

  -- a rule's block is taken
  block_taken : (g : Goal) (log : List Mark) (m : Mark) (o : Option StructId) (block : Option EdgeId) (contents : List NodeId) → edge_of m ≡ block → is_free takes log m ≡ true → contents_by w.know w.edges g.at o block ≡ Some contents
      → BlockIsTaken s o g.at contents (left_by w.edges log) (left_by w.edges (log ++ m ∷ []))
  block_taken g log m None None contents by free c = (sym (same_some [] contents c), left_same w.edges log m by)
  block_taken g log m None (Some id) contents by free c = absurd (cc c)
  block_taken g log m (Some shape) None contents by free c = absurd (cc c)
  block_taken g log m (Some shape) (Some id) contents by free c =
      let e = then_some (whole_block w.know g.at shape) (edge_with w.edges id) contents c in
      let p = block_parts w.know g.at shape e.0 contents e.2 in
      let is : edge_with w.edges id ≡ Some (Block p.b shape (map Some contents)) = e.1 ∙ ap (λ b. Some b) p.block in
      (id, p.b, still_there w.edges log m id (Block p.b shape (map Some contents)) by free is, equal_from w.know s tells g.at (plain p.b) p.same_at, left_less w.edges log m id by)

  -- terms for a rule's names
  abbrev pub terms : (g : Goal) (place : ℕ) (block : Option EdgeId) (by : Named) → RuleParts w g place block by → RuleTerms w.defs s g.pred g.at g.args
  terms g place block by p =
      let names = names_at g by.rule p.contents in
      let r = fixed_front (g.at ∷ (g.args ++ map plain p.contents)) by.rule.atoms in
      let rule = rule_fits w.defs fit g.pred.0 p.def p.defined place by.rule p.listed in
      record {
        def = p.def;
        defined = p.defined;
        rule = by.rule;
        place = place;
        listed = p.listed;
        count = p.count;
        contents = p.contents;
        contents_count = p.contents_count;
        names = names;
        fixed = r.0;
        front = r.1 ∙ ap (λ l. g.at ∷ l) (append_assoc g.args (map plain p.contents) r.0);
        kinds = all_lie_from w.know s tells by.rule.names names p.kinds;
        sums = fixed_fixes by.rule.names (g.at ∷ (g.args ++ map plain p.contents)) by.rule.atoms (suc (length p.def.params) + length by.rule.contents) (first_count g p.def by.rule p.contents p.count p.contents_count) rule.names.atoms names refl;
        atoms = atoms_from w.know s tells names by.rule.atoms p.atoms;
      }

  calls_found : (k : ℕ) (names : List Term) (calls : List Call) (es left : Edges) → AreMade k (map (goal_of names None) calls) es left → CallsAreFound (CoverAt w.defs s k) names calls es left
  calls_found k names [] es left m = m
  calls_found k names (c ∷ calls) es left (mid, m, r) = (mid, m, calls_found k names calls mid left r)

  covers_found : (k : ℕ) (names : List Term) (calls : List Call) (es left : Edges) → AreMade k (map (goal_of names None) calls) es left → CallsAreFound (Cover w.defs s) names calls es left
  covers_found k names [] es left m = m
  covers_found k names (c ∷ calls) es left (mid, m, r) = (mid, record { depth = k; found = m }, covers_found k names calls mid left r)

  calls_found_to : (k : ℕ) (names : List Term) (pred : PredId) (stop : Stop) (call : ℕ) (calls : List Call) (c : Call) (es left : Edges) → slice_get calls call ≡ Some c → c.pred ≡ pred
      → AreMade k (goals_to names (Some stop) call calls) es left → CallsAreFoundAt (Cover w.defs s) (SegCoverAt w.defs s stop.0 stop.1 k) pred call names calls es left
  calls_found_to k names pred stop call [] c es left at same m = absurd (cc at)
  calls_found_to k names pred stop zero (x ∷ calls) c es left at same (mid, m, r) =
      let is : x.pred ≡ pred = ap (λ (c : Call). c.pred) (same_some x c at) ∙ same in
      (mid, is, subst (λ p. SegCoverAt w.defs s stop.0 stop.1 k p (term_of names x.at) (map (term_of names) x.args) es mid) is m, covers_found k names calls mid left r)
  calls_found_to k names pred stop (suc call) (x ∷ calls) c es left at same (mid, m, r) =
      (mid, record { depth = k; found = m }, calls_found_to k names pred stop call calls c mid left at same r)

  rule_made : (k : ℕ) (g : Goal) (log after : List Mark) (place : ℕ) (block : Option EdgeId) → g.stop ≡ None → (by : Named) → rule_at w g place block ≡ Some by → is_free takes log (ByRule place block) ≡ true
      → AreMade k (calls_of_rule (rule_at w g place block)) (left_by w.edges (log ++ ByRule place block ∷ [])) (left_by w.edges after) → Made (suc k) g g.stop (left_by w.edges log) (left_by w.edges after)
  rule_made k g log after place block no' by is free r =
      let p = rule_parts w g place block by is in
      let calls : AreMade k (map (goal_of by.names None) by.rule.calls) (left_by w.edges (log ++ ByRule place block ∷ [])) (left_by w.edges after) =
      subst (λ o. AreMade k (calls_of_rule o) (left_by w.edges (log ++ ByRule place block ∷ [])) (left_by w.edges after)) is r in
      let named = subst (λ names. AreMade k (map (goal_of names None) by.rule.calls) (left_by w.edges (log ++ ByRule place block ∷ [])) (left_by w.edges after)) p.names calls in
      let found = calls_found k (names_at g by.rule p.contents) by.rule.calls (left_by w.edges (log ++ ByRule place block ∷ [])) (left_by w.edges after) named in
      with_stop (suc k) g g.stop None (left_by w.edges log) (left_by w.edges after) no'
      (inr (inr (terms g place block by p, left_by w.edges (log ++ ByRule place block ∷ []), block_taken g log (ByRule place block) by.rule.block block p.contents refl free p.taken, found)))

  call_made : (k : ℕ) (g : Goal) (log after : List Mark) (place : ℕ) (block : Option EdgeId) (call : ℕ) (stop : Stop) → g.stop ≡ Some stop → (by : Named) → rule_at w g place block ≡ Some by → has_call g.pred call by ≡ true → is_free takes log (ByCall place block call) ≡ true
      → AreMade k (calls_of_rule_to g.stop call (rule_at w g place block)) (left_by w.edges (log ++ ByCall place block call ∷ [])) (left_by w.edges after) → Made (suc k) g g.stop (left_by w.edges log) (left_by w.edges after)
  call_made k g log after place block call stop to by is has free r =
      let p = rule_parts w g place block by is in
      let c = call_parts g.pred (slice_get by.rule.calls call) has in
      let from = left_by w.edges (log ++ ByCall place block call ∷ []) in
      let calls : AreMade k (goals_to by.names g.stop call by.rule.calls) from (left_by w.edges after) = subst (λ o. AreMade k (calls_of_rule_to g.stop call o) from (left_by w.edges after)) is r in
      let stopped : AreMade k (goals_to by.names (Some stop) call by.rule.calls) from (left_by w.edges after) = subst (λ o. AreMade k (goals_to by.names o call by.rule.calls) from (left_by w.edges after)) to calls in
      let named : AreMade k (goals_to (names_at g by.rule p.contents) (Some stop) call by.rule.calls) from (left_by w.edges after) = subst (λ names. AreMade k (goals_to names (Some stop) call by.rule.calls) from (left_by w.edges after)) p.names stopped in
      let found = calls_found_to k (names_at g by.rule p.contents) g.pred stop call by.rule.calls c.0 from (left_by w.edges after) c.1 c.2 named in
      with_stop (suc k) g g.stop (Some stop) (left_by w.edges log) (left_by w.edges after) to
      (inr (inr (terms g place block by p, from, block_taken g log (ByCall place block call) by.rule.block block p.contents refl free p.taken, call, found)))

  -- what meets a goal makes it
  made : (k : ℕ) (g : Goal) (log after : List Mark) → IsMet (space w) k g log after → Made k g g.stop (left_by w.edges log) (left_by w.edges after)
  made zero g log after h = elim h [ ]
  made (suc k) g log after (m, a, r) = by_mark m (and_both (fits w g m) (is_free takes log m) a) (all_made k (λ g l a. made k g l a) (calls_of w g m) (log ++ m ∷ []) after r)
    where
      by_mark : (m : Mark) → (fits w g m ≡ true) × (is_free takes log m ≡ true) → AreMade k (calls_of w g m) (left_by w.edges (log ++ m ∷ [])) (left_by w.edges after) → Made (suc k) g g.stop (left_by w.edges log) (left_by w.edges after)
      by_mark AtEnd (f, u) r = ends_made k g log after f r
      by_mark (ByInd id) (f, u) r =
          let both = and_both (not (is_some g.stop)) (is_ind w.know g (edge_with w.edges id)) f in
          ind_made k g log after id (not_there g.stop both.0) both.1 u r
      by_mark (BySeg id) (f, u) r = seg_made k g log after id f u r
      by_mark (ByRule place block) (f, u) r =
          let both = and_both (not (is_some g.stop)) (is_some (rule_at w g place block)) f in
          let by = there (rule_at w g place block) both.1 in
          rule_made k g log after place block (not_there g.stop both.0) by.0 by.1 u r
      by_mark (ByCall place block call) (f, u) r =
          let both = and_both (is_some g.stop) (on_some (has_call g.pred call) (rule_at w g place block)) f in
          let stop = there g.stop both.0 in
          let by = named_there (has_call g.pred call) (rule_at w g place block) both.1 in
          call_made k g log after place block call stop.0 stop.1 by.0 by.1 by.2 u r

  -- the first way to meet a goal makes it
  pub first_made : (g : Goal) (found : Choice) → first_for w g ≡ Some found → Made (limit w) g g.stop w.edges found.left
  first_made g found e =
      let log = taken_from (first_try (space w) (limit w) g) e in
      let met = first_meets (space w) (limit w) g log.0 log.1 in
      subst (λ left. Made (limit w) g g.stop w.edges left) log.2 (made (limit w) g [] log.0 met.0)
    where
      taken_from : (o : Option (List Mark)) → option_map (choice_of w.edges) o ≡ Some found → (log : List Mark) × (o ≡ Some log) × (left_by w.edges log ≡ found.left)
      taken_from None e = absurd (cc e)
      taken_from (Some log) e = (log, refl, ap (λ (t : Choice). t.left) (same_some (choice_of w.edges log) found e))

pub first_is_cover : FirstIsCover
first_is_cover know defs s pred at args es found fit tells e =
    let w : Setting = record { know = know; defs = defs; edges = es } in
    record { depth = limit w; found = first_made w s tells fit (record { pred = pred; at = at; args = args; stop = None }) found e }

pub first_is_seg_cover : FirstIsSegCover
first_is_seg_cover know defs s pred at args «end» ends es found fit tells e =
    let w : Setting = record { know = know; defs = defs; edges = es } in
    record { depth = limit w; found = first_made w s tells fit (record { pred = pred; at = at; args = args; stop = Some (end, ends) }) found e }
