-- Where nothing that is tried meets a goal, there is no cover, and no segment cover.
use Rattle.std.proofs.Common.{◌≡◌, ◌<◌, inl, inr, ℕ, zero, suc, true, ◌&&◌, Option, Some, None, List, [], ◌∷◌, ◌++◌, length, map, slice_get, refl, ap, sym, subst, ◌∙◌, append_assoc, arith, eq-eqb}
use Rattle.std.specs.Prelude.{◌==◌, ◌*◌, ◌+◌, ◌≤◌, is_some, option_map}
use Rattle.std.specs.List.{AllByRecursion}
use Rattle.std.proofs.lemmas.List.{length-map}
use Rattle.mc_base.specs.declared.ids.EdgeId.{EdgeId}
use Rattle.mc_base.specs.declared.ids.NodeId.{NodeId}
use Rattle.mc_base.specs.declared.ids.PredId.{PredId}
use Rattle.mc_base.specs.declared.ids.StructId.{StructId}
use Rattle.mc_flow.specs.declared.defs.rules.Call.{Call}
use Rattle.mc_flow.specs.declared.defs.rules.Def.{Def}
use Rattle.mc_flow.specs.Defs.Conditions.{IsDefs}
use Rattle.mc_state.specs.declared.graph.edge.Edge.TheVariants.{Block, Ind, Seg}
use Rattle.mc_state.specs.Graph.Graph.{Edges, edge_with, IdsAscend}
use Rattle.mc_state.specs.declared.terms.Term.{Term}
use Rattle.mc_state.specs.Covers.{Fixes, BlockIsTaken, RuleTerms, CallsAreFound, CallsAreFoundAt, IsByInd, IsBySeg, CoverAt, Cover, EndsThere, SegCoverAt, SegCover}
use Rattle.mc_state.specs.State.{State}
use Rattle.mc_state.specs.Terms.{plain, term_of}
use Rattle.mc_state.specs.Known.{Test, Tells}
use Rattle.mc_state.specs.Lists.{on_some}
use Rattle.mc_state.proofs.Tests.{and_yes}
use Rattle.mc_shape_search.specs.Search.Search.{is_free, first_try}
use Rattle.mc_shape_search.specs.Search.Met.{IsIn}
use Rattle.mc_shape_search.proofs.SearchLemmas.Firsts.{none_on}
use Rattle.mc_shape_search.proofs.SearchLemmas.Tries.{LeadsOn, on_by_mark, on_none, on_both}
use Rattle.mc_cover.specs.Goals.{Stop, Goal, Mark, AtEnd, ByInd, BySeg, ByRule, ByCall, Setting, is_ind, is_seg, behind_seg, whole_block, contents_by}
use Rattle.mc_cover.specs.Marks.{ends_here, names_at, def_at, rule_at, has_call, fits, goal_of, goals_to, calls_of_rule, calls_of_rule_to, calls_of, edge_of, takes, ids_of, marks, space}
use Rattle.mc_cover.specs.First.{all_calls, Choice, choice_of, limit, first_for, first_cover, first_seg_cover}
use Rattle.mc_cover.specs.Laws.{NoFirstNoCover, NoFirstNoSegCover}
use Rattle.mc_cover.specs.Terms.{equal_terms, all_equal_terms, all_lie_in, atoms_known}
use Rattle.mc_cover.proofs.Fixed.{fixed_once, lie_count}
use Rattle.mc_cover.proofs.Left.{left_by, left_same, left_less, is_free_there, is_free_none}
use Rattle.mc_cover.proofs.Listed.{ind_listed, seg_listed, rule_listed, whole_in, call_in, numbers, all_few}
use Rattle.mc_cover.proofs.Options.{then_yes}
use Rattle.mc_cover.proofs.Parts.{block_yes, rule_found}
use Rattle.mc_cover.proofs.Sound.{rule_fits, first_count, first_is_cover, first_is_seg_cover}
use Rattle.mc_cover.proofs.Terms.{equal_to, all_equal_to, all_lie_to, atoms_to}

-- a goal of a predicate
abbrev goal_for : PredId → Term → List Term → Option Stop → Goal
goal_for pred at args stop = record { pred = pred; at = at; args = args; stop = stop }

module _ (w : Setting) (s : State) (tells : Tells w.know s) (fit : IsDefs w.defs) (high : ℕ) (ascend : IdsAscend 0 w.edges high) where
  -- some marks meet the goals, and leave these edges
  abbrev Back : List Goal → List Mark → Edges → Type 0
  Back gs log left = (last : List Mark) × (left ≡ left_by w.edges last) × LeadsOn (space w) gs log last

  by_mark : (g : Goal) (log : List Mark) (left : Edges) (m : Mark) (calls : List Goal) → IsIn m (marks w g) → fits w g m ≡ true → is_free takes log m ≡ true → calls_of w g m ≡ calls → Back calls (log ++ m ∷ []) left → Back (g ∷ []) log left
  by_mark g log left m calls i f u c (last, e, on) =
      let own : LeadsOn (space w) (calls_of w g m) (log ++ m ∷ []) last = subst (λ cs. LeadsOn (space w) cs (log ++ m ∷ []) last) (sym c) on in
      (last, e, on_by_mark (space w) g log last m i (and_yes (fits w g m) (is_free takes log m) f u) own)

  none_back : (log : List Mark) (left : Edges) → left ≡ left_by w.edges log → Back [] log left
  none_back log left e = (log, e, on_none (space w) log)

  -- calls, one after the other
  calls_back : (M : PredId → Term → List Term → Edges → Edges → Type 0) → ((pred : PredId) (at : Term) (args : List Term) (log : List Mark) (left : Edges) → M pred at args (left_by w.edges log) left → Back (goal_for pred at args None ∷ []) log left)
      → (names : List Term) (calls : List Call) (log : List Mark) (left : Edges) → CallsAreFound M names calls (left_by w.edges log) left → Back (map (goal_of names None) calls) log left
  calls_back M f names [] log left h = none_back log left h
  calls_back M f names (c ∷ calls) log left (mid, m, r) =
      let b = f c.pred (term_of names c.at) (map (term_of names) c.args) log mid m in
      let rest = calls_back M f names calls b.0 left (subst (λ es. CallsAreFound M names calls es left) b.1 r) in
      (rest.0, rest.1, on_both (space w) (goal_of names None c) (map (goal_of names None) calls) log b.0 rest.0 b.2 rest.2)

  -- and where one of them goes on to the stop
  calls_back_to : (M S : PredId → Term → List Term → Edges → Edges → Type 0) (stop : Stop) → ((pred : PredId) (at : Term) (args : List Term) (log : List Mark) (left : Edges) → M pred at args (left_by w.edges log) left → Back (goal_for pred at args None ∷ []) log left)
      → ((pred : PredId) (at : Term) (args : List Term) (log : List Mark) (left : Edges) → S pred at args (left_by w.edges log) left → Back (goal_for pred at args (Some stop) ∷ []) log left)
      → (pred : PredId) (names : List Term) (call : ℕ) (calls : List Call) (log : List Mark) (left : Edges) → CallsAreFoundAt M S pred call names calls (left_by w.edges log) left → Back (goals_to names (Some stop) call calls) log left
  calls_back_to M S stop f f' pred names zero [] log left h = elim h [ ]
  calls_back_to M S stop f f' pred names (suc call) [] log left h = elim h [ ]
  calls_back_to M S stop f f' pred names zero (c ∷ calls) log left (mid, is, m, r) =
      let own = subst (λ p. S p (term_of names c.at) (map (term_of names) c.args) (left_by w.edges log) mid) (sym is) m in
      let b = f' c.pred (term_of names c.at) (map (term_of names) c.args) log mid own in
      let rest = calls_back M f names calls b.0 left (subst (λ es. CallsAreFound M names calls es left) b.1 r) in
      (rest.0, rest.1, on_both (space w) (goal_of names (Some stop) c) (map (goal_of names None) calls) log b.0 rest.0 b.2 rest.2)
  calls_back_to M S stop f f' pred names (suc call) (c ∷ calls) log left (mid, m, r) =
      let b = f c.pred (term_of names c.at) (map (term_of names) c.args) log mid m in
      let rest = calls_back_to M S stop f f' pred names call calls b.0 left (subst (λ es. CallsAreFoundAt M S pred call names calls es left) b.1 r) in
      (rest.0, rest.1, on_both (space w) (goal_of names None c) (goals_to names (Some stop) call calls) log b.0 rest.0 b.2 rest.2)

  -- that call is there, and of the predicate
  call_there : (M S : PredId → Term → List Term → Edges → Edges → Type 0) (pred : PredId) (names : List Term) (call : ℕ) (calls : List Call) (es left : Edges) → CallsAreFoundAt M S pred call names calls es left
      → (on_some (λ (c : Call). c.pred.0 == pred.0) (slice_get calls call) ≡ true) × (call < length calls)
  call_there M S pred names zero [] es left h = elim h [ ]
  call_there M S pred names (suc call) [] es left h = elim h [ ]
  call_there M S pred names zero (c ∷ calls) es left (mid, is, m, r) = (eq-eqb c.pred.0 pred.0 (ap (λ (p : PredId). p.0) is), omega arith)
  call_there M S pred names (suc call) (c ∷ calls) es left (mid, m, r) = let t = call_there M S pred names call calls mid left r in let l = t.1 in (t.0, omega arith)

  ind_back : (pred : PredId) (at : Term) (args : List Term) (log : List Mark) (left : Edges) → IsByInd s pred at args (left_by w.edges log) left → Back (goal_for pred at args None ∷ []) log left
  ind_back pred at args log left (id, b, bs, e, same_at, same_args, l) =
      let g = goal_for pred at args None in
      let r = is_free_there w.edges log (ByInd id) id high (Ind b pred bs) refl ascend e in
      let f : is_ind w.know g (edge_with w.edges id) ≡ true = ap (is_ind w.know g) r.1 ∙ and_yes (pred.0 == pred.0) (equal_terms w.know at (plain b) && all_equal_terms w.know args (map plain bs)) (eq-eqb pred.0 pred.0 refl)
      (and_yes (equal_terms w.know at (plain b)) (all_equal_terms w.know args (map plain bs)) (equal_to w.know s tells at (plain b) same_at) (all_equal_to w.know s tells args (map plain bs) same_args)) in
      by_mark g log left (ByInd id) [] (ind_listed w g id (Ind b pred bs) r.1) f r.0 refl (none_back (log ++ ByInd id ∷ []) left (l ∙ sym (left_less w.edges log (ByInd id) id refl)))

  seg_back : (M : PredId → Term → List Term → Edges → Edges → Type 0) (stop : Option Stop) → ((pred : PredId) (at : Term) (args : List Term) (log : List Mark) (left : Edges) → M pred at args (left_by w.edges log) left → Back (goal_for pred at args stop ∷ []) log left)
      → (pred : PredId) (at : Term) (args : List Term) (log : List Mark) (left : Edges) → IsBySeg M s pred at args (left_by w.edges log) left → Back (goal_for pred at args stop ∷ []) log left
  seg_back M stop f pred at args log left (id, b, bs, last, lasts, e, same_at, same_args, m) =
      let g = goal_for pred at args stop in
      let r = is_free_there w.edges log (BySeg id) id high (Seg b bs pred last lasts) refl ascend e in
      let own : is_seg w.know g (edge_with w.edges id) ≡ true = ap (is_seg w.know g) r.1 ∙ and_yes (pred.0 == pred.0) (equal_terms w.know at (plain b) && all_equal_terms w.know args (map plain bs)) (eq-eqb pred.0 pred.0 refl)
      (and_yes (equal_terms w.know at (plain b)) (all_equal_terms w.know args (map plain bs)) (equal_to w.know s tells at (plain b) same_at) (all_equal_to w.know s tells args (map plain bs) same_args)) in
      let from = subst (λ es. M pred (plain last) (map plain lasts) es left) (sym (left_less w.edges log (BySeg id) id refl)) m in
      by_mark g log left (BySeg id) (goal_for pred (plain last) (map plain lasts) stop ∷ []) (seg_listed w g id (Seg b bs pred last lasts) r.1) own r.0 (ap (behind_seg g) r.1) (f pred (plain last) (map plain lasts) (log ++ BySeg id ∷ []) left from)

  -- a block that is taken, by the mark that takes it
  block_back : (mark : Option EdgeId → Mark) → ((b : Option EdgeId) → edge_of (mark b) ≡ b) → (o : Option StructId) (at : Term) (contents : List NodeId) (log : List Mark) (mid : Edges) → BlockIsTaken s o at contents (left_by w.edges log) mid
      → (block : Option EdgeId) × (contents_by w.know w.edges at o block ≡ Some contents) × (is_free takes log (mark block) ≡ true) × (mid ≡ left_by w.edges (log ++ mark block ∷ []))
  block_back mark own None at contents log mid (none, same) =
      (None, ap (λ c. Some c) (sym none), is_free_none w.edges log (mark None) (own None), same ∙ sym (left_same w.edges log (mark None) (own None)))
  block_back mark own (Some shape) at contents log mid (id, b, e, same_at, less) =
      let r = is_free_there w.edges log (mark (Some id)) id high (Block b shape (map Some contents)) (own (Some id)) ascend e in
      let c : contents_by w.know w.edges at (Some shape) (Some id) ≡ Some contents =
      then_yes (whole_block w.know at shape) (edge_with w.edges id) (Block b shape (map Some contents)) r.1 ∙ block_yes w.know at shape b contents (equal_to w.know s tells at (plain b) same_at) in
      (Some id, c, r.0, less ∙ sym (left_less w.edges log (mark (Some id)) id (own (Some id))))

  -- the terms of a rule's names are those of the fold
  names_are : (pred : PredId) (at : Term) (args : List Term) (stop : Option Stop) (by : RuleTerms w.defs s pred at args) → by.names ≡ names_at (goal_for pred at args stop) by.rule by.contents
  names_are pred at args stop by =
      let front = at ∷ (args ++ map plain by.contents) in
      let is : by.names ≡ front ++ by.fixed = by.front ∙ ap (λ l. at ∷ l) (sym (append_assoc args (map plain by.contents) by.fixed)) in
      let rule = rule_fits w.defs fit pred.0 by.def by.defined by.place by.rule by.listed in
      is
      ∙ fixed_once by.rule.names front by.fixed by.rule.atoms (suc (length by.def.params) + length by.rule.contents) (first_count (goal_for pred at args stop) by.def by.rule by.contents by.count by.contents_count) rule.names.atoms
      (lie_count s by.rule.names by.names by.kinds ∙ ap length is) (subst (λ l. AllByRecursion (Fixes l) by.rule.atoms) is by.sums)

  named_back : (pred : PredId) (at : Term) (args : List Term) (stop : Option Stop) (by : RuleTerms w.defs s pred at args) (block : Option EdgeId) → contents_by w.know w.edges at by.rule.block block ≡ Some by.contents
      → rule_at w (goal_for pred at args stop) by.place block ≡ Some (record { rule = by.rule; names = by.names })
  named_back pred at args stop by block c =
      let g = goal_for pred at args stop in
      let is = names_are pred at args stop by in
      let kinds : all_lie_in w.know by.rule.names (names_at g by.rule by.contents) ≡ true = subst (λ l. all_lie_in w.know by.rule.names l ≡ true) is (all_lie_to w.know s tells by.rule.names by.names by.kinds) in
      let atoms : atoms_known w.know (names_at g by.rule by.contents) by.rule.atoms ≡ true = subst (λ l. atoms_known w.know l by.rule.atoms ≡ true) is (atoms_to w.know s tells by.names by.rule.atoms by.atoms) in
      rule_found w g by.place block by.def by.rule by.contents by.defined by.listed c by.count by.contents_count kinds atoms ∙ ap (λ l. Some (record { rule = by.rule; names = l })) (sym is)

  -- a cover of any depth
  on_cover : (k : ℕ) (pred : PredId) (at : Term) (args : List Term) (log : List Mark) (left : Edges) → CoverAt w.defs s k pred at args (left_by w.edges log) left → Back (goal_for pred at args None ∷ []) log left
  on_cover zero pred at args log left h = elim h [ ]
  on_cover (suc k) pred at args log left (inl h) = ind_back pred at args log left h
  on_cover (suc k) pred at args log left (inr (inl h)) = seg_back (CoverAt w.defs s k) None (λ p a as' l e m. on_cover k p a as' l e m) pred at args log left h
  on_cover (suc k) pred at args log left (inr (inr (by, mid, t, calls))) =
      let g = goal_for pred at args None in
      let b = block_back (ByRule by.place) (λ b. refl) by.rule.block at by.contents log mid t in
      let is = named_back pred at args None by b.0 b.1 in
      let found = subst (λ es. CallsAreFound (CoverAt w.defs s k) by.names by.rule.calls es left) b.3 calls in
      let rest = calls_back (CoverAt w.defs s k) (λ p a as' l e m. on_cover k p a as' l e m) by.names by.rule.calls (log ++ ByRule by.place b.0 ∷ []) left found in
      by_mark g log left (ByRule by.place b.0) (map (goal_of by.names None) by.rule.calls) (rule_listed w g by.def by.place by.rule b.0 by.contents (ByRule by.place b.0) by.defined by.listed b.1 (whole_in by.place by.rule b.0)) (ap is_some is) b.2 (ap calls_of_rule is) rest

  on_any : (pred : PredId) (at : Term) (args : List Term) (log : List Mark) (left : Edges) → Cover w.defs s pred at args (left_by w.edges log) left → Back (goal_for pred at args None ∷ []) log left
  on_any pred at args log left c = on_cover c.depth pred at args log left c.found

  ends_back : (stop : Stop) (pred : PredId) (at : Term) (args : List Term) (log : List Mark) (left : Edges) → EndsThere w.defs s stop.0 stop.1 pred at args (left_by w.edges log) left → Back (goal_for pred at args (Some stop) ∷ []) log left
  ends_back stop pred at args log left (def, d, same_at, same_args, kinds, l) =
      let g = goal_for pred at args (Some stop) in
      let f : ends_here w.know (def_at w g) g (Some stop) ≡ true = ap (λ o. ends_here w.know o g (Some stop)) d
      ∙ and_yes (equal_terms w.know at stop.0) (all_equal_terms w.know args stop.1 && all_lie_in w.know def.params args) (equal_to w.know s tells at stop.0 same_at)
      (and_yes (all_equal_terms w.know args stop.1) (all_lie_in w.know def.params args) (all_equal_to w.know s tells args stop.1 same_args) (all_lie_to w.know s tells def.params args kinds)) in
      by_mark g log left AtEnd [] (inl refl) f refl refl (none_back (log ++ AtEnd ∷ []) left (l ∙ sym (left_same w.edges log AtEnd refl)))

  -- a segment cover of any depth
  on_seg_cover : (stop : Stop) (k : ℕ) (pred : PredId) (at : Term) (args : List Term) (log : List Mark) (left : Edges) → SegCoverAt w.defs s stop.0 stop.1 k pred at args (left_by w.edges log) left → Back (goal_for pred at args (Some stop) ∷ []) log left
  on_seg_cover stop zero pred at args log left h = ends_back stop pred at args log left h
  on_seg_cover stop (suc k) pred at args log left (inl h) = ends_back stop pred at args log left h
  on_seg_cover stop (suc k) pred at args log left (inr (inl h)) = seg_back (SegCoverAt w.defs s stop.0 stop.1 k) (Some stop) (λ p a as' l e m. on_seg_cover stop k p a as' l e m) pred at args log left h
  on_seg_cover stop (suc k) pred at args log left (inr (inr (by, mid, t, call, calls))) =
      let g = goal_for pred at args (Some stop) in
      let mark : Option EdgeId → Mark = λ b. ByCall by.place b call in
      let b = block_back mark (λ b. refl) by.rule.block at by.contents log mid t in
      let is = named_back pred at args (Some stop) by b.0 b.1 in
      let here = call_there (Cover w.defs s) (SegCoverAt w.defs s stop.0 stop.1 k) pred by.names call by.rule.calls mid left calls in
      let found = subst (λ es. CallsAreFoundAt (Cover w.defs s) (SegCoverAt w.defs s stop.0 stop.1 k) pred call by.names by.rule.calls es left) b.3 calls in
      let rest = calls_back_to (Cover w.defs s) (SegCoverAt w.defs s stop.0 stop.1 k) stop on_any (λ p a as' l e m. on_seg_cover stop k p a as' l e m) pred by.names call by.rule.calls (log ++ ByCall by.place b.0 call ∷ []) left found in
      let f : on_some (has_call pred call) (rule_at w g by.place b.0) ≡ true = ap (on_some (has_call pred call)) is ∙ here.0 in
      by_mark g log left (ByCall by.place b.0 call) (goals_to by.names (Some stop) call by.rule.calls) (rule_listed w g by.def by.place by.rule b.0 by.contents (ByCall by.place b.0 call) by.defined by.listed b.1 (call_in by.place by.rule b.0 call here.1)) f b.2 (ap (calls_of_rule_to (Some stop) call) is) rest

  -- where no try meets a goal, no marks do
  none_tried : (g : Goal) (left : Edges) → first_for w g ≡ None → Back (g ∷ []) [] left → ⊥
  none_tried g left e (last, l, on) =
      let count : length (numbers w fit) ≡ length w.edges = length-map (ids_of w.edges) (λ (i : EdgeId). i.0) ∙ length-map w.edges (λ e. e.0) in
      let room : suc (suc (all_calls w.defs) * length (numbers w fit)) ≤ limit w =
      subst (λ n. suc (suc (all_calls w.defs) * n) ≤ limit w) (sym count) (omega arith) in
      none_on (space w) (suc (all_calls w.defs)) (limit w) (numbers w fit) (all_few w fit) room g (no_try (first_try (space w) (limit w) g) e) last refl on
    where
      no_try : (o : Option (List Mark)) → option_map (choice_of w.edges) o ≡ None → o ≡ None
      no_try None e = refl
      no_try (Some log) e = absurd (cc e)

  pub no_cover : (pred : PredId) (at : Term) (args : List Term) (left : Edges) → first_for w (goal_for pred at args None) ≡ None → Cover w.defs s pred at args w.edges left → ⊥
  no_cover pred at args left e c = none_tried (goal_for pred at args None) left e (on_any pred at args [] left c)

  pub no_seg_cover : (stop : Stop) (pred : PredId) (at : Term) (args : List Term) (left : Edges) → first_for w (goal_for pred at args (Some stop)) ≡ None → SegCover w.defs s pred at args stop.0 stop.1 w.edges left → ⊥
  no_seg_cover stop pred at args left e c = none_tried (goal_for pred at args (Some stop)) left e (on_seg_cover stop c.depth pred at args [] left c.found)

no_first_covers : (know : Test) (defs : List Def) (s : State) (pred : PredId) (at : Term) (args : List Term) (es : Edges) → IsDefs defs → Tells know s → ((left : Edges) → Cover defs s pred at args es left → ⊥)
    → (o : Option Choice) → first_cover know defs pred at args es ≡ o → first_cover know defs pred at args es ≡ None
no_first_covers know defs s pred at args es fit tells none None is = is
no_first_covers know defs s pred at args es fit tells none (Some found) is = absurd (none found.left (first_is_cover know defs s pred at args es found fit tells is))

no_first_seg_covers : (know : Test) (defs : List Def) (s : State) (pred : PredId) (at : Term) (args : List Term) («end» : Term) (ends : List Term) (es : Edges) → IsDefs defs → Tells know s
    → ((left : Edges) → SegCover defs s pred at args end ends es left → ⊥) → (o : Option Choice) → first_seg_cover know defs pred at args end ends es ≡ o → first_seg_cover know defs pred at args end ends es ≡ None
no_first_seg_covers know defs s pred at args «end» ends es fit tells none None is = is
no_first_seg_covers know defs s pred at args «end» ends es fit tells none (Some found) is = absurd (none found.left (first_is_seg_cover know defs s pred at args end ends es found fit tells is))

pub no_first_no_cover : NoFirstNoCover
no_first_no_cover know defs s pred at args es high fit tells ascend = (
  λ e left c. no_cover (record { know = know; defs = defs; edges = es }) s tells fit high ascend pred at args left e c,
  λ none. no_first_covers know defs s pred at args es fit tells none (first_cover know defs pred at args es) refl,
)

pub no_first_no_seg_cover : NoFirstNoSegCover
no_first_no_seg_cover know defs s pred at args «end» ends es high fit tells ascend = (
  λ e left c. no_seg_cover (record { know = know; defs = defs; edges = es }) s tells fit high ascend (end, ends) pred at args left e c,
  λ none. no_first_seg_covers know defs s pred at args end ends es fit tells none (first_seg_cover know defs pred at args end ends es) refl,
)
