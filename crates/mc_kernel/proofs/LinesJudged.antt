-- Lines are judged by their instances.
use Rattle.std.proofs.Common.{◌≡◌, ◌↔◌, ◌⊎◌, inl, inr, ℕ, zero, suc, List, [], ◌∷◌, Bool, true, false, not, ◌&&◌, Option, Some, None, map, refl, ap, sym, subst, ◌∙◌, arith, eqb-true, eq-eqb}
use Rattle.std.specs.Prelude.{◌==◌, ◌||◌, Ok, Err, Contains, is_some, option_map, if◌then◌else◌}
use Rattle.mc_base.specs.declared.ids.NodeId.{NodeId}
use Rattle.mc_base.specs.declared.ids.PointId.{PointId}
use Rattle.mc_state.specs.declared.line.InstrRule.{InstrRule}
use Rattle.mc_lines.specs.declared.cert.line.Line.{Line}
use Rattle.mc_lines.specs.declared.cert.line.Line.TheVariants as line
use Rattle.mc_flow.specs.declared.defs.rules.Def.{Def}
use Rattle.mc_flow.specs.declared.graph.Flow.{Flow}
use Rattle.mc_rules_logic.specs.Fold.Goals.{MeetsGoal}
use Rattle.mc_rules_logic.specs.Fold.JudgedLaws as fold
use Rattle.mc_rules_logic.specs.Fold.Judges.{folding_ind, folding_seg, closing_seg, joining_segs, making_seg, meeting_goal}
use Rattle.mc_rules_logic.specs.Fold.ChangeJudges.{naming_spare, merging_nodes, dropping_edge, forgetting_node}
use Rattle.mc_rules_logic.specs.Fold.Folded.{FoldsInd, FoldsSeg, ClosesSeg, JoinsSegs, MakesEmptySeg}
use Rattle.mc_rules_logic.specs.Fold.Changed.{NamesSpare, MergesNodes, DropsEdge, ForgetsNode}
use Rattle.mc_rules_logic.specs.Unfold.JudgedLaws as opening
use Rattle.mc_rules_logic.specs.Unfold.Judges.{unfolding_ind, unfolding_seg}
use Rattle.mc_rules_logic.specs.Unfold.Unfolded.{UnfoldsInd, UnfoldsSeg}
use Rattle.mc_rules_logic.specs.Back.Laws as back
use Rattle.mc_rules_logic.specs.Back.Judges.{unfolding_back}
use Rattle.mc_rules_logic.specs.Back.Unfolded.{UnfoldsBack}
use Rattle.mc_rules_steps.specs.JudgedLaws as step
use Rattle.mc_rules_steps.specs.Judges.{stepping}
use Rattle.mc_rules_steps.specs.Steps.{StepIs}
use Rattle.mc_state.specs.Known.{Test, Tells, is_false}
use Rattle.mc_state.specs.Premises.{Judged, IsJudged, need, have, then_give}
use Rattle.mc_state.proofs.Numbered.{need_ok, need_yes, have_ok, have_yes, then_ok, given_once, given_not_unmet, given_or_unmet}
use Rattle.mc_state.proofs.Tests.{and_both, and_yes, not_yes, not_no, not_false, is_sound, false_told}
use Rattle.mc_state.specs.declared.goal.Goal.{Goal}
use Rattle.mc_state.specs.declared.line.Form.{Form}
use Rattle.mc_state.specs.declared.line.Form.TheVariants.{Certificate, Chain}
use Rattle.mc_state.specs.State.{State}
use Rattle.mc_state.specs.Facts.{IsFalse}
use Rattle.mc_kernel.specs.Branches.{Path, Setting, MayStep, MayCut, IsPlain, IsChain, closes_by, merged_goal, path_of, with_state, states_at}
use Rattle.mc_kernel.specs.Instances.{IsInstance, GoalNamesNot, EndsFalse, EndsSide, JumpsTo, IsStuck, accessed}
use Rattle.mc_kernel.specs.Judges.{Knowledge, is_plain, is_cut, may_step, may_cut, is_chain, may_stick, by_step, by_unfolding, by_folding, by_logic, by_merging, and_need, is_one_of, goal_is_free, by_forgetting, ends, ending_false, stuck_at, jumping_to, judged_line}
use Rattle.mc_kernel.specs.JudgedLaws.{IsAsked, LinesAreJudged, LinesAreDetermined, UnmetIsNoLine, LinesAreDecided}
use Rattle.mc_kernel.proofs.JumpsJudged.{JumpsIn, jumping_judged}
use Rattle.mc_kernel.proofs.Lists.{contains_here, contains_later, contains_none}

-- the ties of all rules
pub record Ties : Type 0 where
  pub steps : step.StepsAreJudged
  pub ind : opening.IndIsJudged
  pub seg : opening.SegIsJudged
  pub back : back.BackIsJudged
  pub fold_ind : fold.FoldIndIsJudged
  pub fold_seg : fold.FoldSegIsJudged
  pub close : fold.CloseSegIsJudged
  pub join : fold.JoinSegsIsJudged
  pub empty_seg : fold.EmptySegIsJudged
  pub spare : fold.SpareIsJudged
  pub merge : fold.MergeIsJudged
  pub drop_edge : fold.DropIsJudged
  pub forget : fold.ForgetIsJudged
  pub goal : fold.GoalIsJudged

-- ---- premises in front of a judge, and what comes of it

-- a test that holds exactly where this is so
abbrev Says : Bool → Type 0 → Type 0
Says test P = (test ≡ true) ↔ P

tie_need : {A : Type 0} (k : ℕ) (test : Bool) (P : Type 0) (j : Judged A) (I : A → Type 0) → Says test P → IsJudged j I → IsJudged (need k test j) (λ a. P × I a)
tie_need k test P j I says tie a = (
  λ e. let both = need_ok k test j a e in (says.0 both.0, (tie a).0 both.1),
  λ i. need_yes k test j (says.1 i.0) ∙ (tie a).1 i.1,
)

tie_then : {A B : Type 0} (f : A → B) (j : Judged A) (I : A → Type 0) → IsJudged j I → IsJudged (then_give f j) (λ b. (a : A) × I a × (b ≡ f a))
tie_then f j I tie b = (
  λ e. let given = then_ok f j b e in (given.0, (tie given.0).0 given.1, given.2),
  λ i. ap (then_give f) ((tie i.0).1 i.1) ∙ ap (λ b. Ok b) (sym i.2),
)

tie_and : {A : Type 0} (k : ℕ) (test : Bool) (P : Type 0) (j : Judged A) (I : A → Type 0) → Says test P → IsJudged j I → IsJudged (and_need k test j) (λ a. P × I a)
tie_and k test P (Ok x) I says tie a = (
  λ e. let both = need_ok k test (Ok x) a e in (says.0 both.0, (tie a).0 both.1),
  λ i. need_yes k test (Ok x) (says.1 i.0) ∙ (tie a).1 i.1,
)
tie_and k test P (Err x) I says tie a = (λ e. absurd (cc e), λ i. absurd (cc ((tie a).1 i.1)))

-- the same judge of instances that are said in another way
tie_as : {A : Type 0} (j : Judged A) (I J : A → Type 0) → ((a : A) → I a ↔ J a) → IsJudged j I → IsJudged j J
tie_as j I J same tie a = (λ e. (same a).0 ((tie a).0 e), λ i. (tie a).1 ((same a).1 i))

-- ---- places

no_yes : (b : Bool) → Says (not b) (b ≡ false)
no_yes true = (λ e. absurd (cc e), λ e. absurd (cc e))
no_yes false = (λ e. refl, λ e. refl)

plain_says : (b : Path) → Says (is_plain b) (IsPlain b)
plain_says b = at b.goal
  where
    at : (o : Option Goal) → Says (not (is_some o)) (o ≡ None)
    at None = (λ e. refl, λ e. refl)
    at (Some goal) = (λ e. absurd (cc e), λ e. absurd (cc e))

same_point : (p q : PointId) → p.0 ≡ q.0 → p ≡ q
same_point p q e = ap (λ (n : ℕ). let r : PointId = record { 0 = n } in r) e

cut_from : (cuts : List PointId) (p : PointId) → is_cut cuts p ≡ true → Contains cuts p
cut_from [] p e = absurd (cc e)
cut_from (q ∷ cuts) p e = at (λ f. cut_from cuts p f) (q.0 == p.0) refl e
  where
    at : (is_cut cuts p ≡ true → Contains cuts p) → (here : Bool) → (q.0 == p.0) ≡ here → (here || is_cut cuts p) ≡ true → Contains (q ∷ cuts) p
    at rest true is e = subst (λ (r : PointId). Contains (q ∷ cuts) r) (same_point q p (eqb-true q.0 p.0 is)) (contains_here q cuts)
    at rest false is e = contains_later p q cuts (rest e)

contains_case : (cuts : List PointId) (p q : PointId) → Contains (q ∷ cuts) p → (q ≡ p) ⊎ Contains cuts p
contains_case cuts p q (zero, less, e) = inl e
contains_case cuts p q (suc i, less, e) = inr (i, omega arith, e)

cut_to : (cuts : List PointId) (p : PointId) → Contains cuts p → is_cut cuts p ≡ true
cut_to [] p c = absurd (contains_none p c)
cut_to (q ∷ cuts) p c = elim (contains_case cuts p q c) [
  | inl e ↦ let same : (q.0 == p.0) ≡ true = eq-eqb q.0 p.0 (ap (λ (r : PointId). r.0) e) in ap (λ (here : Bool). here || is_cut cuts p) same
  | inr rest ↦ more (q.0 == p.0) (cut_to cuts p rest)
]
  where
    more : (here : Bool) → is_cut cuts p ≡ true → (here || is_cut cuts p) ≡ true
    more true e = refl
    more false e = e

cut_says : (cuts : List PointId) (p : PointId) → Says (is_cut cuts p) (Contains cuts p)
cut_says cuts p = (cut_from cuts p, cut_to cuts p)

or_from : (a b : Bool) → (a || b) ≡ true → (a ≡ true) ⊎ (b ≡ true)
or_from true b e = inl refl
or_from false b e = inr e

or_left : (a b : Bool) → a ≡ true → (a || b) ≡ true
or_left a b e = ap (λ (x : Bool). x || b) e

or_right : (a b : Bool) → b ≡ true → (a || b) ≡ true
or_right true b e = refl
or_right false b e = e

step_says : (g : Setting) (b : Path) → Says (may_step g b) (MayStep g b)
step_says g b = (
  λ e.
      let last = and_both (is_plain b && not b.closing) (not (is_cut g.cuts b.point) || not b.moved) e in
      let front = and_both (is_plain b) (not b.closing) last.0 in
      record {
        plain = (plain_says b).0 front.0;
        open_still = (no_yes b.closing).0 front.1;
        before_cut = elim (or_from (not (is_cut g.cuts b.point)) (not b.moved) last.1) [
          | inl n ↦ inl (λ c. clash (is_cut g.cuts b.point) n (cut_to g.cuts b.point c))
          | inr n ↦ inr ((no_yes b.moved).0 n)
        ];
      },
  λ m.
      and_yes (is_plain b && not b.closing) (not (is_cut g.cuts b.point) || not b.moved)
      (and_yes (is_plain b) (not b.closing) ((plain_says b).1 m.plain) ((no_yes b.closing).1 m.open_still))
      (elim m.before_cut [
        | inl n ↦ or_left (not (is_cut g.cuts b.point)) (not b.moved) (not_yes (is_cut g.cuts b.point) (λ e. n (cut_from g.cuts b.point e)))
        | inr n ↦ or_right (not (is_cut g.cuts b.point)) (not b.moved) ((no_yes b.moved).1 n)
      ]),
)
  where
    clash : (x : Bool) → not x ≡ true → x ≡ true → ⊥
    clash true n e = cc n
    clash false n e = cc e

cut_place_says : (g : Setting) (b : Path) → Says (may_cut g b) (MayCut g b)
cut_place_says g b = (
  λ e.
      let last = and_both (is_plain b && is_cut g.cuts b.point) b.moved e in
      let front = and_both (is_plain b) (is_cut g.cuts b.point) last.0 in
      record { plain = (plain_says b).0 front.0; at_cut = cut_from g.cuts b.point front.1; has_moved = last.1 },
  λ m.
      and_yes (is_plain b && is_cut g.cuts b.point) b.moved
      (and_yes (is_plain b) (is_cut g.cuts b.point) ((plain_says b).1 m.plain) (cut_to g.cuts b.point m.at_cut)) m.has_moved,
)

chain_says : (form : Form) → Says (is_chain form) (form ≡ Chain)
chain_says Certificate = (λ e. absurd (cc e), λ e. absurd (cc e))
chain_says Chain = (λ e. refl, λ e. refl)

-- ---- goals

node_among_from : (n : NodeId) (ns : List NodeId) → is_one_of n ns ≡ true → Contains ns n
node_among_from n [] e = absurd (cc e)
node_among_from n (m ∷ ns) e = at (λ f. node_among_from n ns f) (m.0 == n.0) refl e
  where
    at : (is_one_of n ns ≡ true → Contains ns n) → (here : Bool) → (m.0 == n.0) ≡ here → (here || is_one_of n ns) ≡ true → Contains (m ∷ ns) n
    at rest true is e = subst (λ (r : NodeId). Contains (m ∷ ns) r) (ap (λ (j : ℕ). let r : NodeId = record { 0 = j } in r) (eqb-true m.0 n.0 is)) (contains_here m ns)
    at rest false is e = contains_later n m ns (rest e)

node_case : (ns : List NodeId) (n m : NodeId) → Contains (m ∷ ns) n → (m ≡ n) ⊎ Contains ns n
node_case ns n m (zero, less, e) = inl e
node_case ns n m (suc i, less, e) = inr (i, omega arith, e)

node_among_to : (n : NodeId) (ns : List NodeId) → Contains ns n → is_one_of n ns ≡ true
node_among_to n [] c = absurd (contains_none n c)
node_among_to n (m ∷ ns) c = elim (node_case ns n m c) [
  | inl e ↦ or_left (m.0 == n.0) (is_one_of n ns) (eq-eqb m.0 n.0 (ap (λ (r : NodeId). r.0) e))
  | inr rest ↦ or_right (m.0 == n.0) (is_one_of n ns) (node_among_to n ns rest)
]

free_says : (n : NodeId) (o : Option Goal) → Says (goal_is_free n o) (GoalNamesNot n o)
free_says n None = (λ e. tt, λ e. refl)
free_says n (Some goal) = (
  λ e. λ c. clash (is_one_of n (goal.at ∷ goal.args)) e (node_among_to n (goal.at ∷ goal.args) c),
  λ none. not_yes (is_one_of n (goal.at ∷ goal.args)) (λ e. none (node_among_from n (goal.at ∷ goal.args) e)),
)
  where
    clash : (x : Bool) → not x ≡ true → x ≡ true → ⊥
    clash true n e = cc n
    clash false n e = cc e

-- ---- lines

module _ (ties : Ties) (k : Knowledge) (flow : Flow) (defs : List Def) (g : Setting) (b : Path) (asked : IsAsked k flow defs b) where
  abbrev know : Test
  know = k.know b.state

  tells : Tells know b.state
  tells = asked.given.tells

  stepped : (rule : InstrRule) → IsJudged (by_step k flow g rule b) (λ next. MayStep g b × ((steps : _) × StepIs rule flow b.point b.state steps × (next ≡ map path_of steps)))
  stepped rule =
      tie_need 1 (may_step g b) (MayStep g b) (then_give (map path_of) (stepping know k.range flow rule b.point b.state)) (λ next. (steps : _) × StepIs rule flow b.point b.state steps × (next ≡ map path_of steps))
      (step_says g b)
      (tie_then (map path_of) (stepping know k.range flow rule b.point b.state) (StepIs rule flow b.point b.state) (ties.steps know k.range flow defs rule b.point b.state asked.given))

  unfolded_by : (j : Judged (List State)) (Rule : List State → Type 0) → IsJudged j Rule → IsJudged (by_unfolding j b) (λ next. (b.closing ≡ false) × ((states : List State) × Rule states × (next ≡ map (with_state b) states)))
  unfolded_by j Rule tie =
      tie_need 1 (not b.closing) (b.closing ≡ false) (then_give (map (with_state b)) j) (λ next. (states : List State) × Rule states × (next ≡ map (with_state b) states))
      (no_yes b.closing) (tie_then (map (with_state b)) j Rule tie)

  false_says : Says (is_false know) (IsFalse b.state)
  false_says = false_told know b.state tells

  ended_false : IsJudged (ending_false know b) (EndsFalse b)
  ended_false next = (
    λ e.
        let one = need_ok 1 (not b.closing) _ next e in
        let two = need_ok 2 (is_false know) _ next one.1 in
        let is : ◌≡◌ {A = List Path} [] next = cc two.1 in
        ((no_yes b.closing).0 one.0, false_says.0 two.0, sym is),
    λ i.
        let open_still : not b.closing ≡ true = (no_yes b.closing).1 i.0 in
        let wrong : is_false know ≡ true = false_says.1 i.1 in
        let gives : ◌≡◌ {A = Judged (List Path)} (Ok []) (Ok next) = ap (λ n. Ok n) (sym i.2) in
        rw open_still (rw wrong gives),
  )

  met : (edge : _) → IsJudged (have 1 b.goal (λ goal. then_give ends (meeting_goal know goal edge b.state))) (EndsSide edge b)
  met edge next = (
    λ e.
        let one = have_ok 1 b.goal _ next e in
        let given = then_ok ends (meeting_goal know one.0 edge b.state) next one.2 in
        record { goal = one.0; side = one.1; meets = (ties.goal know one.0 edge b.state tells given.0).0 given.1; gives = given.2 },
    λ i.
        have_yes 1 b.goal (λ goal. then_give ends (meeting_goal know goal edge b.state)) i.goal i.side
        ∙ ap (then_give ends) ((ties.goal know i.goal edge b.state tells tt).1 i.meets) ∙ ap (λ n. Ok n) (sym i.gives),
  )

  stuck_says : Says (may_stick g b) (IsChain g × IsPlain b × (b.closing ≡ false))
  stuck_says = (
    λ e.
        let last = and_both (is_chain g.form && is_plain b) (not b.closing) e in
        let front = and_both (is_chain g.form) (is_plain b) last.0 in
        ((chain_says g.form).0 front.0, (plain_says b).0 front.1, (no_yes b.closing).0 last.1),
    λ i.
        and_yes (is_chain g.form && is_plain b) (not b.closing)
        (and_yes (is_chain g.form) (is_plain b) ((chain_says g.form).1 i.0) ((plain_says b).1 i.1)) ((no_yes b.closing).1 i.2),
  )

  stuck : IsJudged (stuck_at k g b) (IsStuck flow defs g b)
  stuck next = (
    λ e.
        let one = need_ok 1 (may_stick g b) _ next e in
        let two = need_ok 2 (not (is_false know)) _ next one.1 in
        let three = have_ok 3 (k.gap b.point b.state) _ next two.1 in
        let place = stuck_says.0 one.0 in
        record { chain = place.0; plain = place.1; open_still = place.2; gap = three.0; unmet = (asked.gap three.0).0 three.1; gives = cc three.2 },
    λ i.
        let there : may_stick g b ≡ true = stuck_says.1 (i.chain, i.plain, i.open_still) in
        let fine : not (is_false know) ≡ true = is_sound know b.state tells i.unmet.consistent in
        let gap : k.gap b.point b.state ≡ Some i.gap = (asked.gap i.gap).1 i.unmet in
        rw there (rw fine (rw gap (ap (λ n. Ok n) (sym i.gives)))),
  )

  jumped : (j : ℕ) (images : List NodeId) (edges : _) → IsJudged (need 1 (may_cut g b) (jumping_to know (states_at b.point g.heads) j images edges b.state)) (JumpsTo g j images edges b)
  jumped j images edges =
      tie_as (need 1 (may_cut g b) (jumping_to know (states_at b.point g.heads) j images edges b.state))
      (λ next. MayCut g b × JumpsIn (states_at b.point g.heads) j images edges b.state next) (JumpsTo g j images edges b)
      (λ next. (
        λ i. record { may = i.0; consistent = i.1.consistent; head = i.1.head; there = i.1.there; jumps = i.1.jumps; gives = i.1.gives },
        λ i. (i.may, record { consistent = i.consistent; head = i.head; there = i.there; jumps = i.jumps; gives = i.gives }),
      ))
      (tie_need 1 (may_cut g b) (MayCut g b) (jumping_to know (states_at b.point g.heads) j images edges b.state) (JumpsIn (states_at b.point g.heads) j images edges b.state)
      (cut_place_says g b) (jumping_judged know (states_at b.point g.heads) j images edges b.state asked.given.made.bounded tells))

  -- what folding makes of the branch's states
  abbrev folded_path : State → Path
  folded_path s = record { point = b.point; state = s; goal = b.goal; moved = b.moved; closing = closes_by g.form b.goal b.closing }

  abbrev merged_path : NodeId → NodeId → State → Path
  merged_path keep gone s = record { point = b.point; state = s; goal = option_map (merged_goal keep gone) b.goal; moved = b.moved; closing = b.closing }

  folded_by : (j : Judged (List State)) (Rule : List State → Type 0) → IsJudged j Rule → IsJudged (by_folding j g b) (λ next. (states : List State) × Rule states × (next ≡ map folded_path states))
  folded_by j Rule tie = tie_then (map folded_path) j Rule tie

  logical_by : (j : Judged (List State)) (Rule : List State → Type 0) → IsJudged j Rule → IsJudged (by_logic j b) (λ next. (states : List State) × Rule states × (next ≡ map (with_state b) states))
  logical_by j Rule tie = tie_then (map (with_state b)) j Rule tie

  never : IsJudged {A = List Path} (Err 1) (λ next. ⊥)
  never next = (λ e. absurd (cc e), λ i. absurd i)

  line_at : (l : Line) → IsJudged (judged_line k flow defs g l b) (IsInstance flow defs g l b)
  line_at (line.Step rule) = stepped rule
  line_at (line.L1 edge) =
      unfolded_by (unfolding_ind know defs (accessed flow b) edge b.state) (UnfoldsInd defs (accessed flow b) edge b.state)
      (ties.ind know defs (accessed flow b) edge b.state asked.given.made.fits_defs tells)
  line_at (line.L2 edge) =
      unfolded_by (unfolding_seg know defs (accessed flow b) edge b.state) (UnfoldsSeg defs (accessed flow b) edge b.state)
      (ties.seg know defs (accessed flow b) edge b.state asked.given.made.fits_defs tells)
  line_at (line.L15 edge) =
      unfolded_by (unfolding_back know defs (accessed flow b) edge b.state) (UnfoldsBack defs (accessed flow b) edge b.state)
      (ties.back know defs (accessed flow b) edge b.state tells)
  line_at (line.L3 fold) =
      folded_by (folding_ind know defs fold b.state) (FoldsInd defs fold b.state)
      (ties.fold_ind know defs fold b.state asked.given.made.bounded tells)
  line_at (line.L4 fold) =
      folded_by (folding_seg know defs fold b.state) (FoldsSeg defs fold b.state)
      (ties.fold_seg know defs fold b.state asked.given.made.bounded tells)
  line_at (line.L5 first second) =
      folded_by (closing_seg know first second b.state) (ClosesSeg first second b.state) (ties.close know first second b.state asked.given.made.bounded tells)
  line_at (line.L6 first second) =
      folded_by (joining_segs know first second b.state) (JoinsSegs first second b.state) (ties.join know first second b.state asked.given.made.bounded tells)
  line_at (line.L7 pred at args stop ends) =
      folded_by (making_seg know defs pred at args stop ends b.state) (MakesEmptySeg defs pred at args stop ends b.state)
      (ties.empty_seg know defs pred at args stop ends b.state tells)
  line_at (line.L8 node add kind) =
      folded_by (naming_spare know node add kind b.state) (NamesSpare node add kind b.state) (ties.spare know node add kind b.state tells)
  line_at (line.L9 keep gone) =
      tie_then (map (merged_path keep gone)) (merging_nodes know keep gone b.state) (MergesNodes keep gone b.state) (ties.merge know keep gone b.state tells)
  line_at (line.L10 edge) =
      logical_by (dropping_edge know edge b.state) (DropsEdge edge b.state) (ties.drop_edge know edge b.state asked.given.made.bounded tells)
  line_at (line.L11 node) =
      tie_and 4 (goal_is_free node b.goal) (GoalNamesNot node b.goal) (by_logic (forgetting_node know (k.left b.state node) node b.state) b)
      (λ next. (states : List State) × ForgetsNode node b.state states × (next ≡ map (with_state b) states)) (free_says node b.goal)
      (logical_by (forgetting_node know (k.left b.state node) node b.state) (ForgetsNode node b.state) (ties.forget know (k.left b.state node) node b.state tells (asked.left node)))
  line_at line.L12 = ended_false
  line_at (line.L13 j images edges) = jumped j images edges
  line_at (line.L14 edge) = met edge
  line_at line.C1 = stuck
  line_at (line.Header version form) = never
  line_at (line.Cut p) = never
  line_at (line.Head p raw) = never
  line_at line.Pass = never
  line_at line.End = never
  line_at (line.C2 tries) = never
  line_at (line.C3 j steps) = never

pub lines_judged : Ties → LinesAreJudged
lines_judged ties k flow defs g l b asked = line_at ties k flow defs g b asked l

pub lines_determined : Ties → LinesAreDetermined
lines_determined ties k flow defs g l b next other asked i j =
    let tie = lines_judged ties k flow defs g l b asked in
    given_once (judged_line k flow defs g l b) next other ((tie next).1 i) ((tie other).1 j)

pub unmet_is_no_line : Ties → UnmetIsNoLine
unmet_is_no_line ties k flow defs g l b premise next asked e i =
    given_not_unmet (judged_line k flow defs g l b) next premise ((lines_judged ties k flow defs g l b asked next).1 i) e

pub lines_decided : Ties → LinesAreDecided
lines_decided ties k flow defs g l b asked = elim (given_or_unmet (judged_line k flow defs g l b)) [
  | inl given ↦ inl (given.0, (lines_judged ties k flow defs g l b asked given.0).0 given.1)
  | inr unmet ↦ inr unmet
]
