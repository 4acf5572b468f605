-- Marked alarms are those of exact branches, and in closed programs every alarm is marked.
use Rattle.std.proofs.Common.{◌≡◌, ◌<◌, ◌≤◌, ◌+◌, ◌*◌, ℕ, zero, suc, pos, Bool, true, false, Option, Some, None, List, [], ◌∷◌, map, length, if◌then◌else◌, refl, sym, subst, arith, inl, inr}
use Rattle.std.specs.List.{AllByRecursion}
use Rattle.mc_base.specs.declared.ids.NodeId.{NodeId}
use Rattle.mc_base.specs.declared.ids.PredId.{PredId}
use Rattle.mc_base.specs.declared.plain.Kind.TheVariants.{Ptr}
use Rattle.mc_flow.specs.declared.defs.rules.Def.{Def}
use Rattle.mc_flow.specs.declared.graph.Flow.{Flow}
use Rattle.mc_flow.specs.declared.instr.Instr.{Instr}
use Rattle.mc_flow.specs.declared.instr.Instr.TheVariants as instr
use Rattle.mc_flow.specs.Valid.{IsValid}
use Rattle.mc_pure.specs.Pure.{HasKind}
use Rattle.mc_state.specs.Fits.{NodesAscend}
use Rattle.mc_state.specs.Known.{Test, Tells, equal}
use Rattle.mc_state.specs.State.{State}
use Rattle.mc_state.proofs.Lists.{all_append}
use Rattle.mc_rules_steps.specs.declared.gap.Gap.{Gap}
use Rattle.mc_rules_steps.specs.declared.gap.Gap.TheVariants.{NoShape}
use Rattle.mc_rules_steps.specs.Operands.{code_at}
use Rattle.mc_rules_steps.specs.Unmet.{IsGap, IsUnmet}
use Rattle.mc_lines.specs.declared.cert.line.Line.{Line}
use Rattle.mc_lines.specs.declared.cert.line.Line.TheVariants as line
use Rattle.mc_kernel.specs.Branches.{Path, Setting, IsPlain}
use Rattle.mc_kernel.specs.Instances.{IsInstance}
use Rattle.mc_kernel.specs.Oracle.Judges.{JudgesAreThere}
use Rattle.mc_kernel.specs.Progress.Progress.{advances}
use Rattle.mc_exact.specs.Exact as rule
use Rattle.mc_exact.specs.Exact.{Picks, IsExactBranch}
use Rattle.mc_exact.specs.Least.{least_from}
use Rattle.mc_exact.specs.Marks.{Alarm, Branch, ClosedAlarmsAreMarked, IsMark, IsMarked, IsRightAlarm, IsShape, MarksAreExact, Tracked, alone, entry, followed, inexact, keeps_exact, ruled, stuck}
use Rattle.mc_exact.specs.Real.{IsShort, answered}
use Rattle.mc_exact.specs.Tracks.{AsksMallocAlone, IsExactTrack, Track, tracked}
use Rattle.mc_exact.proofs.LowerLaws.{RunLaws, StateLaws}
use Rattle.mc_exact.proofs.Plain.{below}
use Rattle.mc_exact.proofs.Real.{MayPoint, picks_point, point_inside}
use Rattle.mc_exact.proofs.Short.{branch_short}
use Rattle.mc_exact.proofs.Tracks.{asks_at, branch_blocks, exact_step, no_edge, step_keeps}
use Rattle.mc_exact.proofs.Whole.{branch_good}

-- ---- the answers are small

least_small : (know : Test) (n : NodeId) (m k : ℕ) → least_from know n m k ≤ m + k
least_small know n m zero = omega arith
least_small know n m (suc k) = by (least_small know n (suc m) k) (equal know n (record { 0 = m }))
  where
    by : least_from know n (suc m) k ≤ suc m + k → (b : Bool) → (if b then m else least_from know n (suc m) k) ≤ m + suc k
    by le true = omega arith
    by le false = omega arith

module _ (flow : Flow) (know : Test) (s : State) (few : s.next ≤ 30001) (up : NodesAscend 1 s.kinds s.next) where
  node_small : (n : NodeId) → HasKind s.kinds Ptr n → n.0 ≤ 30000
  node_small n (inl is) = subst (λ (m : NodeId). m.0 ≤ 30000) (sym is) (omega arith)
  node_small n (inr e) = (let l = below 1 s.kinds s.next n Ptr up e in omega arith)

  all_small : (picks : Picks) → AllByRecursion (MayPoint flow s) picks → AllByRecursion (λ n. n ≤ 30000) (map (answered know) picks)
  all_small [] all = tt
  all_small (None ∷ picks) all = (omega arith, all_small picks all.1)
  all_small (Some n ∷ picks) all = ((let le = least_small know n 0 n.0 in let l = node_small n all.0 in omega arith), all_small picks all.1)

module _ (flow : Flow) (defs : List Def) where
  -- ---- marked alarms are exact

  abbrev IsGood : Branch → Type 0
  IsGood (b, None) = Unit {0}
  IsGood (b, Some picks) = IsExactTrack flow (b, picks)

  inexact_good : (next' : List Path) → AllByRecursion IsGood (inexact next')
  inexact_good [] = tt
  inexact_good (b ∷ next') = (tt, inexact_good next')

  exact_good : (ts : List Track) → AllByRecursion (IsExactTrack flow) ts → AllByRecursion IsGood (map (λ t. (t.0, Some t.1)) ts)
  exact_good [] all = tt
  exact_good (t ∷ ts) all = (all.0, exact_good ts all.1)

  exact_line : (g : Setting) (l : Line) (b : Path) (next' : List Path) (picks : Picks) → keeps_exact l ≡ true → IsExactBranch flow b.point b.state picks
      → IsInstance flow defs g l b next' → AllByRecursion (IsExactTrack flow) (tracked l b.state picks next')
  exact_line g (line.Step r) b next' picks e branch i = exact_step flow g r b next' picks e branch i
  exact_line g other b next' picks e branch i = absurd cc

  followed_good : (g : Setting) (l : Line) (b : Branch) (next' : List Path) → IsGood b → IsInstance flow defs g l b.0 next' → AllByRecursion IsGood (followed l b next')
  followed_good g l (b, None) next' good i = inexact_good next'
  followed_good g l (b, Some picks) next' good i = by (keeps_exact l) refl
    where
      by : (k : Bool) → keeps_exact l ≡ k → AllByRecursion IsGood (if k then map (λ t. (t.0, Some t.1)) (tracked l b.state picks next') else inexact next')
      by true e = exact_good (tracked l b.state picks next') (exact_line g l b next' picks e good.1 i)
      by false e = inexact_good next'

  module _ (valid : IsValid flow defs) (size : IsShort flow) (runs : RunLaws) (states : StateLaws) (judges : JudgesAreThere) where
    small : (b : Path) (picks : Picks) (answers : List ℕ) (gap : Gap) → IsExactTrack flow (b, picks) → IsUnmet flow defs b.point b.state gap
        → ((know : Test) → Tells know b.state → answers ≡ map (answered know) picks) → AllByRecursion (λ n. n ≤ 30000) answers
    small b picks answers gap track unmet are =
        let g = branch_good flow defs valid states track.1 in
        let inside : b.point.0 < length flow.points = point_inside flow b.point unmet.code unmet.at in
        let next' : b.state.next ≤ 1 + 3 * b.point.0 = (branch_short flow defs valid size.no_loops runs (λ m. pos m) track.1).1 in
        let few = size.few in
        let one = judges flow defs valid in
        let know = one.0.know b.state in
        subst (λ (ns : List ℕ). AllByRecursion (λ n. n ≤ 30000) ns) (sym (are know (one.2.asked b g.made).given.tells))
        (all_small flow know b.state (omega arith) g.plain.ascend picks (picks_point flow defs valid states track.1))

    right : (b : Branch) (gap : Gap) (mark : Option (List ℕ)) → IsGood b → IsUnmet flow defs b.0.point b.0.state gap → IsMark b.0.state b.1 gap mark
        → IsRightAlarm flow defs (b.0, mark)
    right (b, None) gap None good unmet m = tt
    right (b, None) gap (Some answers) good unmet m = absurd (cc m)
    right (b, Some picks) gap None good unmet m = tt
    right (b, Some picks) gap (Some answers) good unmet m = record {
      picks = picks;
      track = good;
      gap = gap;
      unmet = unmet;
      other = m.0;
      answers_are = m.1;
      small = small b picks answers gap good unmet m.1;
    }

    alarms_right : {lines : List Line} {is_open : List Branch} {alarms : List Alarm} → Tracked flow defs lines is_open alarms
        → AllByRecursion IsGood is_open × AllByRecursion (IsRightAlarm flow defs) alarms
    alarms_right entry = (((refl, rule.entry), tt), tt)
    alarms_right (ruled {lines} {others} {alarms} l b next' before adv i) =
        let h = alarms_right before in
        (all_append IsGood (followed l b next') others (followed_good alone l b next' h.0.0 i) h.0.1, h.1)
    alarms_right (stuck {lines} {others} {alarms} b next' gap mark before i unmet m) =
        let h = alarms_right before in
        (h.0.1, all_append (IsRightAlarm flow defs) alarms ((b.0, mark) ∷ []) h.1 (right b gap mark h.0.0 unmet m, tt))

  -- ---- where malloc alone is asked for

  abbrev IsExactOne : Branch → Type 0
  IsExactOne (b, None) = ⊥
  IsExactOne (b, Some picks) = IsExactTrack flow (b, picks)

  all_exact : (ts : List Track) → AllByRecursion (IsExactTrack flow) ts → AllByRecursion IsExactOne (map (λ t. (t.0, Some t.1)) ts)
  all_exact [] all = tt
  all_exact (t ∷ ts) all = (all.0, all_exact ts all.1)

  module _ (asks : AsksMallocAlone flow) where
    line_exact : (g : Setting) (l : Line) (b : Path) (next' : List Path) (picks : Picks) → advances l ≡ true → IsExactBranch flow b.point b.state picks
        → IsInstance flow defs g l b next' → AllByRecursion IsExactOne (followed l (b, Some picks) next')
    line_exact g (line.Step r) b next' picks adv branch i =
        let keeps = step_keeps flow g r b next' picks asks i in
        subst (λ (k : Bool). AllByRecursion IsExactOne (if k then map (λ t. (t.0, Some t.1)) (tracked (line.Step r) b.state picks next') else inexact next')) (sym keeps)
        (all_exact (tracked (line.Step r) b.state picks next') (exact_step flow g r b next' picks keeps branch i))
    line_exact g (line.L1 id) b next' picks adv branch i = absurd (no_edge flow b.state.graph.edges id _ (branch_blocks flow branch) i.1.1.there)
    line_exact g (line.L2 id) b next' picks adv branch i = absurd (no_edge flow b.state.graph.edges id _ (branch_blocks flow branch) i.1.1.there)
    line_exact g (line.L15 id) b next' picks adv branch i = absurd (no_edge flow b.state.graph.edges id _ (branch_blocks flow branch) i.1.1.there)
    line_exact g line.L12 b next' picks adv branch i = subst (λ (bs : List Path). AllByRecursion IsExactOne (inexact bs)) (sym i.2) tt
    line_exact g other b next' picks adv branch i = absurd cc

    followed_exact : (g : Setting) (l : Line) (b : Branch) (next' : List Path) → IsExactOne b → (IsPlain b.0 → advances l ≡ true) → IsInstance flow defs g l b.0 next'
        → AllByRecursion IsExactOne (followed l b next')
    followed_exact g l (b, None) next' exact adv i = absurd exact
    followed_exact g l (b, Some picks) next' exact adv i = line_exact g l b next' picks (adv exact.0) exact.1 i

    no_shape : (b : Path) (gap : Gap) → IsUnmet flow defs b.point b.state gap → IsShape gap → ⊥
    no_shape b gap unmet shape = by shape.0 shape.1 unmet.code unmet.at (subst (λ (z : Gap). IsGap defs unmet.code b.state z) shape.2 unmet.lacks)
      where
        by : (pred : PredId) (n : NodeId) (code : Instr) → code_at flow b.point ≡ Some code → IsGap defs code b.state (NoShape pred n) → ⊥
        by pred n (instr.AssertShape own o os q) is h = asks_at flow asks b.point (instr.AssertShape own o os q) is
        by pred n other is h = h.1

    mark_there : (b : Branch) (gap : Gap) (mark : Option (List ℕ)) → IsExactOne b → IsUnmet flow defs b.0.point b.0.state gap → IsMark b.0.state b.1 gap mark
        → IsMarked (b.0, mark)
    mark_there (b, None) gap mark exact unmet m = absurd exact
    mark_there (b, Some picks) gap None exact unmet m = no_shape b gap unmet m
    mark_there (b, Some picks) gap (Some answers) exact unmet m = tt

    alarms_marked : {lines : List Line} {is_open : List Branch} {alarms : List Alarm} → Tracked flow defs lines is_open alarms
        → AllByRecursion IsExactOne is_open × AllByRecursion IsMarked alarms
    alarms_marked entry = (((refl, rule.entry), tt), tt)
    alarms_marked (ruled {lines} {others} {alarms} l b next' before adv i) =
        let h = alarms_marked before in
        (all_append IsExactOne (followed l b next') others (followed_exact alone l b next' h.0.0 adv i) h.0.1, h.1)
    alarms_marked (stuck {lines} {others} {alarms} b next' gap mark before i unmet m) =
        let h = alarms_marked before in
        (h.0.1, all_append IsMarked alarms ((b.0, mark) ∷ []) h.1 (mark_there b gap mark h.0.0 unmet m, tt))

pub marks_are_exact : RunLaws → StateLaws → JudgesAreThere → MarksAreExact
marks_are_exact runs states judges flow defs lines alarms valid size marked = (alarms_right flow defs valid size runs states judges marked.ends).1

pub closed_alarms_are_marked : ClosedAlarmsAreMarked
closed_alarms_are_marked flow defs lines alarms asks marked = (alarms_marked flow defs asks marked.ends).1
