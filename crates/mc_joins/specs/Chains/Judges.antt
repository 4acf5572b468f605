-- What the lines of chains give, or the first premise that is unmet, and chains that are read line by line.
use Rattle.std.specs.Prelude.{◌==◌, ◌&&◌, ◌||◌, ◌++◌, not, ℕ, suc, Bool, true, false, List, [], ◌∷◌, Option, Some, None, Result, Ok, Err}
use Rattle.std.specs.Prelude.{is_none, is_some, length, nat_lt, option_and_then, slice_get, if◌then◌else◌}
use Rattle.std.specs.List.{list_all}
use Rattle.mc_base.specs.declared.ids.PointId.{PointId}
use Rattle.mc_base.specs.declared.plain.Atom.{Atom}
use Rattle.mc_lines.specs.declared.cert.line.Line.{Line}
use Rattle.mc_lines.specs.declared.cert.line.Line.TheVariants as line
use Rattle.mc_flow.specs.declared.defs.rules.Def.{Def}
use Rattle.mc_flow.specs.declared.graph.Flow.{Flow}
use Rattle.mc_state.specs.Known.{is_false}
use Rattle.mc_state.specs.Lists.{all_both}
use Rattle.mc_state.specs.Premises.{Judged, need, have, then_give}
use Rattle.mc_state.specs.declared.line.JoinStep.{JoinStep}
use Rattle.mc_state.specs.declared.raw_state.RawState.{RawState}
use Rattle.mc_state.specs.RawStates.{state_of}
use Rattle.mc_state.specs.State.{State}
use Rattle.mc_rules_steps.specs.Operands.{code_at}
use Rattle.mc_joins.specs.Same.Same.{anew}
use Rattle.mc_kernel.specs.Branches.{Head, Path, Setting, roots, states_at}
use Rattle.mc_kernel.specs.Judges.{Knowledge, may_cut, is_chain, is_cut, judged_line}
use Rattle.mc_kernel.specs.Readings.{has_all_heads, is_skip, comes_after, has_no_branch, first_branch, marked}
use Rattle.mc_joins.specs.Joinings.{Joining, begun, next_pair}
use Rattle.mc_joins.specs.Parts.{Basis}
use Rattle.mc_joins.specs.Steps.{after_steps, is_stuck}
use Rattle.mc_joins.specs.Whole.{result_of}
use Rattle.mc_joins.specs.Chains.Chains.{changes, over}
use Rattle.mc_joins.specs.Chains.InOrder.{in_order}
use Rattle.mc_joins.specs.Chains.Opened.{with_state_at, with_state_for}

-- what the lines of chains are judged by: what other lines are, which written states are well formed, which states are tidy, the
-- atoms that a whole join writes in a pass of a number, and which states are the same under some renaming
pub record Lore : Type 0 where
  pub lines : Knowledge
  pub formed : RawState → Bool
  pub tidy : State → Bool
  pub joint : ℕ → Joining → List Atom
  pub same : State → State → Bool

-- what joins are judged by
abbrev pub basis : Lore → List Def → Basis
basis k defs = record { know = k.lines.know; defs = defs }

-- ---- C2 and C3

-- a line that changes the states of a cut may stand here
abbrev pub may_change : Setting → Path → Bool
may_change g b = is_chain g.form && may_cut g b && not b.closing

-- the join, if the steps are a whole one
abbrev pub whole_join : Basis → State → State → List JoinStep → Option Joining
whole_join w left right steps =
    option_and_then (λ last. if is_none (next_pair last) then Some last else None) (after_steps w (begun left right) steps)

-- the steps are a legal prefix of a join, after which no step applies
abbrev pub gets_stuck : Basis → State → State → List JoinStep → Bool
gets_stuck w right left steps =
    is_some (option_and_then (λ last. if is_stuck w last then Some last else None) (after_steps w (begun left right) steps))

-- C2: the states of cuts with one more
abbrev pub opening_state : Lore → List Def → Setting → List (List JoinStep) → Path → Judged (List Head)
opening_state k defs g tries b =
    need 1 (may_change g b)
    (need 2 (not (is_false (k.lines.know b.state)))
    (need 3 (length tries == length (states_at b.point g.heads))
    (need 4 (k.tidy b.state && list_all k.tidy (states_at b.point g.heads))
    (need 5 (all_both (gets_stuck (basis k defs) b.state) (states_at b.point g.heads) tries)
    (Ok (with_state_at b.point (anew b.state) g.heads))))))

-- what a whole join gives in a pass
abbrev pub given_by : Lore → ℕ → State → State → Joining → State
given_by k round left right last = result_of left right last (k.joint round last)

-- C3: the states of cuts with what a whole join gives in place of one
abbrev pub joining_state : Lore → List Def → ℕ → Setting → ℕ → List JoinStep → Path → Judged (List Head)
joining_state k defs round g j steps b =
    need 1 (may_change g b)
    (need 2 (not (is_false (k.lines.know b.state)))
    (have 3 (slice_get (states_at b.point g.heads) j) (λ left.
    need 4 (k.tidy b.state && k.tidy left)
    (have 5 (whole_join (basis k defs) left b.state steps) (λ last.
    need 6 (not (k.same (given_by k round left b.state last) left))
    (Ok (with_state_for b.point j (given_by k round left b.state last) g.heads)))))))

-- ---- chains that are read line by line

-- how far a chain is read: its cuts, its heads, its passes, or the end
pub data Stage : Type 0 where
  cutting : Stage
  heading : Stage
  passing : Stage
  finished : Stage

-- a chain of which some lines are read: its cuts, the states of cuts as they are, the number of its last pass, the
-- branches that are open in it, those that are stuck, and whether a line of it has changed the states of cuts
pub record Reading : Type 0 where
  pub stage : Stage
  pub cuts : List PointId
  pub heads : List Head
  pub round : ℕ
  pub branches : List Path
  pub stuck : List Path
  pub changed : Bool

-- a chain of which nothing but the header is read
abbrev pub begun_chain : Reading
begun_chain = record { stage = cutting; cuts = []; heads = []; round = 0; branches = []; stuck = []; changed = false }

-- its cuts are still read
abbrev pub is_cutting : Stage → Bool
is_cutting cutting = true
is_cutting heading = false
is_cutting passing = false
is_cutting finished = false

-- its passes are
abbrev pub is_passing : Stage → Bool
is_passing cutting = false
is_passing heading = false
is_passing passing = true
is_passing finished = false

-- a cut: a Skip point, greater than the cut before
abbrev pub reading_cut : Flow → PointId → Reading → Judged Reading
reading_cut flow p r =
    need 1 (is_cutting r.stage)
    (need 3 (is_skip (code_at flow p))
    (need 4 (comes_after r.cuts p)
    (Ok (record r { cuts = r.cuts ++ p ∷ [] }))))

-- a head may stand here: after the cuts, among which are all loop heads, and before the passes
abbrev pub may_head : Flow → Reading → Stage → Bool
may_head flow r cutting = has_all_heads flow r.cuts
may_head flow r heading = true
may_head flow r passing = false
may_head flow r finished = false

-- the point is not before that of the last state of a cut
abbrev pub stands_behind : List Head → PointId → Bool
stands_behind [] p = true
stands_behind (h ∷ []) p = nat_lt h.0.0 (suc p.0)
stands_behind (h ∷ i ∷ heads) p = stands_behind (i ∷ heads) p

-- a head: at a cut, not less than the head before, with a well-formed state, which becomes the last state of the cut
abbrev pub reading_head : Lore → Flow → PointId → RawState → Reading → Judged Reading
reading_head k flow p raw r =
    need 1 (may_head flow r r.stage)
    (need 3 (is_cut r.cuts p && stands_behind r.heads p)
    (need 4 (k.formed raw)
    (Ok (record r { stage = heading; heads = r.heads ++ (p, state_of raw) ∷ [] }))))

-- a pass may stand here: after the cuts, among which are all loop heads, after the heads, or after another pass
abbrev pub may_pass : Flow → Reading → Stage → Bool
may_pass flow r cutting = has_all_heads flow r.cuts
may_pass flow r heading = true
may_pass flow r passing = true
may_pass flow r finished = false

-- a pass: no branch is open, and the pass before, if there is one, has changed the states of cuts
abbrev pub reading_pass : Flow → Reading → Judged Reading
reading_pass flow r =
    need 1 (may_pass flow r r.stage)
    (need 3 (has_no_branch r.branches && (not (is_passing r.stage) || r.changed))
    (Ok (record r { stage = passing; round = suc r.round; branches = roots flow r.heads; stuck = []; changed = false })))

-- the end: after a pass, and no branch is open
abbrev pub reading_end : Reading → Judged Reading
reading_end r = need 1 (is_passing r.stage) (need 3 (has_no_branch r.branches) (Ok (record r { stage = finished })))

-- the branches that come of a line, and the states of cuts then
pub record Outcome : Type 0 where
  pub next : List Path
  pub heads : List Head

-- what a line of a pass gives at a branch, over the states of cuts as they are
abbrev pub passing_line : Lore → Flow → List Def → ℕ → Setting → Line → Path → Judged Outcome
passing_line k flow defs round g (line.C2 tries) b =
    then_give (λ heads. record { next = []; heads = heads }) (opening_state k defs g tries b)
passing_line k flow defs round g (line.C3 j steps) b =
    then_give (λ heads. record { next = []; heads = heads }) (joining_state k defs round g j steps b)
passing_line k flow defs round g l b =
    then_give (λ next. record { next = next; heads = g.heads }) (judged_line k.lines flow defs g l b)

-- a rule line: at the first open branch of a pass, in whose place its successors come
abbrev pub reading_rule : Lore → Flow → List Def → Line → Reading → Judged Reading
reading_rule k flow defs l r =
    need 1 (is_passing r.stage)
    (have 1 (first_branch r.branches) (λ b.
    then_give (λ out. record r {
      heads = out.heads;
      branches = out.next ++ b.1;
      stuck = r.stuck ++ marked l b.0;
      changed = r.changed
          || changes l;
    })
    (passing_line k flow defs r.round (over r.cuts r.heads) l b.0)))

-- what a chain becomes by a line, or the first premise of the line that is unmet
abbrev pub reading_line : Lore → Flow → List Def → Line → Reading → Judged Reading
reading_line k flow defs (line.Header version form) r = Err 1
reading_line k flow defs (line.Cut p) r = reading_cut flow p r
reading_line k flow defs (line.Head p raw) r = reading_head k flow p raw r
reading_line k flow defs line.Pass r = reading_pass flow r
reading_line k flow defs line.End r = reading_end r
reading_line k flow defs l r = reading_rule k flow defs l r

-- what a chain becomes by lines that are numbered from one on, or the number of the first refused one with its first
-- unmet premise
abbrev pub reading_lines : Lore → Flow → List Def → ℕ → List Line → Reading → Result Reading (ℕ × ℕ)
reading_lines k flow defs = in_order (reading_line k flow defs)

-- what becomes of a chain by the lines after its header
abbrev pub reading_chain : Lore → Flow → List Def → List Line → Result Reading (ℕ × ℕ)
reading_chain k flow defs lines = reading_lines k flow defs 2 lines begun_chain

-- what is said of a chain whose lines were read to the end
pub data Verdict : Type 0 where
  alarms : ℕ → Verdict
  no_alarm : Verdict
  unfinished : Verdict
  ends_early : Verdict

-- by the number of branches that are stuck
abbrev pub verdict_by : List Path → Verdict
verdict_by [] = no_alarm
verdict_by (b ∷ bs) = alarms (suc (length bs))

-- the chain has ended or not
abbrev pub verdict_at : Stage → Reading → Verdict
verdict_at cutting r = ends_early
verdict_at heading r = ends_early
verdict_at passing r = ends_early
verdict_at finished r = if r.changed then unfinished else verdict_by r.stuck

-- what is said of a chain that was read so far
abbrev pub verdict_of : Reading → Verdict
verdict_of r = verdict_at r.stage r
