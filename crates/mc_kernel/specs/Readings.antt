-- Documents that are read line by line, up to the first line that is refused.
use Rattle.std.specs.Prelude.{◌≡◌, ◌==◌, ◌&&◌, ◌++◌, not, ℕ, suc, nat_lt, Bool, true, false, List, [], ◌∷◌, Option, Some, None, Result, Ok, Err, if◌then◌else◌}
use Rattle.std.specs.List.{list_all}
use Rattle.mc_base.specs.declared.ids.PointId.{PointId}
use Rattle.mc_lines.specs.declared.cert.line.Line.{Line}
use Rattle.mc_lines.specs.declared.cert.line.Line.TheVariants as line
use Rattle.mc_flow.specs.declared.defs.rules.Def.{Def}
use Rattle.mc_flow.specs.declared.graph.Flow.{Flow}
use Rattle.mc_flow.specs.declared.graph.Point.{Point}
use Rattle.mc_flow.specs.declared.instr.Instr.{Instr}
use Rattle.mc_flow.specs.declared.instr.Instr.TheVariants as instr
use Rattle.mc_state.specs.Premises.{Judged, need, have, then_give}
use Rattle.mc_state.specs.declared.line.Form.{Form}
use Rattle.mc_state.specs.declared.line.Form.TheVariants.{Certificate, Chain}
use Rattle.mc_state.specs.declared.raw_state.RawState.{RawState}
use Rattle.mc_rules_steps.specs.Operands.{code_at}
use Rattle.mc_kernel.specs.Branches.{Path, Setting, roots}
use Rattle.mc_kernel.specs.Certificates.{WrittenHead, states_of}
use Rattle.mc_kernel.specs.Judges.{Knowledge, is_cut, is_chain, judged_line}

-- how far a document is read: its cuts, its heads, its rule lines, or the end
pub data Stage : Type 0 where
  cutting : Stage
  heading : Stage
  ruling : Stage
  finished : Stage

-- a document of which some lines are read: its form, how far it is read, its cuts, its heads, the branches that are open,
-- the first of them first, and those that are stuck
pub record Reading : Type 0 where
  pub form : Form
  pub stage : Stage
  pub cuts : List PointId
  pub heads : List WrittenHead
  pub branches : List Path
  pub stuck : List Path

-- a document of which nothing but the header is read
abbrev pub begun : Form → Reading
begun form = record { form = form; stage = cutting; cuts = []; heads = []; branches = []; stuck = [] }

-- what its lines are judged by
abbrev pub setting_of : Reading → Setting
setting_of r = record { form = r.form; cuts = r.cuts; heads = states_of r.heads }

-- its cuts are still read
abbrev pub is_cutting : Stage → Bool
is_cutting cutting = true
is_cutting heading = false
is_cutting ruling = false
is_cutting finished = false

-- its rule lines are read
abbrev pub is_ruling : Stage → Bool
is_ruling cutting = false
is_ruling heading = false
is_ruling ruling = true
is_ruling finished = false

-- every loop head is a cut
abbrev pub has_all_heads : Flow → List PointId → Bool
has_all_heads flow cuts = list_all (is_cut cuts) flow.heads

-- ---- the document with its rule lines begun, where they may begin

-- with these branches
abbrev pub ruled : Reading → List Path → Reading
ruled r branches = record r { stage = ruling; branches = branches }

-- a certificate with its roots open
abbrev pub rooted : Flow → Reading → Form → Option Reading
rooted flow r Certificate = if has_all_heads flow r.cuts then Some (ruled r (roots flow (states_of r.heads))) else None
rooted flow r Chain = None

-- a certificate begins with its roots after its cuts and heads; a chain has begun by its pass
abbrev pub ready : Flow → Reading → Stage → Option Reading
ready flow r cutting = rooted flow r r.form
ready flow r heading = rooted flow r r.form
ready flow r ruling = Some r
ready flow r finished = None

-- ---- cuts and heads

-- the instruction is a Skip
abbrev pub is_skip : Option Instr → Bool
is_skip (Some (instr.Skip q)) = true
is_skip other = false

-- the point is after the last of a list
abbrev pub comes_after : List PointId → PointId → Bool
comes_after [] p = true
comes_after (q ∷ []) p = nat_lt q.0 p.0
comes_after (q ∷ r ∷ cuts) p = comes_after (r ∷ cuts) p

-- the point is not before that of the last head
abbrev pub stands_after : List WrittenHead → PointId → Bool
stands_after [] p = true
stands_after (h ∷ []) p = nat_lt h.0.0 (suc p.0)
stands_after (h ∷ i ∷ heads) p = stands_after (i ∷ heads) p

-- a cut: a Skip point, greater than the cut before
abbrev pub reading_cut : Flow → PointId → Reading → Judged Reading
reading_cut flow p r =
    need 1 (is_cutting r.stage)
    (need 3 (is_skip (code_at flow p))
    (need 4 (comes_after r.cuts p)
    (Ok (record r { cuts = r.cuts ++ p ∷ [] }))))

-- a head may stand here: after the cuts, among which are all loop heads, and before the lines of rules
abbrev pub may_head : Flow → Reading → Stage → Bool
may_head flow r cutting = has_all_heads flow r.cuts
may_head flow r heading = true
may_head flow r ruling = false
may_head flow r finished = false

-- a head: at a cut, not less than the head before, with a well-formed state
abbrev pub reading_head : (RawState → Bool) → Flow → PointId → RawState → Reading → Judged Reading
reading_head well flow p raw r =
    need 1 (may_head flow r r.stage)
    (need 3 (is_cut r.cuts p && stands_after r.heads p)
    (need 4 (well raw)
    (Ok (record r { stage = heading; heads = r.heads ++ (p, raw) ∷ [] }))))

-- ---- passes and the end

-- a pass may stand here
abbrev pub may_pass : Flow → Reading → Stage → Bool
may_pass flow r cutting = is_chain r.form && has_all_heads flow r.cuts
may_pass flow r heading = is_chain r.form && has_all_heads flow r.cuts
may_pass flow r ruling = is_chain r.form
may_pass flow r finished = false

-- a pass opens the entry and the heads; a second one would need a pass before it that changed the states of cuts, and none does yet
abbrev pub reading_pass : Flow → Reading → Judged Reading
reading_pass flow r =
    need 1 (may_pass flow r r.stage) (need 3 (not (is_ruling r.stage)) (Ok (ruled r (roots flow (states_of r.heads)))))

-- no branch is open
abbrev pub has_no_branch : List Path → Bool
has_no_branch [] = true
has_no_branch (b ∷ bs) = false

-- the end: no branch is open
abbrev pub reading_end : Flow → Reading → Judged Reading
reading_end flow r = have 1 (ready flow r r.stage) (λ t. need 3 (has_no_branch t.branches) (Ok (record t { stage = finished })))

-- ---- rule lines

-- the first open branch, and those after it
abbrev pub first_branch : List Path → Option (Path × List Path)
first_branch [] = None
first_branch (b ∷ bs) = Some (b, bs)

-- the branch, if the line marks it as stuck
abbrev pub marked : Line → Path → List Path
marked line.C1 b = b ∷ []
marked other b = []

-- a rule line: at the first open branch, in whose place its successors come
abbrev pub reading_rule : Knowledge → Flow → List Def → Line → Reading → Judged Reading
reading_rule k flow defs l r =
    have 1 (ready flow r r.stage) (λ t.
    have 1 (first_branch t.branches) (λ b.
    then_give (λ next. record t { branches = next ++ b.1; stuck = t.stuck ++ marked l b.0 })
    (judged_line k flow defs (setting_of t) l b.0)))

-- what a document becomes by a line, or the first premise of the line that is unmet
abbrev pub reading_line : Knowledge → (RawState → Bool) → Flow → List Def → Line → Reading → Judged Reading
reading_line k well flow defs (line.Header version form) r = Err 1
reading_line k well flow defs (line.Cut p) r = reading_cut flow p r
reading_line k well flow defs (line.Head p raw) r = reading_head well flow p raw r
reading_line k well flow defs line.Pass r = reading_pass flow r
reading_line k well flow defs line.End r = reading_end flow r
reading_line k well flow defs l r = reading_rule k flow defs l r

-- what comes of the lines after a line; or the line's number and its first premise that is unmet
abbrev pub behind : ℕ → Judged Reading → (Reading → Result Reading (ℕ × ℕ)) → Result Reading (ℕ × ℕ)
behind number (Ok r) rest = rest r
behind number (Err k) rest = Err (number, k)

-- what a document becomes by lines that are numbered from one on, or the number of the first refused one with its first unmet premise
abbrev pub reading_lines : Knowledge → (RawState → Bool) → Flow → List Def → ℕ → List Line → Reading → Result Reading (ℕ × ℕ)
reading_lines k well flow defs number [] r = Ok r
reading_lines k well flow defs number (l ∷ lines) r =
    behind number (reading_line k well flow defs l r) (reading_lines k well flow defs (suc number) lines)
