-- Lines, read where a document stands.
use Rattle.std.specs.Prelude.{◌≡◌, ◌&&◌, ◌+◌, ◌++◌, ◌↔◌, not, ℕ, suc, Bool, true, false, List, [], ◌∷◌, Result, Ok, Err, nat_lt}
use Rattle.mc_base.specs.declared.ids.PointId.{PointId}
use Rattle.mc_lines.specs.declared.cert.line.Line.{Line}
use Rattle.mc_lines.specs.declared.cert.line.Line.TheVariants as line
use Rattle.mc_flow.specs.declared.defs.rules.Def.{Def}
use Rattle.mc_flow.specs.declared.graph.Flow.{Flow}
use Rattle.mc_state.specs.Premises.{Judged, need, have, then_give}
use Rattle.mc_state.specs.declared.line.Form.{Form}
use Rattle.mc_state.specs.declared.line.Form.TheVariants.{Certificate, Chain}
use Rattle.mc_state.specs.declared.raw_state.RawState.{RawState}
use Rattle.mc_state.specs.RawStates.{state_of, IsWellFormedRaw}
use Rattle.mc_rules_steps.specs.Operands.{code_at}
use Rattle.mc_kernel.specs.Branches.{Head, Path, Setting, roots}
use Rattle.mc_kernel.specs.JudgedLaws.{IsAsked}
use Rattle.mc_kernel.specs.Judges.{Knowledge, is_chain, is_cut, judged_line}
use Rattle.mc_kernel.specs.Readings.{Stage, cutting, heading, ruling, finished, is_cutting, is_ruling, has_all_heads, is_skip, comes_after, has_no_branch, first_branch}
use Rattle.mc_kernel.specs.Reading.Documents.{IsMade}
use Rattle.mc_document.specs.declared.proof.fault.ApplyFault.{ApplyFault}
use Rattle.mc_document.specs.declared.proof.fault.ApplyFault.TheVariants.{Premise, NoMemory}
use Rattle.mc_document.specs.Proof.Positions.{Position}

-- what is judged comes to stand here, or a premise is refused and nothing changes; where memory is missing, whoever tried
-- gives it all up (`Applies` of Positions)
abbrev pub ComesTo : {A : Type 0} → Judged A → A → A → Result Unit ApplyFault → Type 0
ComesTo judged old new (Ok done) = judged ≡ Ok new
ComesTo judged old new (Err (Premise k)) = (judged ≡ Err k) × (new ≡ old)
ComesTo judged old new (Err NoMemory) = Unit {0}

-- what its lines are judged by
abbrev pub setting_at : Position → Setting
setting_at p = record { form = p.form; cuts = p.cuts; heads = p.heads }

-- ---- where rule lines begin

-- its rule lines are begun with these branches
abbrev pub ruled_at : Position → List Path → Position
ruled_at p branches = record p { stage = ruling; branches = branches }

-- rule lines may begin: in a certificate whose cuts have all loop heads
abbrev pub may_root : Position → Form → Bool
may_root p Certificate = has_all_heads p.flow p.cuts
may_root p Chain = false

-- rule lines are read, or may begin
abbrev pub is_ready_at : Position → Stage → Bool
is_ready_at p cutting = may_root p p.form
is_ready_at p heading = may_root p p.form
is_ready_at p ruling = true
is_ready_at p finished = false

-- the document with its rule lines begun
abbrev pub readied : Position → Stage → Position
readied p cutting = ruled_at p (roots p.flow p.heads)
readied p heading = ruled_at p (roots p.flow p.heads)
readied p ruling = p
readied p finished = p

-- ---- cuts and heads

-- the point is not before that of the last head
abbrev pub stands_behind : List Head → PointId → Bool
stands_behind [] p = true
stands_behind (h ∷ []) p = nat_lt h.0.0 (suc p.0)
stands_behind (h ∷ i ∷ heads) p = stands_behind (i ∷ heads) p

-- a cut
abbrev pub cutting_at : PointId → Position → Judged Position
cutting_at p q =
    need 1 (is_cutting q.stage)
    (need 3 (is_skip (code_at q.flow p))
    (need 4 (comes_after q.cuts p)
    (Ok (record q { cuts = q.cuts ++ p ∷ [] }))))

-- a head may stand here
abbrev pub may_head_at : Position → Stage → Bool
may_head_at q cutting = has_all_heads q.flow q.cuts
may_head_at q heading = true
may_head_at q ruling = false
may_head_at q finished = false

-- a head
abbrev pub heading_at : (RawState → Bool) → PointId → RawState → Position → Judged Position
heading_at well p raw q =
    need 1 (may_head_at q q.stage)
    (need 3 (is_cut q.cuts p && stands_behind q.heads p)
    (need 4 (well raw)
    (Ok (record q { stage = heading; heads = q.heads ++ (p, state_of raw) ∷ [] }))))

-- which written states are well formed is known rightly
abbrev pub TellsFormed : (RawState → Bool) → Flow → List Def → Type 0
TellsFormed well flow defs = (raw : RawState) → (well raw ≡ true) ↔ IsWellFormedRaw defs flow.vars flow.structs.list raw

-- ---- passes and the end

-- a pass may stand here
abbrev pub may_pass_at : Position → Stage → Bool
may_pass_at q cutting = is_chain q.form && has_all_heads q.flow q.cuts
may_pass_at q heading = is_chain q.form && has_all_heads q.flow q.cuts
may_pass_at q ruling = is_chain q.form
may_pass_at q finished = false

-- a pass
abbrev pub passing_at : Position → Judged Position
passing_at q = need 1 (may_pass_at q q.stage) (need 3 (not (is_ruling q.stage)) (Ok (ruled_at q (roots q.flow q.heads))))

-- the end
abbrev pub ending_at : Position → Judged Position
ending_at q =
    need 1 (is_ready_at q q.stage)
    (need 3 (has_no_branch (readied q q.stage).branches)
    (Ok (record (readied q q.stage) { stage = finished })))

-- ---- changes of the states of cuts

-- a pass begins: the branches of the entry and of the states of cuts as they are are open, and none is stuck
abbrev pub reopened_at : Position → Position
reopened_at q = record (ruled_at q (roots q.flow q.heads)) { stuck = 0 }

-- the first branch ends, and the states of cuts become what they are by it
abbrev pub ending_with : (Path → List Head) → Position → Judged Position
ending_with heads q = have 1 (first_branch q.branches) (λ b. Ok (record q { heads = heads b.0; branches = b.1 }))

-- ---- rule lines

-- so many branches are stuck by a line
abbrev pub marks : Line → ℕ
marks line.C1 = 1
marks other = 0

-- what comes of a line at the first of some branches, with the others after it
abbrev pub advanced : Knowledge → Flow → List Def → Setting → Line → List Path → Judged (List Path)
advanced k flow defs g l branches =
    have 1 (first_branch branches) (λ b. then_give (λ next. next ++ b.1) (judged_line k flow defs g l b.0))

-- the line of a rule where rule lines are read
abbrev pub ruling_at : Knowledge → Line → Position → Judged Position
ruling_at k l q =
    then_give (λ branches. record q { branches = branches; stuck = q.stuck + marks l })
    (advanced k q.flow q.defs (setting_at q) l q.branches)

-- the line of a rule
abbrev pub rule_at : Knowledge → Line → Position → Judged Position
rule_at k l q = need 1 (is_ready_at q q.stage) (ruling_at k l (readied q q.stage))

-- whatever is asked of a well-made state is answered rightly
abbrev pub AnswersAll : Knowledge → Flow → List Def → Type 0
AnswersAll k flow defs = (b : Path) → IsMade flow defs b → IsAsked k flow defs b
