-- Lines, read where a chain of several passes stands.
use Rattle.std.specs.Prelude.{◌≡◌, ◌&&◌, ◌||◌, not, ℕ, suc, Bool, true, false, List, ◌∷◌, Option, Some, None, Result, Ok, Err, option_and_then, if◌then◌else◌}
use Rattle.std.specs.List.{AllByRecursion}
use Rattle.mc_state.specs.Known.{is_false}
use Rattle.mc_state.specs.Premises.{Judged, need, have, then_give}
use Rattle.mc_state.specs.declared.line.JoinStep.{JoinStep}
use Rattle.mc_state.specs.State.{State}
use Rattle.mc_kernel.specs.Branches.{Head, Path, Setting, states_at}
use Rattle.mc_kernel.specs.Readings.{Stage, cutting, heading, ruling, finished, is_ruling, has_all_heads, has_no_branch, first_branch}
use Rattle.mc_document.specs.declared.proof.fault.ApplyFault.{ApplyFault}
use Rattle.mc_document.specs.declared.proof.fault.ApplyFault.TheVariants.{Premise, NoMemory}
use Rattle.mc_document.specs.Proof.Lines.{ending_with, reopened_at}
use Rattle.mc_document.specs.Proof.Positions.{Position}
use Rattle.mc_joins.specs.Chains.Chains.{over}
use Rattle.mc_joins.specs.Chains.Judges.{Lore, may_change, opening_state, joining_state}
use Rattle.mc_joins.specs.Chains.Laws.{IsRight, Made}
use Rattle.mc_judge.specs.declared.passes.passes.Passes.{Passes}

-- it holds of whatever judges rightly
abbrev pub ByLores : Passes → (Lore → Type 0) → Type 0
ByLores p Holds = (k : Lore) → IsRight k p.proof.flow p.proof.defs → Holds k

-- ---- passes

-- a pass may stand here
abbrev pub may_pass_at : Position → Stage → Bool
may_pass_at q cutting = has_all_heads q.flow q.cuts
may_pass_at q heading = true
may_pass_at q ruling = true
may_pass_at q finished = false

-- no branch is open, and the pass before, if there is one, has changed the states of cuts
abbrev pub is_due_at : Passes → Bool
is_due_at p = has_no_branch p.proof.branches && (not (is_ruling p.proof.stage) || p.changed)

-- a pass
abbrev pub pass_at : Passes → Judged Passes
pass_at p =
    need 1 (may_pass_at p.proof p.proof.stage)
    (need 3 (is_due_at p)
    (Ok (record { proof = reopened_at p.proof; round = suc p.round; changed = false })))

-- ---- changes of the states of cuts

-- what the lines of a pass are judged by
abbrev pub setting_here : Passes → Setting
setting_here p = over p.proof.cuts p.proof.heads

-- the chain, with its states of cuts changed
abbrev pub changed_to : Passes → Position → Passes
changed_to p q = record p { proof = q; changed = true }

-- the first branch of a pass ends, and the states of cuts become what they are judged to be by it
abbrev pub changing_at : (Path → Judged (List Head)) → Passes → Judged Passes
changing_at judge p =
    need 1 (is_ruling p.proof.stage)
    (have 1 (first_branch p.proof.branches) (λ b.
    then_give (λ heads. changed_to p (record p.proof { heads = heads; branches = b.1 })) (judge b.0)))

-- C2
abbrev pub opening_at : Lore → List (List JoinStep) → Passes → Judged Passes
opening_at k tries p = changing_at (opening_state k p.proof.defs (setting_here p) tries) p

-- C3
abbrev pub joining_at : Lore → ℕ → List JoinStep → Passes → Judged Passes
joining_at k j steps p = changing_at (joining_state k p.proof.defs p.round (setting_here p) j steps) p

-- the first branch of a pass, if it may change the states of its cut
abbrev pub changer : Passes → Option Path
changer p =
    if is_ruling p.proof.stage
    then option_and_then (λ b. if may_change (setting_here p) b.0 then Some b.0 else None) (first_branch p.proof.branches)
    else None

-- the first two premises of a line that changes the states of a cut hold at this branch, whose cut has these states
pub record IsReady (p : Passes) (b : Path) (lefts : List State) : Type 0 where
  pub passing : is_ruling p.proof.stage ≡ true
  pub others : List Path
  pub first : p.proof.branches ≡ b ∷ others
  pub may : may_change (setting_here p) b ≡ true
  pub consistent : ByLores p (λ k. is_false (k.lines.know b.state) ≡ false)
  pub lefts_are : lefts ≡ states_at b.point p.proof.heads
  pub made : AllByRecursion (Made p.proof.flow p.proof.defs) (b.state ∷ lefts)

-- one of them, with this number, does not hold, whatever the others are
abbrev pub IsUnready : Passes → ℕ → Type 0
IsUnready p n =
    (rest : Lore → Path → Judged (List Head)) → ByLores p (λ k.
    changing_at (λ b. need 1 (may_change (setting_here p) b) (need 2 (not (is_false (k.lines.know b.state))) (rest k b))) p ≡ Err n)

-- what is answered is the place and the state that a line puts among the states of cuts, where this is judged of it; or the
-- first premise that is unmet
abbrev pub IsPut : (List Head → ℕ → Head → List Head) → (Lore → Judged Passes) → Passes → Result (ℕ × State) ApplyFault → Type 0
IsPut put judged p (Ok found) =
    ByLores p (λ k. judged k ≡ then_give (changed_to p) (ending_with (λ b. put p.proof.heads found.0 (b.point, found.1)) p.proof))
IsPut put judged p (Err (Premise n)) = ByLores p (λ k. judged k ≡ Err n)
IsPut put judged p (Err NoMemory) = Unit {0}
