-- A document is read where it stands.
use Rattle.std.proofs.Common.{◌≡◌, ◌+◌, ◌∙◌, ℕ, List, [], ◌∷◌, ◌++◌, Bool, true, false, not, Option, Some, None, length, refl, ap, sym, subst, length-append}
use Rattle.std.specs.Prelude.{◌&&◌, Result, Ok, Err, if◌then◌else◌}
use Rattle.mc_state.specs.RawStates.{state_of}
use Rattle.mc_state.specs.declared.line.Version.{Version}
use Rattle.mc_base.specs.declared.ids.PointId.{PointId}
use Rattle.mc_lines.specs.declared.cert.line.Line.{Line}
use Rattle.mc_lines.specs.declared.cert.line.Line.TheVariants as line
use Rattle.mc_flow.specs.declared.defs.rules.Def.{Def}
use Rattle.mc_flow.specs.declared.graph.Flow.{Flow}
use Rattle.mc_state.specs.Premises.{Judged, need, have, then_give}
use Rattle.mc_state.proofs.Numbered.{then_ok}
use Rattle.mc_state.specs.declared.line.Form.{Form}
use Rattle.mc_state.specs.declared.line.Form.TheVariants.{Certificate, Chain}
use Rattle.mc_state.specs.declared.raw_state.RawState.{RawState}
use Rattle.mc_rules_steps.specs.Operands.{code_at}
use Rattle.mc_kernel.specs.Branches.{Head, Path, roots}
use Rattle.mc_kernel.specs.Certificates.{WrittenHead, states_of}
use Rattle.mc_kernel.specs.Judges.{Knowledge, is_cut, judged_line}
use Rattle.mc_kernel.specs.Readings.{Reading, Stage, cutting, heading, ruling, finished, setting_of, is_cutting, is_ruling, has_all_heads, ready, rooted, ruled, is_skip, comes_after, stands_after, may_head, may_pass, has_no_branch, first_branch, marked, reading_cut, reading_head, reading_pass, reading_end, reading_rule, reading_line}
use Rattle.mc_kernel.specs.Reading.Documents.{IsJudge, is_rule}
use Rattle.mc_document.specs.declared.proof.fault.ApplyFault.{ApplyFault}
use Rattle.mc_document.specs.declared.proof.fault.ApplyFault.TheVariants.{Premise, NoMemory}
use Rattle.mc_document.specs.Proof.Lines.{ComesTo, cutting_at, heading_at, passing_at, ending_at, rule_at, ruling_at, ruled_at, may_root, is_ready_at, readied, may_head_at, may_pass_at, stands_behind, marks, AnswersAll, TellsFormed}
use Rattle.mc_document.specs.Proof.Positions.{Position, Stands, Tries, position_of}

-- ---- premises of what comes of something

module _ {A B : Type 0} (f : A → B) where
  two : (i j : ℕ) (a b : Bool) (x : A) → need i a (need j b (Ok (f x))) ≡ then_give f (need i a (need j b (Ok x)))
  two i j true true x = refl
  two i j true false x = refl
  two i j false b x = refl

  three : (i j k : ℕ) (a b c : Bool) (x : A) → need i a (need j b (need k c (Ok (f x)))) ≡ then_give f (need i a (need j b (need k c (Ok x))))
  three i j k true b c x = two j k b c x
  three i j k false b c x = refl

  pub then_err : (j : Judged A) (k : ℕ) → then_give f j ≡ Err k → j ≡ Err k
  then_err (Ok a) k e = absurd (cc e)
  then_err (Err i) k e = let same : i ≡ k = cc e in ap (λ (n : ℕ). Err n) same

module _ (flow : Flow) (defs : List Def) where
  abbrev at : Reading → Position
  at = position_of flow defs

  -- ---- cuts

  cut_same : (p : PointId) (r : Reading) → cutting_at p (at r) ≡ then_give at (reading_cut flow p r)
  cut_same p r = three at 1 3 4 (is_cutting r.stage) (is_skip (code_at flow p)) (comes_after r.cuts p) (record r { cuts = r.cuts ++ p ∷ [] })

  -- ---- heads

  may_head_same : (r : Reading) (stage : Stage) → may_head_at (at r) stage ≡ may_head flow r stage
  may_head_same r cutting = refl
  may_head_same r heading = refl
  may_head_same r ruling = refl
  may_head_same r finished = refl

  stands_same : (heads : List WrittenHead) (p : PointId) → stands_behind (states_of heads) p ≡ stands_after heads p
  stands_same [] p = refl
  stands_same (h ∷ []) p = refl
  stands_same (h ∷ i ∷ heads) p = stands_same (i ∷ heads) p

  heads_push : (heads : List WrittenHead) (h : WrittenHead) → states_of heads ++ (h.0, state_of h.1) ∷ [] ≡ states_of (heads ++ h ∷ [])
  heads_push [] h = refl
  heads_push (i ∷ heads) h = ap (λ (hs : List Head). (i.0, state_of i.1) ∷ hs) (heads_push heads h)

  abbrev head_made : (RawState → Bool) → PointId → RawState → Reading → Bool → Bool → List Head → Judged Position
  head_made well p raw r may behind hs =
      need 1 may (need 3 (is_cut r.cuts p && behind) (need 4 (well raw) (Ok (record (at r) { stage = heading; heads = hs }))))

  head_same : (well : RawState → Bool) (p : PointId) (raw : RawState) (r : Reading) → heading_at well p raw (at r) ≡ then_give at (reading_head well flow p raw r)
  head_same well p raw r =
      let hs : List Head = states_of r.heads ++ (p, state_of raw) ∷ [] in
      ap (λ (b : Bool). head_made well p raw r b (stands_behind (states_of r.heads) p) hs) (may_head_same r r.stage)
      ∙ ap (λ (b : Bool). head_made well p raw r (may_head flow r r.stage) b hs) (stands_same r.heads p)
      ∙ ap (λ (hs : List Head). head_made well p raw r (may_head flow r r.stage) (stands_after r.heads p) hs) (heads_push r.heads (p, raw))
      ∙ three at 1 3 4 (may_head flow r r.stage) (is_cut r.cuts p && stands_after r.heads p) (well raw) (record r { stage = heading; heads = r.heads ++ (p, raw) ∷ [] })

  -- ---- passes

  may_pass_same : (r : Reading) (stage : Stage) → may_pass_at (at r) stage ≡ may_pass flow r stage
  may_pass_same r cutting = refl
  may_pass_same r heading = refl
  may_pass_same r ruling = refl
  may_pass_same r finished = refl

  pass_same : (r : Reading) → passing_at (at r) ≡ then_give at (reading_pass flow r)
  pass_same r = rw (may_pass_same r r.stage) (two at 1 3 (may_pass flow r r.stage) (not (is_ruling r.stage)) (ruled r (roots flow (states_of r.heads))))

  -- ---- where rule lines are read

  module _ (X : Reading → Judged Reading) (Y : Position → Judged Position) (same : (t : Reading) → Y (at t) ≡ then_give at (X t)) where
    full_same : (r : Reading) (full : Bool)
        → need 1 full (Y (ruled_at (at r) (roots flow (states_of r.heads))))
        ≡ then_give at (have 1 (if full then Some (ruled r (roots flow (states_of r.heads))) else None) X)
    full_same r true = same (ruled r (roots flow (states_of r.heads)))
    full_same r false = refl

    rooted_same : (r : Reading) (form : Form)
        → need 1 (may_root (at r) form) (Y (ruled_at (at r) (roots flow (states_of r.heads)))) ≡ then_give at (have 1 (rooted flow r form) X)
    rooted_same r Certificate = full_same r (has_all_heads flow r.cuts)
    rooted_same r Chain = refl

    ready_same : (r : Reading) (stage : Stage)
        → need 1 (is_ready_at (at r) stage) (Y (readied (at r) stage)) ≡ then_give at (have 1 (ready flow r stage) X)
    ready_same r cutting = rooted_same r r.form
    ready_same r heading = rooted_same r r.form
    ready_same r ruling = same r
    ready_same r finished = refl

  -- ---- the end

  closed_same : (t : Reading) (b : Bool) → need 3 b (Ok (record (at t) { stage = finished })) ≡ then_give at (need 3 b (Ok (record t { stage = finished })))
  closed_same t true = refl
  closed_same t false = refl

  end_same : (r : Reading) → ending_at (at r) ≡ then_give at (reading_end flow r)
  end_same r =
      ready_same
      (λ t. need 3 (has_no_branch t.branches) (Ok (record t { stage = finished })))
      (λ t. need 3 (has_no_branch t.branches) (Ok (record t { stage = finished })))
      (λ t. closed_same t (has_no_branch t.branches)) r r.stage

  -- ---- rule lines

  marked_are : (l : Line) (b : Path) → length (marked l b) ≡ marks l
  marked_are line.C1 b = refl
  marked_are other b = refl

  stuck_are : (t : Reading) (l : Line) (b : Path) → length t.stuck + marks l ≡ length (t.stuck ++ marked l b)
  stuck_are t l b = rw (length-append t.stuck (marked l b), marked_are l b)

  module _ (k : Knowledge) (l : Line) where
    given_same : (t : Reading) (b : Path × List Path) (j : Judged (List Path))
        → then_give (λ branches. record (at t) { branches = branches; stuck = length t.stuck + marks l }) (then_give (λ next. next ++ b.1) j)
        ≡ then_give at (then_give (λ next. record t { branches = next ++ b.1; stuck = t.stuck ++ marked l b.0 }) j)
    given_same t b (Ok next) = ap (λ (n : ℕ). Ok (record (at t) { branches = next ++ b.1; stuck = n })) (stuck_are t l b.0)
    given_same t b (Err i) = refl

    branch_same : (t : Reading) (first : Option (Path × List Path))
        → then_give (λ branches. record (at t) { branches = branches; stuck = length t.stuck + marks l })
        (have 1 first (λ b. then_give (λ next. next ++ b.1) (judged_line k flow defs (setting_of t) l b.0)))
        ≡ then_give at (have 1 first (λ b. then_give (λ next. record t { branches = next ++ b.1; stuck = t.stuck ++ marked l b.0 })
        (judged_line k flow defs (setting_of t) l b.0)))
    branch_same t None = refl
    branch_same t (Some b) = given_same t b (judged_line k flow defs (setting_of t) l b.0)

    rule_same : (r : Reading) → rule_at k l (at r) ≡ then_give at (reading_rule k flow defs l r)
    rule_same r =
        ready_same
        (λ t. have 1 (first_branch t.branches) (λ b. then_give (λ next. record t { branches = next ++ b.1; stuck = t.stuck ++ marked l b.0 })
        (judged_line k flow defs (setting_of t) l b.0)))
        (ruling_at k l) (λ t. branch_same t (first_branch t.branches)) r r.stage

-- ---- what is applied

-- a line that is a rule's is read as one
reads_rule : (k : Knowledge) (well : RawState → Bool) (flow : Flow) (defs : List Def) (l : Line) (r : Reading)
    → is_rule l ≡ true → reading_rule k flow defs l r ≡ reading_line k well flow defs l r
reads_rule k well flow defs (line.Header version form) r e = absurd (cc e)
reads_rule k well flow defs (line.Cut p) r e = absurd (cc e)
reads_rule k well flow defs (line.Head p raw) r e = absurd (cc e)
reads_rule k well flow defs line.Pass r e = absurd (cc e)
reads_rule k well flow defs line.End r e = absurd (cc e)
reads_rule k well flow defs other r e = refl

-- the line is read where the document stands, and that is what comes of it
module _ (l : Line) (old new : Position) (judge : (k : Knowledge) × (well : RawState → Bool) × IsJudge k well old.flow old.defs) (read : Knowledge → (RawState → Bool) → Position → Judged Position)
    (same : (k : Knowledge) (well : RawState → Bool) (r : Reading)
    → read k well (position_of old.flow old.defs r) ≡ then_give (position_of old.flow old.defs) (reading_line k well old.flow old.defs l r)) where
  read_here : (k : Knowledge) (well : RawState → Bool) (r : Reading) → Stands k well r old
      → read k well old ≡ then_give (position_of old.flow old.defs) (reading_line k well old.flow old.defs l r)
  read_here k well r s =
      subst (λ (q : Position). read k well q ≡ then_give (position_of old.flow old.defs) (reading_line k well old.flow old.defs l r)) s.here (same k well r)

  applied : (result : Result Unit ApplyFault)
      → ((k : Knowledge) (well : RawState → Bool) → IsJudge k well old.flow old.defs → ComesTo (read k well old) old new result)
      → Tries l old new result
  applied (Ok done) told = λ k well r s.
      let given = then_ok (position_of old.flow old.defs) (reading_line k well old.flow old.defs l r) new (sym (read_here k well r s) ∙ told k well s.judge) in
      (given.0, given.1, sym given.2)
  applied (Err (Premise i)) told = (
    (λ k well r s. then_err (position_of old.flow old.defs) (reading_line k well old.flow old.defs l r) i (sym (read_here k well r s) ∙ (told k well s.judge).0)),
    (told judge.0 judge.1 judge.2).1,
  )
  applied (Err NoMemory) told = tt

module _ (old new : Position) (judge : (k : Knowledge) × (well : RawState → Bool) × IsJudge k well old.flow old.defs) (result : Result Unit ApplyFault) where
  pub by_cut : (p : PointId) → ComesTo (cutting_at p old) old new result → Tries (line.Cut p) old new result
  by_cut p told = applied (line.Cut p) old new judge (λ k well. cutting_at p) (λ k well r. cut_same old.flow old.defs p r) result (λ k well right. told)

  pub by_head : (p : PointId) (raw : RawState)
      → ((well : RawState → Bool) → TellsFormed well old.flow old.defs → ComesTo (heading_at well p raw old) old new result)
      → Tries (line.Head p raw) old new result
  by_head p raw told =
      applied (line.Head p raw) old new judge (λ k well. heading_at well p raw) (λ k well r. head_same old.flow old.defs well p raw r) result (λ k well right. told well right.formed)

  pub by_pass : ComesTo (passing_at old) old new result → Tries line.Pass old new result
  by_pass told = applied line.Pass old new judge (λ k well. passing_at) (λ k well r. pass_same old.flow old.defs r) result (λ k well right. told)

  pub by_end : ComesTo (ending_at old) old new result → Tries line.End old new result
  by_end told = applied line.End old new judge (λ k well. ending_at) (λ k well r. end_same old.flow old.defs r) result (λ k well right. told)

  pub by_rule : (l : Line) → is_rule l ≡ true
      → ((k : Knowledge) → AnswersAll k old.flow old.defs → ComesTo (rule_at k l old) old new result)
      → Tries l old new result
  by_rule l rule told =
      applied l old new judge (λ k well. rule_at k l)
      (λ k well r. rule_same old.flow old.defs k l r ∙ ap (then_give (position_of old.flow old.defs)) (reads_rule k well old.flow old.defs l r rule))
      result (λ k well right. told k right.asked)

-- a line that is none of the others is a rule's
pub rest_is_rule : (l : Line)
    → ((version : Version) (form : Form) → l ≡ line.Header version form → ⊥) → ((p : PointId) → l ≡ line.Cut p → ⊥)
    → ((p : PointId) (raw : RawState) → l ≡ line.Head p raw → ⊥) → (l ≡ line.Pass → ⊥) → (l ≡ line.End → ⊥)
    → is_rule l ≡ true
rest_is_rule (line.Header version form) a b c d e = absurd (a version form refl)
rest_is_rule (line.Cut p) a b c d e = absurd (b p refl)
rest_is_rule (line.Head p raw) a b c d e = absurd (c p raw refl)
rest_is_rule line.Pass a b c d e = absurd (d refl)
rest_is_rule line.End a b c d e = absurd (e refl)
rest_is_rule other a b c d e = refl
