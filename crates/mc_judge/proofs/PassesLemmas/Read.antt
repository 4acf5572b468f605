-- A chain is read where it stands.
use Rattle.std.proofs.Common.{◌≡◌, ◌+◌, ◌∙◌, ℕ, suc, List, [], ◌∷◌, ◌++◌, Bool, true, false, not, Option, Some, None, length, refl, ap, sym, subst, length-append}
use Rattle.std.specs.Prelude.{◌&&◌, ◌||◌, Result, Ok, Err}
use Rattle.mc_base.specs.declared.ids.PointId.{PointId}
use Rattle.mc_lines.specs.declared.cert.line.Line.{Line}
use Rattle.mc_lines.specs.declared.cert.line.Line.TheVariants as line
use Rattle.mc_flow.specs.declared.defs.rules.Def.{Def}
use Rattle.mc_flow.specs.declared.graph.Flow.{Flow}
use Rattle.mc_state.specs.Premises.{Judged, need, have, then_give}
use Rattle.mc_state.proofs.Numbered.{then_ok}
use Rattle.mc_state.specs.declared.line.JoinStep.{JoinStep}
use Rattle.mc_state.specs.declared.raw_state.RawState.{RawState}
use Rattle.mc_state.specs.RawStates.{state_of}
use Rattle.mc_rules_steps.specs.Operands.{code_at}
use Rattle.mc_kernel.specs.Branches.{Head, Path, roots}
use Rattle.mc_kernel.specs.Judges.{Knowledge, is_cut, judged_line}
use Rattle.mc_kernel.specs.Readings as readings
use Rattle.mc_kernel.specs.Readings.{comes_after, first_branch, has_all_heads, has_no_branch, is_skip, marked}
use Rattle.mc_kernel.specs.Reading.Documents.{is_rule}
use Rattle.mc_kernel.proofs.ReadingLemmas.Lists.{append_none}
use Rattle.mc_document.specs.declared.proof.fault.ApplyFault.{ApplyFault}
use Rattle.mc_document.specs.declared.proof.fault.ApplyFault.TheVariants.{Premise, NoMemory}
use Rattle.mc_document.specs.Proof.Lines as proofs
use Rattle.mc_document.specs.Proof.Lines.{AnswersAll, ComesTo, TellsFormed, cutting_at, ending_at, heading_at, is_ready_at, may_head_at, marks, readied, rule_at, ruling_at, setting_at}
use Rattle.mc_document.specs.Proof.Positions.{Position}
use Rattle.mc_document.proofs.ProofLemmas.Read.{then_err}
use Rattle.mc_joins.specs.Chains.Chains.{changes, over}
use Rattle.mc_joins.specs.Chains.Judges as chains
use Rattle.mc_joins.specs.Chains.Judges.{Lore, Outcome, Reading, Stage, cutting, heading, passing, finished, passing_line, reading_cut, reading_end, reading_head, reading_line, reading_pass, reading_rule}
use Rattle.mc_joins.specs.Chains.Laws.{IsRight}
use Rattle.mc_judge.specs.declared.passes.passes.Passes.{Passes}
use Rattle.mc_judge.specs.Passes.Lines.{ByLores, changed_to, changing_at, is_due_at, joining_at, may_pass_at, opening_at, pass_at}
use Rattle.mc_judge.specs.Passes.Positions.{Stands, Tries, passes_of, position_of, stage_of}

-- ---- premises of what comes of something

module _ {A B C : Type 0} (f : A → C) (g : B → C) (x : A) (y : B) (same : f x ≡ g y) where
  one : (i : ℕ) (a : Bool) → then_give f (need i a (Ok x)) ≡ then_give g (need i a (Ok y))
  one i true = ap (λ (z : C). Ok z) same
  one i false = refl

  two : (i j : ℕ) (a b : Bool) → then_give f (need i a (need j b (Ok x))) ≡ then_give g (need i a (need j b (Ok y)))
  two i j true b = one j b
  two i j false b = refl

  three : (i j k : ℕ) (a b c : Bool) → then_give f (need i a (need j b (need k c (Ok x)))) ≡ then_give g (need i a (need j b (need k c (Ok y))))
  three i j k true b c = two j k b c
  three i j k false b c = refl

-- ---- stages

cutting_same : (s : Stage) → readings.is_cutting (stage_of s) ≡ chains.is_cutting s
cutting_same cutting = refl
cutting_same heading = refl
cutting_same passing = refl
cutting_same finished = refl

ruling_same : (s : Stage) → readings.is_ruling (stage_of s) ≡ chains.is_passing s
ruling_same cutting = refl
ruling_same heading = refl
ruling_same passing = refl
ruling_same finished = refl

module _ (flow : Flow) (defs : List Def) where
  abbrev at : Reading → Passes
  at = passes_of flow defs

  abbrev with_proof : Reading → Position → Passes
  with_proof r q = record (at r) { proof = q }

  -- ---- cuts

  pub cut_same : (p : PointId) (r : Reading) → then_give (with_proof r) (cutting_at p (position_of flow defs r)) ≡ then_give at (reading_cut flow p r)
  cut_same p r =
      ap (λ (b : Bool). then_give (with_proof r) (need 1 b (need 3 (is_skip (code_at flow p)) (need 4 (comes_after r.cuts p)
      (Ok (record (position_of flow defs r) { cuts = r.cuts ++ p ∷ [] })))))) (cutting_same r.stage)
      ∙ three (with_proof r) at (record (position_of flow defs r) { cuts = r.cuts ++ p ∷ [] }) (record r { cuts = r.cuts ++ p ∷ [] }) refl
      1 3 4 (chains.is_cutting r.stage) (is_skip (code_at flow p)) (comes_after r.cuts p)

  -- ---- heads

  may_head_same : (r : Reading) (s : Stage) → may_head_at (position_of flow defs r) (stage_of s) ≡ chains.may_head flow r s
  may_head_same r cutting = refl
  may_head_same r heading = refl
  may_head_same r passing = refl
  may_head_same r finished = refl

  stands_same : (heads : List Head) (p : PointId) → proofs.stands_behind heads p ≡ chains.stands_behind heads p
  stands_same [] p = refl
  stands_same (h ∷ []) p = refl
  stands_same (h ∷ i ∷ heads) p = stands_same (i ∷ heads) p

  abbrev with_head : PointId → RawState → Reading → Position
  with_head p raw r = record (position_of flow defs r) { stage = readings.heading; heads = r.heads ++ (p, state_of raw) ∷ [] }

  pub head_same : (k : Lore) (p : PointId) (raw : RawState) (r : Reading)
      → then_give (with_proof r) (heading_at k.formed p raw (position_of flow defs r)) ≡ then_give at (reading_head k flow p raw r)
  head_same k p raw r =
      ap (λ (b : Bool). then_give (with_proof r) (need 1 b (need 3 (is_cut r.cuts p && proofs.stands_behind r.heads p) (need 4 (k.formed raw)
      (Ok (with_head p raw r)))))) (may_head_same r r.stage)
      ∙ ap (λ (b : Bool). then_give (with_proof r) (need 1 (chains.may_head flow r r.stage) (need 3 (is_cut r.cuts p && b) (need 4 (k.formed raw)
      (Ok (with_head p raw r)))))) (stands_same r.heads p)
      ∙ three (with_proof r) at (with_head p raw r) (record r { stage = heading; heads = r.heads ++ (p, state_of raw) ∷ [] }) refl
      1 3 4 (chains.may_head flow r r.stage) (is_cut r.cuts p && chains.stands_behind r.heads p) (k.formed raw)

  -- ---- passes

  may_pass_same : (r : Reading) (s : Stage) → may_pass_at (position_of flow defs r) (stage_of s) ≡ chains.may_pass flow r s
  may_pass_same r cutting = refl
  may_pass_same r heading = refl
  may_pass_same r passing = refl
  may_pass_same r finished = refl

  abbrev begun_pass : Reading → Reading
  begun_pass r = record r { stage = passing; round = suc r.round; branches = roots flow r.heads; stuck = []; changed = false }

  given_as : {A : Type 0} → (j : Judged A) → then_give (λ (x : A). x) j ≡ j
  given_as (Ok x) = refl
  given_as (Err n) = refl

  pub pass_same : (r : Reading) → pass_at (at r) ≡ then_give at (reading_pass flow r)
  pass_same r =
      sym (given_as (pass_at (at r)))
      ∙ ap (λ (b : Bool). then_give (λ (x : Passes). x) (need 1 b (need 3 (is_due_at (at r)) (Ok (at (begun_pass r)))))) (may_pass_same r r.stage)
      ∙ ap (λ (b : Bool). then_give (λ (x : Passes). x) (need 1 (chains.may_pass flow r r.stage) (need 3 (has_no_branch r.branches && (not b || r.changed))
      (Ok (at (begun_pass r)))))) (ruling_same r.stage)
      ∙ two (λ (x : Passes). x) at (at (begun_pass r)) (begun_pass r) refl
      1 3 (chains.may_pass flow r r.stage) (has_no_branch r.branches && (not (chains.is_passing r.stage) || r.changed))

  -- ---- the end

  pub end_same : (r : Reading) → then_give (with_proof r) (ending_at (position_of flow defs r)) ≡ then_give at (reading_end r)
  end_same r = by_stage r.stage refl
    where
      by_stage : (s : Stage) → r.stage ≡ s → then_give (with_proof r) (ending_at (position_of flow defs r)) ≡ then_give at (reading_end r)
      by_stage cutting e = rw e refl
      by_stage heading e = rw e refl
      by_stage passing e =
          rw e (one (with_proof r) at (record (position_of flow defs r) { stage = readings.finished }) (record r { stage = finished }) refl
          3 (has_no_branch r.branches))
      by_stage finished e = rw e refl

  -- ---- rule lines

  marked_are : (l : Line) (b : Path) → length (marked l b) ≡ marks l
  marked_are line.C1 b = refl
  marked_are other b = refl

  stuck_are : (r : Reading) (l : Line) (b : Path) → length r.stuck + marks l ≡ length (r.stuck ++ marked l b)
  stuck_are r l b = rw (length-append r.stuck (marked l b), marked_are l b)

  or_same : (b : Bool) → (b || false) ≡ b
  or_same true = refl
  or_same false = refl

  module _ (k : Lore) (l : Line) where
    -- a line that changes no state of a cut
    stays_as : (round : ℕ) (heads : List Head) (cuts : List PointId) (b : Path) → changes l ≡ false
        → passing_line k flow defs round (over cuts heads) l b
        ≡ then_give (λ next. record { next = next; heads = heads }) (judged_line k.lines flow defs (over cuts heads) l b)
    stays_as round heads cuts b none = at l none
      where
        at : (l : Line) → changes l ≡ false → passing_line k flow defs round (over cuts heads) l b
            ≡ then_give (λ next. record { next = next; heads = heads }) (judged_line k.lines flow defs (over cuts heads) l b)
        at (line.C2 tries) none = absurd (cc none)
        at (line.C3 j steps) none = absurd (cc none)
        at other none = refl

    abbrev ruled_to : Reading → Path × List Path → Outcome → Reading
    ruled_to r b out =
        record r { heads = out.heads; branches = out.next ++ b.1; stuck = r.stuck ++ marked l b.0; changed = r.changed || changes l }

    given_same : (r : Reading) (b : Path × List Path) → changes l ≡ false → (j : Judged (List Path))
        → then_give (with_proof r) (then_give (λ branches. record (position_of flow defs r) { branches = branches; stuck = length r.stuck + marks l })
        (then_give (λ next. next ++ b.1) j))
        ≡ then_give at (then_give (ruled_to r b) (then_give (λ next. record { next = next; heads = r.heads }) j))
    given_same r b none (Ok next) =
        ap (λ (n : ℕ). Ok (with_proof r (record (position_of flow defs r) { branches = next ++ b.1; stuck = n }))) (stuck_are r l b.0)
        ∙ ap (λ (c : Bool). Ok (at (record r { branches = next ++ b.1; stuck = r.stuck ++ marked l b.0; changed = c })))
        (sym (ap (λ (x : Bool). r.changed || x) none ∙ or_same r.changed))
    given_same r b none (Err n) = refl

    branch_same : (r : Reading) → changes l ≡ false → (first : Option (Path × List Path))
        → then_give (with_proof r) (then_give (λ branches. record (position_of flow defs r) { branches = branches; stuck = length r.stuck + marks l })
        (have 1 first (λ b. then_give (λ next. next ++ b.1) (judged_line k.lines flow defs (over r.cuts r.heads) l b.0))))
        ≡ then_give at (have 1 first (λ b. then_give (ruled_to r b) (passing_line k flow defs r.round (over r.cuts r.heads) l b.0)))
    branch_same r none None = refl
    branch_same r none (Some b) =
        given_same r b none (judged_line k.lines flow defs (over r.cuts r.heads) l b.0)
        ∙ ap (λ (j : Judged Outcome). then_give at (then_give (ruled_to r b) j)) (sym (stays_as r.round r.heads r.cuts b.0 none))

    pub rule_same : (r : Reading) → changes l ≡ false
        → then_give (with_proof r) (rule_at k.lines l (position_of flow defs r)) ≡ then_give at (reading_rule k flow defs l r)
    rule_same r none = by_stage r.stage (branch_same r none (first_branch r.branches))
      where
        by_stage : (s : Stage)
            → then_give (with_proof r) (ruling_at k.lines l (position_of flow defs r))
            ≡ then_give at (have 1 (first_branch r.branches) (λ b. then_give (ruled_to r b) (passing_line k flow defs r.round (over r.cuts r.heads) l b.0)))
            → then_give (with_proof r) (need 1 (is_ready_at (position_of flow defs r) (stage_of s))
            (ruling_at k.lines l (readied (position_of flow defs r) (stage_of s))))
            ≡ then_give at (need 1 (chains.is_passing s)
            (have 1 (first_branch r.branches) (λ b. then_give (ruled_to r b) (passing_line k flow defs r.round (over r.cuts r.heads) l b.0))))
        by_stage cutting same = refl
        by_stage heading same = refl
        by_stage passing same = same
        by_stage finished same = refl

  -- ---- lines that change the states of cuts

  or_yes : (b : Bool) → (b || true) ≡ true
  or_yes true = refl
  or_yes false = refl

  none_more : (r : Reading) → length r.stuck ≡ length (r.stuck ++ [])
  none_more r = ap (λ (bs : List Path). length bs) (sym (append_none r.stuck))

  module _ (k : Lore) (l : Line) (judge : Path → Judged (List Head)) (r : Reading) (changing : changes l ≡ true) (unmarked : (b : Path) → marked l b ≡ [])
      (judged : (b : Path) → passing_line k flow defs r.round (over r.cuts r.heads) l b
      ≡ then_give (λ heads. record { next = []; heads = heads }) (judge b)) where
    abbrev changed_by : Path × List Path → List Head → Passes
    changed_by b heads = changed_to (at r) (record (position_of flow defs r) { heads = heads; branches = b.1 })

    change_given : (b : Path × List Path) (j : Judged (List Head))
        → then_give (changed_by b) j ≡ then_give at (then_give (ruled_to k l r b) (then_give (λ heads. record { next = []; heads = heads }) j))
    change_given b (Ok heads) =
        ap (λ (n : ℕ). Ok (changed_to (at r) (record (position_of flow defs r) { heads = heads; branches = b.1; stuck = n }))) (none_more r)
        ∙ ap (λ (bs : List Path). Ok (at (record r { heads = heads; branches = b.1; stuck = r.stuck ++ bs; changed = true }))) (sym (unmarked b.0))
        ∙ ap (λ (c : Bool). Ok (at (record r { heads = heads; branches = b.1; stuck = r.stuck ++ marked l b.0; changed = c })))
        (sym (ap (λ (x : Bool). r.changed || x) changing ∙ or_yes r.changed))
    change_given b (Err n) = refl

    change_first : (first : Option (Path × List Path))
        → have 1 first (λ b. then_give (changed_by b) (judge b.0))
        ≡ then_give at (have 1 first (λ b. then_give (ruled_to k l r b) (passing_line k flow defs r.round (over r.cuts r.heads) l b.0)))
    change_first None = refl
    change_first (Some b) =
        change_given b (judge b.0) ∙ ap (λ (j : Judged Outcome). then_give at (then_give (ruled_to k l r b) j)) (sym (judged b.0))

    need_first : (b : Bool) (x : Judged Passes) (y : Judged Reading) → x ≡ then_give at y → need 1 b x ≡ then_give at (need 1 b y)
    need_first true x y e = e
    need_first false x y e = refl

    pub change_same : changing_at judge (at r) ≡ then_give at (reading_rule k flow defs l r)
    change_same =
        ap (λ (b : Bool). need 1 b (have 1 (first_branch r.branches) (λ b. then_give (changed_by b) (judge b.0)))) (ruling_same r.stage)
        ∙ need_first (chains.is_passing r.stage) _ _ (change_first (first_branch r.branches))

-- ---- what is applied

-- a line that is a rule's is read as one
reads_rule : (k : Lore) (flow : Flow) (defs : List Def) (l : Line) (r : Reading) → is_rule l ≡ true
    → reading_rule k flow defs l r ≡ reading_line k flow defs l r
reads_rule k flow defs (line.Header version form) r e = absurd (cc e)
reads_rule k flow defs (line.Cut p) r e = absurd (cc e)
reads_rule k flow defs (line.Head p raw) r e = absurd (cc e)
reads_rule k flow defs line.Pass r e = absurd (cc e)
reads_rule k flow defs line.End r e = absurd (cc e)
reads_rule k flow defs other r e = refl

-- what comes to the document of a pass comes to the chain
comes_in : (old : Passes) (q : Position) (j : Judged Position) (result : Result Unit ApplyFault) → ComesTo j old.proof q result
    → ComesTo (then_give (λ (x : Position). record old { proof = x }) j) old (record old { proof = q }) result
comes_in old q j (Ok done) e = ap (then_give (λ (x : Position). record old { proof = x })) e
comes_in old q j (Err (Premise n)) e =
    (ap (then_give (λ (x : Position). record old { proof = x })) e.0, ap (λ (x : Position). record old { proof = x }) e.1)
comes_in old q j (Err NoMemory) e = tt

-- the line is read where the chain stands, and that is what comes of it
module _ (l : Line) (old new : Passes) (lore : (k : Lore) × IsRight k old.proof.flow old.proof.defs) (read : Lore → Passes → Judged Passes)
    (same : (k : Lore) (r : Reading) → read k (passes_of old.proof.flow old.proof.defs r)
    ≡ then_give (passes_of old.proof.flow old.proof.defs) (reading_line k old.proof.flow old.proof.defs l r)) where
  read_here : (k : Lore) (r : Reading) → Stands k r old
      → read k old ≡ then_give (passes_of old.proof.flow old.proof.defs) (reading_line k old.proof.flow old.proof.defs l r)
  read_here k r s =
      subst (λ (q : Passes). read k q ≡ then_give (passes_of old.proof.flow old.proof.defs) (reading_line k old.proof.flow old.proof.defs l r))
      s.here (same k r)

  applied : (result : Result Unit ApplyFault) → ByLores old (λ k. ComesTo (read k old) old new result) → Tries l old new result
  applied (Ok done) told = λ k r s.
      let given = then_ok (passes_of old.proof.flow old.proof.defs) (reading_line k old.proof.flow old.proof.defs l r) new
      (sym (read_here k r s) ∙ told k s.right) in
      (given.0, given.1, sym given.2)
  applied (Err (Premise n)) told = (
    (λ k r s. then_err (passes_of old.proof.flow old.proof.defs) (reading_line k old.proof.flow old.proof.defs l r) n
        (sym (read_here k r s) ∙ (told k s.right).0)),
    (told lore.0 lore.1).1,
  )
  applied (Err NoMemory) told = tt

module _ (old : Passes) (lore : (k : Lore) × IsRight k old.proof.flow old.proof.defs) (result : Result Unit ApplyFault) where
  abbrev flow : Flow
  flow = old.proof.flow

  abbrev defs : List Def
  defs = old.proof.defs

  module _ (q : Position) where
    pub by_cut : (p : PointId) → ComesTo (cutting_at p old.proof) old.proof q result → Tries (line.Cut p) old (record old { proof = q }) result
    by_cut p told =
        applied (line.Cut p) old (record old { proof = q }) lore (λ k o. then_give (λ (x : Position). record o { proof = x }) (cutting_at p o.proof))
        (λ k r. cut_same flow defs p r) result (λ k right. comes_in old q (cutting_at p old.proof) result told)

    pub by_head : (p : PointId) (raw : RawState)
        → ((well : RawState → Bool) → TellsFormed well old.proof.flow old.proof.defs → ComesTo (heading_at well p raw old.proof) old.proof q result)
        → Tries (line.Head p raw) old (record old { proof = q }) result
    by_head p raw told =
        applied (line.Head p raw) old (record old { proof = q }) lore
        (λ k o. then_give (λ (x : Position). record o { proof = x }) (heading_at k.formed p raw o.proof))
        (λ k r. head_same flow defs k p raw r) result
        (λ k right. comes_in old q (heading_at k.formed p raw old.proof) result (told k.formed right.formed))

    pub by_end : ComesTo (ending_at old.proof) old.proof q result → Tries line.End old (record old { proof = q }) result
    by_end told =
        applied line.End old (record old { proof = q }) lore (λ k o. then_give (λ (x : Position). record o { proof = x }) (ending_at o.proof))
        (λ k r. end_same flow defs r) result (λ k right. comes_in old q (ending_at old.proof) result told)

    pub by_rule : (l : Line) → is_rule l ≡ true → changes l ≡ false
        → ((k : Knowledge) → AnswersAll k old.proof.flow old.proof.defs → ComesTo (rule_at k l old.proof) old.proof q result)
        → Tries l old (record old { proof = q }) result
    by_rule l rule none told =
        applied l old (record old { proof = q }) lore (λ k o. then_give (λ (x : Position). record o { proof = x }) (rule_at k.lines l o.proof))
        (λ k r. rule_same flow defs k l r none ∙ ap (then_give (passes_of flow defs)) (reads_rule k flow defs l r rule))
        result (λ k right. comes_in old q (rule_at k.lines l old.proof) result (told k.lines right.asked))

  module _ (new : Passes) where
    pub by_pass : ComesTo (pass_at old) old new result → Tries line.Pass old new result
    by_pass told = applied line.Pass old new lore (λ k o. pass_at o) (λ k r. pass_same flow defs r) result (λ k right. told)

    pub by_opening : (tries : List (List JoinStep)) → ByLores old (λ k. ComesTo (opening_at k tries old) old new result)
        → Tries (line.C2 tries) old new result
    by_opening tries told =
        applied (line.C2 tries) old new lore (λ k o. opening_at k tries o)
        (λ k r. change_same flow defs k (line.C2 tries) (chains.opening_state k defs (over r.cuts r.heads) tries) r refl (λ b. refl) (λ b. refl)) result told

    pub by_joining : (j : ℕ) (steps : List JoinStep) → ByLores old (λ k. ComesTo (joining_at k j steps old) old new result)
        → Tries (line.C3 j steps) old new result
    by_joining j steps told =
        applied (line.C3 j steps) old new lore (λ k o. joining_at k j steps o)
        (λ k r. change_same flow defs k (line.C3 j steps) (chains.joining_state k defs r.round (over r.cuts r.heads) j steps) r refl (λ b. refl)
        (λ b. refl)) result told

-- a line that is neither C2 nor C3 changes no state of a cut
pub rest_stays : (l : Line) → ((tries : List (List JoinStep)) → l ≡ line.C2 tries → ⊥) → ((j : ℕ) (steps : List JoinStep) → l ≡ line.C3 j steps → ⊥)
    → changes l ≡ false
rest_stays (line.C2 tries) a b = absurd (a tries refl)
rest_stays (line.C3 j steps) a b = absurd (b j steps refl)
rest_stays other a b = refl
