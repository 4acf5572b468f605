-- Lines of rules, read one after the other up to the end.
use Rattle.std.proofs.Common.{◌≡◌, ℕ, suc, List, [], ◌∷◌, ◌++◌, Bool, false, refl, ap, sym, subst, ◌∙◌}
use Rattle.std.specs.Prelude.{Result, Ok, Err}
use Rattle.std.specs.List.{AllByRecursion}
use Rattle.mc_base.specs.declared.ids.PointId.{PointId}
use Rattle.mc_lines.specs.declared.cert.line.Line.{Line}
use Rattle.mc_lines.specs.declared.cert.line.Line.TheVariants as line
use Rattle.mc_flow.specs.declared.defs.rules.Def.{Def}
use Rattle.mc_flow.specs.declared.graph.Flow.{Flow}
use Rattle.mc_flow.specs.Valid.{IsValid}
use Rattle.mc_state.specs.Premises.{Judged, need, then_give}
use Rattle.mc_state.proofs.Numbered.{then_ok}
use Rattle.mc_state.specs.declared.line.Form.{Form}
use Rattle.mc_state.specs.declared.line.Form.TheVariants.{Certificate, Chain}
use Rattle.mc_state.specs.declared.raw_state.RawState.{RawState}
use Rattle.mc_kernel.specs.Branches.{Path, Setting}
use Rattle.mc_kernel.specs.Certificates.{WrittenHead, states_of}
use Rattle.mc_kernel.specs.Instances.{IsInstance, Reads, stuck_by}
use Rattle.mc_kernel.specs.JudgedLaws.{LinesAreJudged}
use Rattle.mc_kernel.specs.Judges.{Knowledge, judged_line, is_chain}
use Rattle.mc_kernel.specs.Readings.{Reading, ruling, finished, behind, marked, reading_rule, reading_lines}
use Rattle.mc_kernel.specs.Reading.Documents.{IsMade, IsJudge}
use Rattle.mc_kernel.proofs.ReadingLemmas.Lists.{all_join, append_none, append_twice}
use Rattle.mc_kernel.proofs.ReadingLemmas.Made.{Makes, line_made}

-- what is read after a line is read where the line is
pub behind_ok : (n : ℕ) (j : Judged Reading) (rest : Reading → Result Reading (ℕ × ℕ)) (last : Reading)
    → behind n j rest ≡ Ok last → (r : Reading) × (j ≡ Ok r) × (rest r ≡ Ok last)
behind_ok n (Ok r) rest last e = (r, refl, e)
behind_ok n (Err k) rest last e = absurd (cc e)

pub behind_yes : (n : ℕ) (j : Judged Reading) (rest : Reading → Result Reading (ℕ × ℕ)) (r : Reading) → j ≡ Ok r → behind n j rest ≡ rest r
behind_yes n j rest r e = ap (λ j. behind n j rest) e

pub behind_err : (n k : ℕ) (rest : Reading → Result Reading (ℕ × ℕ)) (last : Reading) → behind n (Err k) rest ≡ Ok last → ⊥
behind_err n k rest last e = cc e

-- what is read is one
pub same_reading : (r last : Reading) → ◌≡◌ {A = Result Reading (ℕ × ℕ)} (Ok r) (Ok last) → r ≡ last
same_reading r last e = cc e

-- a document of which the rule lines are read
abbrev pub ruling_at : Form → List PointId → List WrittenHead → List Path → List Path → Reading
ruling_at form cuts heads bs stuck = record { form = form; stage = ruling; cuts = cuts; heads = heads; branches = bs; stuck = stuck }

-- and one that has ended
abbrev pub ended_at : Form → List PointId → List WrittenHead → List Path → Reading
ended_at form cuts heads stuck = record { form = form; stage = finished; cuts = cuts; heads = heads; branches = []; stuck = stuck }

-- what a line marks as stuck stands in front of what later ones do
pub stuck_marked : (l : Line) (b : Path) (later : List Path) → stuck_by l b later ≡ marked l b ++ later
stuck_marked line.C1 b later = refl
stuck_marked l b later = refl

pub record Right : Type 0 where
  pub judged : LinesAreJudged
  pub makes : Makes

module _ (right : Right) (k : Knowledge) (well : RawState → Bool) (flow : Flow) (defs : List Def) (valid : IsValid flow defs) (judge : IsJudge k well flow defs) where
  abbrev pub lines_at : ℕ → List Line → Reading → Result Reading (ℕ × ℕ)
  lines_at = reading_lines k well flow defs

  abbrev pub AreMade : List Path → Type 0
  AreMade = AllByRecursion (IsMade flow defs)

  module _ (form : Form) (cuts : List PointId) (heads : List WrittenHead) where
    abbrev pub g : Setting
    g = record { form = form; cuts = cuts; heads = states_of heads }

    abbrev ruled_at : List Path → List Path → Reading
    ruled_at = ruling_at form cuts heads

    -- a document that has ended goes on by no line
    nothing_behind : (n : ℕ) (lines : List Line) (stuck : List Path) (last : Reading) → lines_at n lines (ended_at form cuts heads stuck) ≡ Ok last → (lines ≡ []) × (last ≡ ended_at form cuts heads stuck)
    nothing_behind n [] stuck last e = (refl, cc e)
    nothing_behind n (l ∷ lines) stuck last e = absurd (at l e)
      where
        at : (l : Line) → lines_at n (l ∷ lines) (ended_at form cuts heads stuck) ≡ Ok last → ⊥
        at (line.Header version form) e = cc e
        at (line.Cut p) e = cc e
        at (line.Head p raw) e = cc e
        at line.Pass e = cc e
        at line.End e = cc e
        at l e = cc e

    -- the lines of rules up to the end
    pub record RulesOf (lines : List Line) (bs stuck : List Path) (last : Reading) : Type 0 where
      pub rules : List Line
      pub more : List Path
      pub spelled : lines ≡ rules ++ line.End ∷ []
      pub reads : Reads flow defs g rules bs more
      pub ends : last ≡ ended_at form cuts heads (stuck ++ more)

    -- the line of a rule comes before others
    then_rules : (l : Line) (lines : List Line) (b : Path) (bs next stuck : List Path) (last : Reading)
        → IsInstance flow defs g l b next → RulesOf lines (next ++ bs) (stuck ++ marked l b) last → RulesOf (l ∷ lines) (b ∷ bs) stuck last
    then_rules l lines b bs next stuck last i r = record {
      rules = l ∷ r.rules;
      more = stuck_by l b r.more;
      spelled = ap (λ (ls : List Line). l ∷ ls) r.spelled;
      reads = (next, r.more, i, r.reads, refl);
      ends = r.ends ∙ ap (ended_at form cuts heads) (append_twice stuck (marked l b) r.more ∙ ap (λ (ps : List Path). stuck ++ ps) (sym (stuck_marked l b r.more)));
    }

    -- what is an instance is judged so
    judged_from : (l : Line) (b : Path) (next : List Path) → IsMade flow defs b → judged_line k flow defs g l b ≡ Ok next → IsInstance flow defs g l b next
    judged_from l b next made e = (right.judged k flow defs g l b (judge.asked b made) next).0 e

    judged_to : (l : Line) (b : Path) (next : List Path) → IsMade flow defs b → IsInstance flow defs g l b next → judged_line k flow defs g l b ≡ Ok next
    judged_to l b next made i = (right.judged k flow defs g l b (judge.asked b made) next).1 i

    next_made : (l : Line) (b : Path) (bs next : List Path) → AreMade (b ∷ bs) → IsInstance flow defs g l b next → AreMade (next ++ bs)
    next_made l b bs next made i = all_join (IsMade flow defs) next bs (line_made right.makes flow defs g valid l b next made.0 i) made.1

    -- what is read from rule lines on
    abbrev From : ℕ → List Line → Type 0
    From n lines = (bs stuck : List Path) (last : Reading) → AreMade bs → lines_at n lines (ruled_at bs stuck) ≡ Ok last → last.stage ≡ finished → RulesOf lines bs stuck last

    rule_from : (n : ℕ) (l : Line) (lines : List Line) → From (suc n) lines → (bs stuck : List Path) (last : Reading) → AreMade bs
        → behind n (reading_rule k flow defs l (ruled_at bs stuck)) (lines_at (suc n) lines) ≡ Ok last → last.stage ≡ finished → RulesOf (l ∷ lines) bs stuck last
    rule_from n l lines rest [] stuck last made e f = absurd (cc e)
    rule_from n l lines rest (b ∷ bs) stuck last made e f =
        let come : List Path → Reading = λ (next : List Path). ruled_at (next ++ bs) (stuck ++ marked l b) in
        let read = behind_ok n (then_give come (judged_line k flow defs g l b)) (lines_at (suc n) lines) last e in
        let given = then_ok come (judged_line k flow defs g l b) read.0 read.1 in
        let i : IsInstance flow defs g l b given.0 = judged_from l b given.0 made.0 given.1 in
        let on : lines_at (suc n) lines (come given.0) ≡ Ok last = subst (λ (r : Reading). lines_at (suc n) lines r ≡ Ok last) given.2 read.2 in
        then_rules l lines b bs given.0 stuck last i (rest (given.0 ++ bs) (stuck ++ marked l b) last (next_made l b bs given.0 made i) on f)

    end_from : (n : ℕ) (lines : List Line) (bs stuck : List Path) (last : Reading) → lines_at n (line.End ∷ lines) (ruled_at bs stuck) ≡ Ok last → RulesOf (line.End ∷ lines) bs stuck last
    end_from n lines (b ∷ bs) stuck last e = absurd (cc e)
    end_from n lines [] stuck last e =
        let none = nothing_behind (suc n) lines stuck last e in
        record {
          rules = [];
          more = [];
          spelled = ap (λ (ls : List Line). line.End ∷ ls) none.0;
          reads = (refl, refl);
          ends = none.1 ∙ ap (ended_at form cuts heads) (sym (append_none stuck));
        }

    pass_refused : (n : ℕ) (lines : List Line) (bs stuck : List Path) (last : Reading) → lines_at n (line.Pass ∷ lines) (ruled_at bs stuck) ≡ Ok last → ⊥
    pass_refused n lines bs stuck last e = at form e
      where
        at : (form : Form) → behind n (need 1 (is_chain form) (need 3 false (Ok (ruled_at bs stuck)))) (lines_at (suc n) lines) ≡ Ok last → ⊥
        at Certificate e = cc e
        at Chain e = cc e

    pub rules_from : (n : ℕ) (lines : List Line) → From n lines
    rules_from n [] bs stuck last made e f = let stage : ruling ≡ finished = ap (λ (r : Reading). r.stage) (same_reading (ruled_at bs stuck) last e) ∙ f in absurd (cc stage)
    rules_from n (line.Header version form ∷ lines) bs stuck last made e f = absurd (cc e)
    rules_from n (line.Cut p ∷ lines) bs stuck last made e f = absurd (cc e)
    rules_from n (line.Head p raw ∷ lines) bs stuck last made e f = absurd (cc e)
    rules_from n (line.Pass ∷ lines) bs stuck last made e f = absurd (pass_refused n lines bs stuck last e)
    rules_from n (line.End ∷ lines) bs stuck last made e f = end_from n lines bs stuck last e
    rules_from n (l ∷ lines) bs stuck last made e f = rule_from n l lines (rules_from (suc n) lines) bs stuck last made e f

    -- ---- and back

    -- rule lines that are read to the end
    abbrev To : ℕ → List Line → Type 0
    To n rules = (bs stuck more : List Path) → AreMade bs → Reads flow defs g rules bs more → lines_at n (rules ++ line.End ∷ []) (ruled_at bs stuck) ≡ Ok (ended_at form cuts heads (stuck ++ more))

    none_to : (n : ℕ) → To n []
    none_to n [] stuck more made r = let none : ended_at form cuts heads stuck ≡ ended_at form cuts heads (stuck ++ more) = ap (ended_at form cuts heads) (sym (append_none stuck) ∙ ap (λ (ps : List Path). stuck ++ ps) (sym r.1)) in ap (λ (r : Reading). Ok r) none
    none_to n (b ∷ bs) stuck more made r = absurd (cc (r.0))

    rule_to : (n : ℕ) (l : Line) (rules : List Line) → To (suc n) rules → (b : Path) (bs stuck more : List Path) → AreMade (b ∷ bs)
        → Reads flow defs g (l ∷ rules) (b ∷ bs) more
        → behind n (reading_rule k flow defs l (ruled_at (b ∷ bs) stuck)) (lines_at (suc n) (rules ++ line.End ∷ [])) ≡ Ok (ended_at form cuts heads (stuck ++ more))
    rule_to n l rules rest b bs stuck more made (next, later, i, reads, e) =
        let come : List Path → Reading = λ (next : List Path). ruled_at (next ++ bs) (stuck ++ marked l b) in
        let given : then_give come (judged_line k flow defs g l b) ≡ Ok (come next) = ap (then_give come) (judged_to l b next made.0 i) in
        behind_yes n (then_give come (judged_line k flow defs g l b)) (lines_at (suc n) (rules ++ line.End ∷ [])) (come next) given
        ∙ rest (next ++ bs) (stuck ++ marked l b) later (next_made l b bs next made i) reads
        ∙ ap (λ (ps : List Path). Ok (ended_at form cuts heads ps))
        (append_twice stuck (marked l b) later ∙ ap (λ (ps : List Path). stuck ++ ps) (sym (stuck_marked l b later) ∙ sym e))

    line_to : (n : ℕ) (l : Line) (rules : List Line) → To (suc n) rules → To n (l ∷ rules)
    line_to n l rules rest [] stuck more made r = absurd r
    line_to n (line.Header version form) rules rest (b ∷ bs) stuck more made r = absurd r.2
    line_to n (line.Cut p) rules rest (b ∷ bs) stuck more made r = absurd r.2
    line_to n (line.Head p raw) rules rest (b ∷ bs) stuck more made r = absurd r.2
    line_to n line.Pass rules rest (b ∷ bs) stuck more made r = absurd r.2
    line_to n line.End rules rest (b ∷ bs) stuck more made r = absurd r.2
    line_to n l rules rest (b ∷ bs) stuck more made r = rule_to n l rules rest b bs stuck more made r

    pub rules_to : (n : ℕ) (rules : List Line) → To n rules
    rules_to n [] = none_to n
    rules_to n (l ∷ rules) = line_to n l rules (rules_to (suc n) rules)
