-- Lines that go on, and where they may stand.
use Rattle.std.proofs.Common.{◌≡◌, ◌≤◌, ◌++◌, ◌∷◌, ◌∙◌, List, Bool, true, false, Option, [], refl, ap, arith}
use Rattle.std.specs.Prelude.{◌||◌, is_some, not}
use Rattle.mc_base.specs.declared.ids.PointId.{PointId}
use Rattle.mc_state.specs.declared.goal.Goal.{Goal}
use Rattle.mc_state.specs.declared.line.InstrRule.TheVariants.{S17}
use Rattle.mc_lines.specs.declared.cert.line.Line.{Line}
use Rattle.mc_lines.specs.declared.cert.line.Line.TheVariants as line
use Rattle.mc_kernel.specs.Branches.{IsPlain, Path}
use Rattle.mc_kernel.specs.Readings.{marked}
use Rattle.mc_kernel.specs.Progress.Progress.{advances}
use Rattle.mc_kernel.specs.Reading.Documents.{is_rule}
use Rattle.mc_document.specs.Places.{cut_of, cuts_of, may_stand, may_stand_aside}
use Rattle.mc_kernel.specs.Certificates.{WrittenHead}
use Rattle.mc_follow.specs.Alarms.Walks.{ending, goes_on}
use Rattle.mc_follow.specs.Report.Heads.{head_in, heads_of}
use Rattle.mc_follow.proofs.ReportLemmas.Written.{heads_more}

pub goes_by_rule : (l : Line) → goes_on l ≡ true → is_rule l ≡ true
goes_by_rule (line.Header version form) e = absurd (cc e)
goes_by_rule (line.Cut p) e = absurd (cc e)
goes_by_rule (line.Head p raw) e = absurd (cc e)
goes_by_rule line.Pass e = absurd (cc e)
goes_by_rule line.End e = absurd (cc e)
goes_by_rule line.C1 e = absurd (cc e)
goes_by_rule other e = refl

pub goes_unmarked : (l : Line) (b : Path) → goes_on l ≡ true → marked l b ≡ []
goes_unmarked line.C1 b e = absurd (cc e)
goes_unmarked other b e = refl

pub goes_by_advance : (l : Line) → advances l ≡ true → goes_on l ≡ true
goes_by_advance (line.Header version form) e = absurd (cc e)
goes_by_advance (line.Cut p) e = absurd (cc e)
goes_by_advance (line.Head p raw) e = absurd (cc e)
goes_by_advance line.Pass e = absurd (cc e)
goes_by_advance line.End e = absurd (cc e)
goes_by_advance line.C1 e = absurd (cc e)
goes_by_advance other e = refl

-- ---- places

or_true : (b : Bool) → b || true ≡ true
or_true true = refl
or_true false = refl

-- a line of side branches may stand everywhere
pub aside_stands : (l : Line) (branches : List Path) → may_stand_aside l ≡ true → may_stand l branches ≡ true
aside_stands l [] e = refl
aside_stands l (b ∷ branches) e = ap (λ (aside : Bool). not (is_some b.goal) || aside) e ∙ or_true (not (is_some b.goal))

-- every line may stand where there is no side branch first
pub plain_stands : (l : Line) (branches others : List Path) (b : Path) → branches ≡ b ∷ others → IsPlain b → may_stand l branches ≡ true
plain_stands l branches others b are plain =
    ap (may_stand l) are ∙ ap (λ (goal : Option Goal). not (is_some goal) || may_stand_aside l) plain

-- the line of a rule is no cut
pub rule_uncut : (l : Line) → is_rule l ≡ true → cut_of l ≡ []
rule_uncut (line.Cut p) e = absurd (cc e)
rule_uncut other e = refl

-- so it adds none
pub uncut_more : (lines : List Line) (l : Line) → cut_of l ≡ [] → cuts_of (lines ++ l ∷ []) ≡ cuts_of lines
uncut_more [] l e = ap (λ (cuts : List PointId). cuts ++ []) e
uncut_more (m ∷ lines) l e = ap (λ (cuts : List PointId). cut_of m ++ cuts) (uncut_more lines l e)

-- nor a head
pub rule_unheaded : (l : Line) → is_rule l ≡ true → head_in l ≡ []
rule_unheaded (line.Head p raw) e = absurd (cc e)
rule_unheaded other e = refl

pub unheaded_more : (lines : List Line) (l : Line) → heads_of lines ≡ [] → head_in l ≡ [] → heads_of (lines ++ l ∷ []) ≡ []
unheaded_more lines l none no_head =
    heads_more lines (l ∷ [])
    ∙ ap (λ (heads : List WrittenHead). heads ++ (head_in l ++ [])) none
    ∙ ap (λ (heads : List WrittenHead). heads ++ []) no_head

-- a line ends one branch at most
pub ends_one : (l : Line) → ending l ≤ 1
ends_one (line.Step S17) = omega arith
ends_one line.L12 = omega arith
ends_one (line.L13 j images edges) = omega arith
ends_one (line.L14 edge) = omega arith
ends_one line.C1 = omega arith
ends_one other = omega arith
