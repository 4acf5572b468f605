-- Heads that are written, and the lines of them.
use Rattle.std.proofs.Common.{◌≡◌, ◌≢◌, ◌++◌, ◌∷◌, ◌∙◌, ◌+◌, ◌<◌, ◌≤◌, ℕ, suc, List, [], Bool, true, false, refl, sym, ap, subst, map, length, drop, get_or, nat_eq, append_assoc}
use Rattle.std.proofs.lemmas.List.{append-nil, drop_more, drop_all}
use Rattle.std.specs.Prelude.{codes, if◌then◌else◌}
use Rattle.mc_base.specs.declared.ids.PointId.{PointId}
use Rattle.mc_lines.specs.declared.cert.line.Line.{Line}
use Rattle.mc_lines.specs.declared.cert.line.Line.TheVariants as line
use Rattle.mc_flow.specs.declared.defs.rules.Def.{Def}
use Rattle.mc_flow.specs.declared.graph.Flow.{Flow}
use Rattle.mc_state.specs.declared.raw_state.RawState.{RawState}
use Rattle.mc_state.specs.RawStates.{state_of}
use Rattle.mc_state.specs.State.{State}
use Rattle.mc_state_io.specs.Text.Text.{Text}
use Rattle.mc_kernel.specs.Branches.{Path, Setting, states_at}
use Rattle.mc_kernel.specs.Certificates.{WrittenHead, IsValidCertificate, AreHeads, states_of}
use Rattle.mc_kernel.specs.Instances.{IsInstance, Reads}
use Rattle.mc_kernel.specs.Reading.Documents.{IsShortChain}
use Rattle.mc_exact.specs.Marks.{Alarm}
use Rattle.mc_follow.specs.Report.Heads.{AreWellFormed, AreWritten, head_in, heads_of, number_at}
use Rattle.mc_follow.specs.Report.Report.{AreAlarmLines, AreHeadLines, IsCertificateReport, IsChainReport, IsHeadLine, count_line, heads_at}

-- a line that is no head writes none
pub not_head : (l : Line) → ((p : PointId) (raw : RawState) → l ≢ line.Head p raw) → head_in l ≡ []
not_head (line.Head p raw) ne = absurd (ne p raw refl)
not_head other ne = refl

same_if : (b : Bool) (n : ℕ) (s : State) (states : List State) → n ≡ length states
    → (if b then suc n else n) ≡ length (if b then s ∷ states else states)
same_if true n s states e = ap suc e
same_if false n s states e = e

-- points and heads are numbered alike
pub numbers_are : (p : PointId) (heads : List WrittenHead) → number_at p (map (λ (h : WrittenHead). h.0) heads) ≡ heads_at p heads
numbers_are p [] = refl
numbers_are p (h ∷ heads) = same_if (nat_eq h.0.0 p.0) (number_at p (map (λ (k : WrittenHead). k.0) heads)) (state_of h.1) (states_at p (states_of heads)) (numbers_are p heads)

map_end : (heads : List WrittenHead) (h : WrittenHead) → map (λ (k : WrittenHead). k.0) (heads ++ h ∷ []) ≡ map (λ (k : WrittenHead). k.0) heads ++ h.0 ∷ []
map_end [] h = refl
map_end (k ∷ heads) h = ap (λ (ps : List PointId). k.0 ∷ ps) (map_end heads h)

-- ---- the heads of a document

pub heads_more : (lines more : List Line) → heads_of (lines ++ more) ≡ heads_of lines ++ heads_of more
heads_more [] more = refl
heads_more (l ∷ lines) more = ap (λ (hs : List WrittenHead). head_in l ++ hs) (heads_more lines more) ∙ sym (append_assoc (head_in l) (heads_of lines) (heads_of more))

no_cut : (cuts : List PointId) → heads_of (map line.Cut cuts) ≡ []
no_cut [] = refl
no_cut (p ∷ cuts) = no_cut cuts

own_heads : (heads : List WrittenHead) → heads_of (map (λ (h : WrittenHead). line.Head h.0 h.1) heads) ≡ heads
own_heads [] = refl
own_heads (h ∷ heads) = ap (λ (hs : List WrittenHead). h ∷ hs) (own_heads heads)

no_rule : (flow : Flow) (defs : List Def) (g : Setting) (rules : List Line) (bs stuck : List Path) → Reads flow defs g rules bs stuck → heads_of rules ≡ []
no_rule flow defs g [] bs stuck r = refl
no_rule flow defs g (l ∷ rules) [] stuck r = absurd r
no_rule flow defs g (l ∷ rules) (b ∷ bs) stuck (next, later, one, rest, e) =
    ap (λ (hs : List WrittenHead). hs ++ heads_of rules)
    (not_head l (λ (p : PointId) (raw : RawState). λ (is : l ≡ line.Head p raw). subst (λ (k : Line). IsInstance flow defs g k b next) is one))
    ∙ no_rule flow defs g rules (next ++ bs) later rest

-- nor does one of the rules, with the end
no_more : (flow : Flow) (defs : List Def) (g : Setting) (rules : List Line) (bs stuck : List Path) → Reads flow defs g rules bs stuck
    → heads_of (rules ++ line.End ∷ []) ≡ []
no_more flow defs g rules bs stuck r =
    heads_more rules (line.End ∷ []) ∙ ap (λ (hs : List WrittenHead). hs ++ []) (no_rule flow defs g rules bs stuck r)

-- the heads after cuts, where no line behind them writes one
heads_in : (cuts : List PointId) (heads : List WrittenHead) (more : List Line) → heads_of more ≡ []
    → heads_of (map line.Cut cuts ++ (map (λ (h : WrittenHead). line.Head h.0 h.1) heads ++ more)) ≡ heads
heads_in cuts heads more none =
    heads_more (map line.Cut cuts) (map (λ (h : WrittenHead). line.Head h.0 h.1) heads ++ more)
    ∙ ap (λ (hs : List WrittenHead). hs ++ heads_of (map (λ (h : WrittenHead). line.Head h.0 h.1) heads ++ more)) (no_cut cuts)
    ∙ heads_more (map (λ (h : WrittenHead). line.Head h.0 h.1) heads) more
    ∙ ap (λ (hs : List WrittenHead). hs ++ heads_of more) (own_heads heads)
    ∙ ap (λ (hs : List WrittenHead). heads ++ hs) none
    ∙ append-nil heads

-- the heads of a certificate are those of its lines
pub certificate_heads : (flow : Flow) (defs : List Def) (lines : List Line) (c : IsValidCertificate flow defs lines) → heads_of lines ≡ c.heads
certificate_heads flow defs lines c =
    ap heads_of c.spelled ∙ heads_in c.cuts c.heads (c.rules ++ line.End ∷ []) (no_more flow defs _ c.rules _ [] c.reads)

-- so are those of a chain
pub chain_heads : (flow : Flow) (defs : List Def) (lines : List Line) (stuck : List Path) (c : IsShortChain flow defs lines stuck) → heads_of lines ≡ c.heads
chain_heads flow defs lines stuck c =
    ap heads_of c.spelled ∙ heads_in c.cuts c.heads (line.Pass ∷ (c.rules ++ line.End ∷ [])) (no_more flow defs _ c.rules _ stuck c.pass.reads)

-- the report of a chain without heads
pub headless_report : (flow : Flow) (defs : List Def) (lines : List Line) (stuck : List Path) (alarms : List Alarm) (c : IsShortChain flow defs lines stuck) (told text : Text)
    → heads_of lines ≡ [] → AreAlarmLines flow defs alarms told → text ≡ told ++ count_line (length alarms) → IsChainReport flow defs c.heads alarms text
headless_report flow defs lines stuck alarms c told text none own spelled =
    ([], told, subst (λ (hs : List WrittenHead). AreHeadLines flow defs [] hs []) (sym none ∙ chain_heads flow defs lines stuck c) refl, own, spelled)

-- and their states are well formed
formed : (flow : Flow) (defs : List Def) (cuts : List PointId) (heads : List WrittenHead) → AreHeads flow defs cuts heads → AreWellFormed flow defs heads
formed flow defs cuts [] all = tt
formed flow defs cuts (h ∷ heads) (own, all) = (own.1, formed flow defs cuts heads all)

pub heads_formed : (flow : Flow) (defs : List Def) (lines : List Line) → IsValidCertificate flow defs lines → AreWellFormed flow defs (heads_of lines)
heads_formed flow defs lines c =
    subst (λ (hs : List WrittenHead). AreWellFormed flow defs hs) (sym (certificate_heads flow defs lines c)) (formed flow defs c.cuts c.heads c.heads_are)

-- so are those of one of the lines
formed_first : (flow : Flow) (defs : List Def) (own rest : List WrittenHead) → AreWellFormed flow defs (own ++ rest) → AreWellFormed flow defs own
formed_first flow defs [] rest all = tt
formed_first flow defs (h ∷ own) rest (one, all) = (one, formed_first flow defs own rest all)

formed_rest : (flow : Flow) (defs : List Def) (own rest : List WrittenHead) → AreWellFormed flow defs (own ++ rest) → AreWellFormed flow defs rest
formed_rest flow defs [] rest all = all
formed_rest flow defs (h ∷ own) rest (one, all) = formed_rest flow defs own rest all

-- the lines of the heads of the first lines are written
pub record UpTo (flow : Flow) (defs : List Def) (lines : List Line) (place : ℕ) (points : List PointId) (text : Text) : Type 0 where
  pub heads : List WrittenHead
  pub written : AreWritten flow defs heads points text
  pub left : heads ++ heads_of (drop place lines) ≡ heads_of lines

next_left : (lines : List Line) (place : ℕ) (own : Line) (heads : List WrittenHead) → place < length lines → own ≡ get_or lines place own
    → heads ++ heads_of (drop place lines) ≡ heads_of lines
    → (heads ++ head_in own) ++ heads_of (drop (place + 1) lines) ≡ heads_of lines
next_left lines place own heads within is left =
    append_assoc heads (head_in own) (heads_of (drop (place + 1) lines))
    ∙ ap (λ (ls : List Line). heads ++ heads_of ls) (sym (drop_more lines place own within ∙ ap (λ (l : Line). l ∷ drop (place + 1) lines) (sym is)))
    ∙ left

module _ (flow : Flow) (defs : List Def) where
  -- a line more after those of heads
  pub one_more : (before heads : List WrittenHead) (h : WrittenHead) (text line : Text) → AreHeadLines flow defs before heads text
      → IsHeadLine flow defs (heads_at h.0 (before ++ heads)) h line → AreHeadLines flow defs before (heads ++ h ∷ []) (text ++ line)
  one_more before [] h text line none is =
      let at : IsHeadLine flow defs (heads_at h.0 before) h line = subst (λ (hs : List WrittenHead). IsHeadLine flow defs (heads_at h.0 hs) h line) (append-nil before) is in
      (line, [], at, refl, ap (λ (t : Text). t ++ line) none ∙ sym (append-nil line))
  one_more before (k ∷ heads) h text line (own, later, is_own, rest, spelled) is =
      let at : IsHeadLine flow defs (heads_at h.0 ((before ++ k ∷ []) ++ heads)) h line =
      subst (λ (hs : List WrittenHead). IsHeadLine flow defs (heads_at h.0 hs) h line) (sym (append_assoc before (k ∷ []) heads)) is in
      (own, later ++ line, is_own, one_more (before ++ k ∷ []) heads h later line rest at, ap (λ (t : Text). t ++ line) spelled ∙ append_assoc own later line)

  pub with_head : (heads : List WrittenHead) (points : List PointId) (text line : Text) (h : WrittenHead) (number : ℕ)
      → AreWritten flow defs heads points text → number ≡ number_at h.0 points → IsHeadLine flow defs number h line
      → AreWritten flow defs (heads ++ h ∷ []) (points ++ h.0 ∷ []) (text ++ line)
  with_head heads points text line h number written is own = record {
    points_are = ap (λ (ps : List PointId). ps ++ h.0 ∷ []) written.points_are ∙ sym (map_end heads h);
    lines_are = one_more [] heads h text line written.lines_are
        (subst (λ (n : ℕ). IsHeadLine flow defs n h line) (is ∙ ap (λ (ps : List PointId). number_at h.0 ps) written.points_are ∙ numbers_are h.0 heads) own);
  }

  pub line_formed : (lines : List Line) (place : ℕ) (own : Line) (points : List PointId) (text : Text) → place < length lines → own ≡ get_or lines place own
      → AreWellFormed flow defs (heads_of lines) → UpTo flow defs lines place points text → AreWellFormed flow defs (head_in own)
  line_formed lines place own points text within is all up =
      formed_first flow defs (head_in own) (heads_of (drop (place + 1) lines))
      (formed_rest flow defs up.heads (head_in own ++ heads_of (drop (place + 1) lines))
      (subst (λ (hs : List WrittenHead). AreWellFormed flow defs hs)
      (sym (next_left lines place own up.heads within is up.left) ∙ append_assoc up.heads (head_in own) (heads_of (drop (place + 1) lines))) all))

  pub next_up : (lines : List Line) (place : ℕ) (own : Line) (points more : List PointId) (text longer : Text) → place < length lines → own ≡ get_or lines place own
      → UpTo flow defs lines place points text
      → ((heads : List WrittenHead) → AreWritten flow defs heads points text → AreWritten flow defs (heads ++ head_in own) more longer)
      → UpTo flow defs lines (place + 1) more longer
  next_up lines place own points more text longer within is up goes = record {
    heads = up.heads ++ head_in own;
    written = goes up.heads up.written;
    left = next_left lines place own up.heads within is up.left;
  }

  pub starts_up : (lines : List Line) → UpTo flow defs lines 0 [] []
  starts_up lines = record { heads = []; written = record { points_are = refl; lines_are = refl }; left = refl }

  -- all lines are read
  pub whole_report : (lines : List Line) (place : ℕ) (points : List PointId) (text : Text) → length lines ≤ place
      → UpTo flow defs lines place points text → (c : IsValidCertificate flow defs lines) → IsCertificateReport flow defs c.heads (text ++ codes "safe\n")
  whole_report lines place points text over up c =
      let none : drop place lines ≡ [] = drop_all place lines over in
      let all : up.heads ≡ c.heads =
      sym (append-nil up.heads) ∙ ap (λ (ls : List Line). up.heads ++ heads_of ls) (sym none) ∙ up.left ∙ certificate_heads flow defs lines c in
      (text, subst (λ (hs : List WrittenHead). AreHeadLines flow defs [] hs text) all up.written.lines_are, refl)
