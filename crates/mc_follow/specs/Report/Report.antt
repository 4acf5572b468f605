-- What a report says.
use Rattle.std.specs.Prelude.{◌≡◌, ◌++◌, ◌∷◌, ℕ, true, false, List, [], Option, Some, None, codes, flat_map, length, option_map, option_and_then, slice_get, unwrap_or}
use Rattle.std.specs.Fmt.{decimal}
use Rattle.mc_base.specs.declared.ids.PointId.{PointId}
use Rattle.mc_base.specs.declared.ids.StructId.{StructId}
use Rattle.mc_base.specs.Text.Places.{place_text}
use Rattle.mc_flow.specs.declared.defs.rules.Def.{Def}
use Rattle.mc_flow.specs.declared.defs.shapes.StructInfo.{StructInfo}
use Rattle.mc_flow.specs.declared.graph.Flow.{Flow}
use Rattle.mc_flow.specs.declared.instr.Instr.{Instr}
use Rattle.mc_flow.specs.declared.instr.Instr.TheVariants.{Load}
use Rattle.mc_state.specs.RawStates.{state_of}
use Rattle.mc_state.specs.State.{State}
use Rattle.mc_state_io.specs.Text.Text.{Text, IsTextOf, node_text, pred_text, var_text}
use Rattle.mc_rules_steps.specs.declared.gap.Gap.{Gap}
use Rattle.mc_rules_steps.specs.declared.gap.Gap.TheVariants.{Uninit, NoBlock, Reached, NoShape, UninitField, NotEmpty}
use Rattle.mc_rules_steps.specs.Operands.{code_at}
use Rattle.mc_rules_steps.specs.Unmet.{IsUnmet}
use Rattle.mc_kernel.specs.Branches.{states_at}
use Rattle.mc_kernel.specs.Certificates.{WrittenHead, states_of}
use Rattle.mc_exact.specs.Marks.{Alarm}
use Rattle.mc_exact.specs.Scripts.{malloc_line}

-- the place of a point's instruction
abbrev pub point_text : Flow → PointId → Text
point_text flow p = unwrap_or (option_map (λ point. place_text point.place) (slice_get flow.points p.0)) []

-- the struct of which an instruction reads a field
abbrev pub read_struct : Option Instr → Option StructId
read_struct (Some (Load x y shape f q)) = Some shape
read_struct other = None

-- the name of a field of a struct
abbrev pub field_name : List StructInfo → Option StructId → ℕ → Text
field_name structs shape f =
    unwrap_or (option_map (λ field. field.name)
    (option_and_then (λ info. slice_get info.fields f) (option_and_then (λ s. slice_get structs s.0) shape))) []

-- what the instruction at a point lacks
abbrev pub gap_text : Flow → List Def → PointId → Gap → Text
gap_text flow defs p (Uninit x) = codes "Uninit " ++ var_text flow.vars x.0
gap_text flow defs p (NoBlock n) = codes "NoBlock " ++ node_text n
gap_text flow defs p Reached = codes "Reached"
gap_text flow defs p (NoShape pred n) = codes "NoShape " ++ pred_text defs pred ++ codes " " ++ node_text n
gap_text flow defs p (UninitField n f) =
    codes "UninitField " ++ node_text n ++ codes " " ++ field_name flow.structs.list (read_struct (code_at flow p)) f
gap_text flow defs p (NotEmpty true) = codes "NotEmpty"
gap_text flow defs p (NotEmpty false) = codes "NotEmpty lost"

-- ---- lines

-- the line of a stuck branch: its place, what its instruction lacks, and its state
abbrev pub alarm_line : Flow → List Def → PointId → Gap → Text → Text
alarm_line flow defs p gap state = codes "alarm at " ++ point_text flow p ++ codes " " ++ gap_text flow defs p gap
    ++ codes ": " ++ state ++ codes "\n"

-- the line is that of a branch at a point and a state: the gap is there, and the text is that of the state
pub record IsAlarmLine (flow : Flow) (defs : List Def) (p : PointId) (s : State) (line : Text) : Type 0 where
  pub gap : Gap
  pub unmet : IsUnmet flow defs p s gap
  pub state : Text
  pub state_is : IsTextOf flow.vars defs flow.structs.list s state
  pub spelled : line ≡ alarm_line flow defs p gap state

-- the lines of a script in which malloc gives these answers, a blank before each; or that there is none
abbrev pub script_text : List ℕ → Text
script_text [] = codes " -"
script_text (n ∷ answers) = flat_map (λ k. codes " " ++ malloc_line k) (n ∷ answers)

-- the line of a mark: the script on which the program faults there
abbrev pub real_line : Option (List ℕ) → Text
real_line None = []
real_line (Some answers) = codes "real:" ++ script_text answers ++ codes "\n"

-- the line of a state of a cut: its place, its number at the cut, and itself
abbrev pub head_line : Flow → PointId → ℕ → Text → Text
head_line flow p number state = codes "at " ++ point_text flow p ++ codes " #" ++ decimal number ++ codes ": " ++ state ++ codes "\n"

-- the line is that of a written head, with this number at its cut
pub record IsHeadLine (flow : Flow) (defs : List Def) (number : ℕ) (h : WrittenHead) (line : Text) : Type 0 where
  pub state : Text
  pub state_is : IsTextOf flow.vars defs flow.structs.list (state_of h.1) state
  pub spelled : line ≡ head_line flow h.0 number state

-- ---- whole reports

-- the text is the lines of these alarms, in order, each with that of its mark
abbrev pub AreAlarmLines : Flow → List Def → List Alarm → Text → Type 0
AreAlarmLines flow defs [] text = text ≡ []
AreAlarmLines flow defs (a ∷ alarms) text =
    (line : Text) × (later : Text) × IsAlarmLine flow defs a.0.point a.0.state line × AreAlarmLines flow defs alarms later
    × (text ≡ (line ++ real_line a.1) ++ later)

-- how many there are
abbrev pub count_line : ℕ → Text
count_line count = codes "alarms: " ++ decimal count ++ codes "\n"

-- how many of some heads are at a point
abbrev pub heads_at : PointId → List WrittenHead → ℕ
heads_at p heads = length (states_at p (states_of heads))

-- the text is the lines of heads that stand after others, each numbered at its cut from 0
abbrev pub AreHeadLines : Flow → List Def → List WrittenHead → List WrittenHead → Text → Type 0
AreHeadLines flow defs before [] text = text ≡ []
AreHeadLines flow defs before (h ∷ heads) text =
    (line : Text) × (later : Text) × IsHeadLine flow defs (heads_at h.0 before) h line
    × AreHeadLines flow defs (before ++ h ∷ []) heads later × (text ≡ line ++ later)

-- the report of a chain with these heads and these alarms
abbrev pub IsChainReport : Flow → List Def → List WrittenHead → List Alarm → Text → Type 0
IsChainReport flow defs heads alarms text =
    (front : Text) × (lines : Text) × AreHeadLines flow defs [] heads front × AreAlarmLines flow defs alarms lines
    × (text ≡ front ++ (lines ++ count_line (length alarms)))

-- the report of a certificate with these heads
abbrev pub IsCertificateReport : Flow → List Def → List WrittenHead → Text → Type 0
IsCertificateReport flow defs heads text = (lines : Text) × AreHeadLines flow defs [] heads lines × (text ≡ lines ++ codes "safe\n")
