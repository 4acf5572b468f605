-- Reports in which alarms carry scripts that were found by running.
use Rattle.std.specs.Prelude.{◌≡◌, ◌==◌, ◌++◌, ◌⊎◌, ℕ, List, [], ◌∷◌, All, codes, map, if◌then◌else◌}
use Rattle.mc_base.specs.Text.Places.{place_text}
use Rattle.mc_base.specs.declared.plain.FaultKind.{FaultKind}
use Rattle.mc_base.specs.declared.text.place.Place.{Place}
use Rattle.mc_c_syntax.specs.Ast.Trees.{UnitTree}
use Rattle.mc_flow.specs.declared.defs.rules.Def.{Def}
use Rattle.mc_lines.specs.Cert.Lines.{lines_of}
use Rattle.mc_tries.specs.Found.{FaultsOnScript, IsFound, IsNoBlank}
use Rattle.mc_tries.specs.declared.found.Found.{Found}

-- what is printed for a byte of a script: a blank for a line feed
abbrev pub blank_for : ℕ → ℕ
blank_for b = if b == 10 then 32 else b

-- the lines of a script, parted by blanks, or that there is none
abbrev pub parted : List ℕ → List ℕ
parted [] = codes "-"
parted (b ∷ bytes) = map blank_for (b ∷ bytes)

-- the line of a script
abbrev pub script_line : List ℕ → List ℕ
script_line script = codes "real: " ++ (parted script ++ codes "\n")

-- the line of a report is that of an alarm at this place
abbrev pub IsAlarmAt : (line : List ℕ) → Place → Type 0
IsAlarmAt line place = (rest : List ℕ) × (line ≡ (codes "alarm at " ++ (place_text place ++ codes " ")) ++ rest)

-- the program faults at the place of this alarm, with a script that has no blank
pub record IsRealScript (entry : List ℕ) (unit : UnitTree) (defs : List Def) (line script : List ℕ) : Type 0 where
  pub place : Place
  pub at : IsAlarmAt line place
  pub kind : FaultKind
  pub faults : FaultsOnScript entry unit defs kind place script
  pub no_blank : All IsNoBlank script

-- what stands behind a line of a report: nothing, or the line of a script on which the program faults at the place of this alarm
abbrev pub IsBehind : (entry : List ℕ) → UnitTree → List Def → (line behind : List ℕ) → Type 0
IsBehind entry unit defs line behind =
    (behind ≡ []) ⊎ ((script : List ℕ) × IsRealScript entry unit defs line script × (behind ≡ script_line script))

-- what was added stands behind a line of a report of the program by which these scripts were found, whichever that is
abbrev pub IsAddedBehind : List Found → (line before after : List ℕ) → Type 0
IsAddedBehind found line before after =
    (entry : List ℕ) (unit : UnitTree) (defs : List Def) → All (IsFound entry unit defs) found
    → (behind : List ℕ) × IsBehind entry unit defs line behind × (after ≡ before ++ behind)

-- the text is these lines, each ended by a line feed, and what stands behind each
abbrev pub AreShown : (entry : List ℕ) → UnitTree → List Def → (lines : List (List ℕ)) → (text : List ℕ) → Type 0
AreShown entry unit defs [] text = text ≡ []
AreShown entry unit defs (l ∷ lines) text =
    (behind : List ℕ) × (later : List ℕ) × IsBehind entry unit defs l behind × AreShown entry unit defs lines later
    × (text ≡ (l ++ codes "\n") ++ (behind ++ later))

-- the report as it is printed: as it is, or with lines of scripts behind those of alarms
abbrev pub IsShown : (entry : List ℕ) → UnitTree → List Def → (report text : List ℕ) → Type 0
IsShown entry unit defs report text = (text ≡ report) ⊎ AreShown entry unit defs (lines_of report) text
