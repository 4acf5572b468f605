-- Legal chains, and what is said of them.
use Rattle.std.specs.Prelude.{◌≡◌, ◌<◌, ℕ, suc, Bool, true, false, List, [], ◌∷◌, ◌++◌, length, map, flat_map}
use Rattle.std.specs.List.{list_any}
use Rattle.mc_base.specs.declared.ids.PointId.{PointId}
use Rattle.mc_lines.specs.declared.cert.line.Line.{Line}
use Rattle.mc_lines.specs.declared.cert.line.Line.TheVariants as line
use Rattle.mc_lines.specs.declared.cert.line.Line.TheVariants.{Header, Cut, Pass, End, C2, C3}
use Rattle.mc_flow.specs.declared.defs.rules.Def.{Def}
use Rattle.mc_flow.specs.declared.graph.Flow.{Flow}
use Rattle.mc_state.specs.Known.{Test, Tells}
use Rattle.mc_state.specs.declared.line.Form.TheVariants.{Chain}
use Rattle.mc_state.specs.declared.line.Version.TheVariants.{One}
use Rattle.mc_state.specs.Fits.{IsWellMade}
use Rattle.mc_state.specs.State.{State}
use Rattle.mc_kernel.specs.Branches.{Head, Path, Setting, AreCuts, roots}
use Rattle.mc_kernel.specs.Certificates.{AreHeads, AreOrdered, WrittenHead, states_of}
use Rattle.mc_kernel.specs.Instances.{IsInstance, stuck_by}
use Rattle.mc_joins.specs.Parts.{Basis}
use Rattle.mc_joins.specs.Chains.Opened.{OpensState, JoinsState}

-- the line changes the states of a cut
abbrev pub changes : Line → Bool
changes (C2 tries) = true
changes (C3 j steps) = true
changes other = false

-- one of the lines does
abbrev pub changes_some : List Line → Bool
changes_some rules = list_any changes rules

-- a line of a pass at a branch, over the states of cuts as they are at that line; these branches come of it, and the
-- states of cuts are these then
abbrev pub IsPassLine : Flow → Basis → ℕ → Setting → Line → Path → List Path → List Head → Type 0
IsPassLine flow w round g (C2 tries) b next heads = OpensState w g tries b next heads
IsPassLine flow w round g (C3 j steps) b next heads = JoinsState w round flow.thresholds g j steps b next heads
IsPassLine flow w round g line b next heads = IsInstance flow w.defs g line b next × (heads ≡ g.heads)

-- what the lines of a chain are judged by, where the states of cuts are these
abbrev pub over : List PointId → List Head → Setting
over cuts heads = record { form = Chain; cuts = cuts; heads = heads }

-- the lines of a pass, read depth first, end all branches; these branches are stuck, and the states of cuts are
-- changed from the first to the second by its lines, and by them alone
abbrev pub ReadsPass : Flow → Basis → ℕ → List PointId → List Line → List Path → List Path → List Head → List Head
    → Type 0
ReadsPass flow w round cuts [] bs stuck heads after = (bs ≡ []) × (stuck ≡ []) × (after ≡ heads)
ReadsPass flow w round cuts (line ∷ lines) [] stuck heads after = ⊥
ReadsPass flow w round cuts (line ∷ lines) (b ∷ bs) stuck heads after =
    (next : List Path) × (mid : List Head) × (later : List Path)
    × IsPassLine flow w round (over cuts heads) line b next mid
    × ReadsPass flow w round cuts lines (next ++ bs) later mid after × (stuck ≡ stuck_by line b later)

-- passes with numbers from one on, at least one: the roots of each are the entry and the states of cuts as they are
-- when it begins, and each but the last changes those; the stuck branches are those of the last pass
abbrev pub ReadsPasses : Flow → Basis → List PointId → ℕ → List (List Line) → List Path → List Head → List Head → Type 0
ReadsPasses flow w cuts round [] stuck heads after = ⊥
ReadsPasses flow w cuts round (rules ∷ []) stuck heads after = ReadsPass flow w round cuts rules (roots flow heads) stuck heads after
ReadsPasses flow w cuts round (rules ∷ more ∷ passes) stuck heads after =
    (changes_some rules ≡ true) × (own : List Path) × (mid : List Head)
    × ReadsPass flow w round cuts rules (roots flow heads) own heads mid
    × ReadsPasses flow w cuts (suc round) (more ∷ passes) stuck mid after

-- the last pass, of at least one
abbrev pub last_pass : List (List Line) → List Line
last_pass [] = []
last_pass (rules ∷ []) = rules
last_pass (rules ∷ more ∷ passes) = last_pass (more ∷ passes)

-- the tests tell what is entailed in each well-made state
abbrev pub KnowsStates : Flow → List Def → (State → Test) → Type 0
KnowsStates flow defs know = (s : State) → IsWellMade defs flow.vars flow.structs.list s → Tells (know s) s

-- a legal chain, by what is entailed in states: its header, its cuts, its heads in order, its passes, which begin with the states
-- of the heads, and the end
pub record IsLegalChain (know : State → Test) (flow : Flow) (defs : List Def) (lines : List Line) : Type 0 where
  pub cuts : List PointId
  pub written : List WrittenHead
  pub passes : List (List Line)
  pub spelled : lines ≡ Header One Chain
      ∷ (map Cut cuts ++ (map (λ h. line.Head h.0 h.1) written ++ (flat_map (λ rules. Pass ∷ rules) passes ++ End ∷ [])))
  pub cuts_are : AreCuts flow cuts
  pub ordered : AreOrdered written
  pub written_are : AreHeads flow defs cuts written
  pub stuck : List Path
  pub heads : List Head
  pub reads : ReadsPasses flow (record { know = know; defs = defs }) cuts 1 passes stuck (states_of written) heads

-- it is final: its last pass changes no state of a cut
abbrev pub IsFinal : List (List Line) → Type 0
IsFinal passes = changes_some (last_pass passes) ≡ false

-- ---- what is said of chains

-- the document is a final legal chain with so many stuck branches, at least one
abbrev pub HasAlarms : (State → Test) → Flow → List Def → List Line → ℕ → Type 0
HasAlarms know flow defs lines count =
    (c : IsLegalChain know flow defs lines) × IsFinal c.passes × (length c.stuck ≡ count) × (0 < count)

-- it is a final legal chain without one
abbrev pub HasNoAlarm : (State → Test) → Flow → List Def → List Line → Type 0
HasNoAlarm know flow defs lines = (c : IsLegalChain know flow defs lines) × IsFinal c.passes × (c.stuck ≡ [])

-- it is a legal chain that is not final
abbrev pub IsUnfinished : (State → Test) → Flow → List Def → List Line → Type 0
IsUnfinished know flow defs lines = (c : IsLegalChain know flow defs lines) × (changes_some (last_pass c.passes) ≡ true)
