-- Where a judge of documents stands, and what it has read.
use Rattle.std.specs.Prelude.{◌≡◌, ◌++◌, ℕ, Bool, true, false, List, [], ◌∷◌, length}
use Rattle.mc_flow.specs.declared.defs.rules.Def.{Def}
use Rattle.mc_flow.specs.declared.graph.Flow.{Flow}
use Rattle.mc_joins.specs.Chains.Judges.{Lore}
use Rattle.mc_joins.specs.Chains.Laws.{IsRight}
use Rattle.mc_judge.specs.declared.judge.judge.Judge.{Judge}
use Rattle.mc_judge.specs.declared.judge.stage.Stage.{Stage}
use Rattle.mc_judge.specs.declared.judge.stage.Stage.TheVariants.{Unbegun, Open, Ended, Refused, Spent}
use Rattle.mc_judge.specs.Documents.{Document, IsEnded, StandsFor}
use Rattle.mc_judge.specs.Judge.Cuts.{IsCut}
use Rattle.mc_judge.specs.Judge.Verdicts.{HasEnded, IsReading, IsRefusal}

-- after these lines a judge stands here; where memory was missing nothing is known
abbrev pub IsAt : Lore → Flow → List Def → List (List ℕ) → Stage → Type 0
IsAt k flow defs texts Unbegun = texts ≡ []
IsAt k flow defs texts (Open p) =
    (d : Document) × IsReading k flow defs texts d × (IsEnded d → ⊥) × StandsFor k flow defs d p
IsAt k flow defs texts (Ended verdict) = HasEnded k flow defs texts verdict
IsAt k flow defs texts (Refused cause) = IsRefusal k flow defs texts cause
IsAt k flow defs texts Spent = Unit {0}

-- by one line more a judge that stood here stands there
abbrev pub Leads : Flow → List Def → List ℕ → List (List ℕ) → Stage → Stage → Type 0
Leads flow defs bytes texts old new =
    (k : Lore) → IsRight k flow defs → IsAt k flow defs texts old → IsAt k flow defs (texts ++ bytes ∷ []) new

-- the bytes of the open line are held while they are needed
abbrev pub Holds : Stage → List ℕ → List ℕ → Type 0
Holds Unbegun rest held = held ≡ rest
Holds (Open p) rest held = held ≡ rest
Holds (Ended verdict) rest held = held ≡ rest
Holds (Refused cause) rest held = Unit {0}
Holds Spent rest held = ⊥

-- more bytes may change what is said
abbrev pub needs_more : Stage → Bool
needs_more Unbegun = true
needs_more (Open p) = true
needs_more (Ended verdict) = true
needs_more (Refused cause) = false
needs_more Spent = false

-- the judge is one of the same flow graph and definitions
abbrev pub StaysFor : (old new : Judge) → Type 0
StaysFor old new = (new.flow.now ≡ old.flow.now) × (new.defs.now ≡ old.defs.now)

-- the judge has read the text: its whole lines are judged, and the open one is held
pub record HasHeard (k : Lore) (text : List ℕ) (judge : Judge) : Type 0 where
  pub texts : List (List ℕ)
  pub rest : List ℕ
  pub cut : IsCut text texts rest
  pub stands : IsAt k judge.flow.now judge.defs.now texts judge.stage
  pub counted : judge.lines ≡ length texts
  pub held : Holds judge.stage rest judge.open.items

-- whatever the judge had read, it has read these bytes after it
abbrev pub Hears : List ℕ → (old new : Judge) → Type 0
Hears piece old new =
    (k : Lore) (text : List ℕ)
    → IsRight k old.flow.now old.defs.now → HasHeard k text old → HasHeard k (text ++ piece) new
