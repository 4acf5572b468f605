-- How a segment ends.
use Rattle.std.specs.Prelude.{◌⊎◌, ℤ, List}
use Rattle.mc_base.specs.declared.ids.PredId.{PredId}
use Rattle.mc_flow.specs.Heap.Heap.{Region}
use Rattle.mc_flow.specs.Heap.Parts.{Split}
use Rattle.mc_flow.specs.declared.defs.rules.Def.{Def}
use Rattle.mc_flow.specs.Defs.Meaning.{Sat, Seg, EndsThere, SegBodyMeets}

-- a segment goes to the start of the body of a rule and, apart from it, there is that body, of which one call of the
-- predicate is the end
abbrev pub EndsWithBody : List Def → PredId → ℤ → List ℤ → ℤ → List ℤ → Region → Type 0
EndsWithBody defs pred stop ends value args region =
    (last : ℤ) × (lasts : List ℤ) × (front : Region) × (back : Region) × Split region front back
    × Seg defs pred value args last lasts front
    × SegBodyMeets (Sat defs) (EndsThere stop ends) defs pred last lasts back

-- a segment, of whatever height, is empty, or ends with the body of a rule of which one call is the segment's end
abbrev pub SegEnds : Type 0
SegEnds =
    (defs : List Def) (pred : PredId) (value : ℤ) (args : List ℤ) (stop : ℤ) (ends : List ℤ) (region : Region)
    → Seg defs pred value args stop ends region
    → EndsThere stop ends value args region ⊎ EndsWithBody defs pred stop ends value args region
