-- What holds of predicates and segments, at every height and for all arguments.
use Rattle.std.specs.Prelude.{◌≡◌, ℕ, ◌≤◌, ◌⊎◌, ℤ, pos, Some, None, List, map, slice_get}
use Rattle.std.specs.List.{remove}
use Rattle.mc_base.specs.declared.ids.PredId.{PredId}
use Rattle.mc_flow.specs.Heap.Heap.{Region, IsAtAddresses}
use Rattle.mc_flow.specs.Heap.Parts.{Split, IsEmpty, Star}
use Rattle.mc_flow.specs.declared.defs.rules.Call.{Call}
use Rattle.mc_flow.specs.declared.defs.rules.Def.{Def}
use Rattle.mc_flow.specs.Defs.Conditions.{IsDefs}
use Rattle.mc_flow.specs.Defs.Meaning.{RuleValues, BlockMeets, CallMeets, BodyMeets, SegBodyMeets, SatAt, Sat, EndsThere, SegAt, Seg}
use Rattle.mc_flow.specs.Defs.Values.{value_of}

-- what holds at a height holds at a greater one
abbrev pub SatIsMonotone : Type 0
SatIsMonotone =
    (defs : List Def) (low high : ℕ) (pred : PredId) (value : ℤ) (args : List ℤ) (region : Region)
    → low ≤ high → SatAt defs low pred value args region → SatAt defs high pred value args region

-- the same of segments
abbrev pub SegIsMonotone : Type 0
SegIsMonotone =
    (defs : List Def) (low high : ℕ) (pred : PredId) (value : ℤ) (args : List ℤ) (end : ℤ) (ends : List ℤ) (region : Region)
    → low ≤ high → SegAt defs pred end ends low value args region → SegAt defs pred end ends high value args region

-- a predicate holds by the body of one of its rules
abbrev pub SatUnfolds : Type 0
SatUnfolds =
    (defs : List Def) (pred : PredId) (value : ℤ) (args : List ℤ) (region : Region)
    → Sat defs pred value args region → BodyMeets (Sat defs) defs pred value args region

-- the body of a rule makes the predicate
abbrev pub SatFolds : Type 0
SatFolds =
    (defs : List Def) (pred : PredId) (value : ℤ) (args : List ℤ) (region : Region)
    → BodyMeets (Sat defs) defs pred value args region → Sat defs pred value args region

-- a segment is empty, or begins with a rule of which one call is a segment to the same end
abbrev pub SegBegins : Type 0
SegBegins =
    (defs : List Def) (pred : PredId) (value : ℤ) (args : List ℤ) (end : ℤ) (ends : List ℤ) (region : Region)
    → Seg defs pred value args end ends region
    → EndsThere end ends value args region
    ⊎ SegBodyMeets (Sat defs) (λ value' args' region'. Seg defs pred value' args' end ends region') defs pred value args region

-- the body of a rule without one of its calls of the rule's own predicate is a segment to that call
abbrev pub SegOfBody : Type 0
SegOfBody =
    (defs : List Def) (pred : PredId) (value : ℤ) (args : List ℤ) (region block calls : Region)
    (by : RuleValues defs pred value args) (place : ℕ) (call : Call)
    → slice_get by.rule.calls place ≡ Some call → call.pred ≡ pred → Split region block calls
    → BlockMeets by.rule.block by.rule.contents by.names block → Star (CallMeets (Sat defs) by.names) (remove by.rule.calls place) calls
    → Seg defs pred value args (value_of by.names call.at) (map (value_of by.names) call.args) region

-- a segment and, apart from it, the predicate at its end make the predicate at its start
abbrev pub SegThenSat : Type 0
SegThenSat =
    (defs : List Def) (pred : PredId) (value : ℤ) (args : List ℤ) (end : ℤ) (ends : List ℤ) (region left right : Region)
    → Split region left right → Seg defs pred value args end ends left → Sat defs pred end ends right
    → Sat defs pred value args region

-- a segment and, apart from it, a segment from its end make one segment
abbrev pub SegThenSeg : Type 0
SegThenSeg =
    (defs : List Def) (pred : PredId) (value : ℤ) (args : List ℤ) (middle : ℤ) (middles : List ℤ) (end : ℤ)
    (ends : List ℤ) (region left right : Region)
    → Split region left right → Seg defs pred value args middle middles left → Seg defs pred middle middles end ends right
    → Seg defs pred value args end ends region

-- a predicate holds of null only by a rule without a block, and then nothing is allocated
abbrev pub SatOfNull : Type 0
SatOfNull =
    (defs : List Def) (pred : PredId) (args : List ℤ) (region : Region)
    → IsDefs defs → IsAtAddresses region → Sat defs pred (pos 0) args region
    → (by : RuleValues defs pred (pos 0) args) × (by.rule.block ≡ None) × IsEmpty region
