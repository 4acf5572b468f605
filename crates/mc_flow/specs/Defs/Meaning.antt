-- What it means that a predicate holds, and that a segment of it holds.
use Rattle.std.specs.Prelude.{◌≡◌, ℕ, zero, suc, ℤ, pos, ◌⊎◌, Option, Some, None, List, ◌∷◌, ◌++◌, map, length, slice_get}
use Rattle.std.specs.List.{AllByRecursion}
use Rattle.mc_base.specs.declared.ids.PredId.{PredId}
use Rattle.mc_base.specs.declared.ids.StructId.{StructId}
use Rattle.mc_flow.specs.Heap.Heap.{Region}
use Rattle.mc_flow.specs.Heap.Parts.{Split, IsEmpty, IsCell, Star, StarAt}
use Rattle.mc_flow.specs.declared.defs.rules.Call.{Call}
use Rattle.mc_flow.specs.declared.defs.rules.Def.{Def}
use Rattle.mc_flow.specs.declared.defs.rules.Rule.{Rule}
use Rattle.mc_flow.specs.Defs.Values.{value_of, IsTrueAtom, InKinds}

-- whether a predicate holds of a value and arguments on a region
abbrev pub Meaning : Type 1
Meaning = PredId → ℤ → List ℤ → Region → Type 0

-- a rule of the predicate, and values for its names that fit the value and the arguments
pub record RuleValues (defs : List Def) (pred : PredId) (value : ℤ) (args : List ℤ) : Type 0 where
  pub def : Def
  pub defined : slice_get defs pred.0 ≡ Some def
  pub rule : Rule
  pub place : ℕ
  pub listed : slice_get def.rules place ≡ Some rule
  -- the value of each name, which lies in the range of its kind: `this`, the parameters, and others
  pub names : List ℤ
  pub kinds : InKinds rule.names names
  pub count : length args ≡ length def.params
  pub others : List ℤ
  pub front : names ≡ value ∷ (args ++ others)
  pub atoms : AllByRecursion (IsTrueAtom names) rule.atoms

-- the region is the rule's block: one address, which is `this`, with every field defined
abbrev pub BlockMeets : Option StructId → List ℕ → List ℤ → Region → Type 0
BlockMeets None contents names region = IsEmpty region
BlockMeets (Some shape) contents names region =
    (at : ℕ) × (value_of names 0 ≡ pos at)
    × IsCell region at (record { shape = shape.0; fields = map (λ name. Some (value_of names name)) contents })

-- the call holds by a meaning
abbrev pub CallMeets : Meaning → List ℤ → Call → Region → Type 0
CallMeets M names call region = M call.pred (value_of names call.at) (map (value_of names) call.args) region

-- the call is of the predicate, and goes on by a meaning of segments
abbrev pub SegCallMeets : (ℤ → List ℤ → Region → Type 0) → PredId → List ℤ → Call → Region → Type 0
SegCallMeets S pred names call region = (call.pred ≡ pred) × S (value_of names call.at) (map (value_of names) call.args) region

-- the region is a rule's block and a part for each of its calls
abbrev pub BodyMeets : Meaning → List Def → PredId → ℤ → List ℤ → Region → Type 0
BodyMeets M defs pred value args region =
    (by : RuleValues defs pred value args) × (block : Region) × (calls : Region) × Split region block calls
    × BlockMeets by.rule.block by.rule.contents by.names block × Star (CallMeets M by.names) by.rule.calls calls

-- the same, but one of the calls of the predicate itself is a segment
abbrev pub SegBodyMeets : Meaning → (ℤ → List ℤ → Region → Type 0) → List Def → PredId → ℤ → List ℤ → Region → Type 0
SegBodyMeets M S defs pred value args region =
    (by : RuleValues defs pred value args) × (block : Region) × (calls : Region) × Split region block calls
    × BlockMeets by.rule.block by.rule.contents by.names block
    × (place : ℕ) × StarAt (CallMeets M by.names) (SegCallMeets S pred by.names) place by.rule.calls calls

-- the predicate holds at this height or a lower one
abbrev pub SatAt : List Def → ℕ → Meaning
SatAt defs zero pred value args region = ⊥
SatAt defs (suc height) pred value args region = BodyMeets (SatAt defs height) defs pred value args region

-- the predicate holds
pub record Sat (defs : List Def) (pred : PredId) (value : ℤ) (args : List ℤ) (region : Region) : Type 0 where
  pub height : ℕ
  pub holds : SatAt defs height pred value args region

-- the predicate holds on some part of the region
abbrev pub HoldsSomewhere : List Def → Meaning
HoldsSomewhere defs pred value args region = (part : Region) × (rest : Region) × Split region part rest × Sat defs pred value args part

-- a segment that is empty ends where it begins
abbrev pub EndsThere : ℤ → List ℤ → ℤ → List ℤ → Region → Type 0
EndsThere end ends value args region = (value ≡ end) × (args ≡ ends) × IsEmpty region

-- a segment to this end holds at this height or a lower one
abbrev pub SegAt : List Def → PredId → ℤ → List ℤ → ℕ → ℤ → List ℤ → Region → Type 0
SegAt defs pred end ends zero value args region = EndsThere end ends value args region
SegAt defs pred end ends (suc height) value args region =
    EndsThere end ends value args region ⊎ SegBodyMeets (Sat defs) (SegAt defs pred end ends height) defs pred value args region

-- a segment of the predicate holds, from a value and arguments to others
pub record Seg (defs : List Def) (pred : PredId) (value : ℤ) (args : List ℤ) (end : ℤ) (ends : List ℤ) (region : Region) : Type 0 where
  pub height : ℕ
  pub holds : SegAt defs pred end ends height value args region
