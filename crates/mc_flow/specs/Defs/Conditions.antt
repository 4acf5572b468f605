-- The conditions that definitions meet.
use Rattle.std.specs.Prelude.{◌≡◌, ◌≢◌, ℕ, zero, suc, ◌+◌, ◌<◌, ℤ, pos, negsuc, ◌≤ℤ◌, true, false, ◌⊎◌, Option, Some, None, List, [], ◌∷◌, map, take, drop, length, slice_get, option_map, All}
use Rattle.mc_base.specs.declared.ids.StructId.{StructId}
use Rattle.mc_base.specs.declared.plain.Kind.{Kind}
use Rattle.mc_base.specs.declared.plain.Kind.TheVariants.{Int, Ptr}
use Rattle.mc_flow.specs.declared.defs.rules.Call.{Call}
use Rattle.mc_flow.specs.declared.defs.rules.Def.{Def}
use Rattle.mc_flow.specs.declared.defs.rules.Rule.{Rule}
use Rattle.mc_flow.specs.declared.defs.rules.DefAtom.{DefAtom}
use Rattle.mc_flow.specs.declared.defs.rules.DefAtom.TheVariants.{Eq, Ne, In}
use Rattle.mc_flow.specs.declared.defs.shapes.StructInfo.{StructInfo}

-- so many numbers from one on
abbrev pub numbers_from : ℕ → ℕ → List ℕ
numbers_from first zero = []
numbers_from first (suc count) = first ∷ numbers_from (suc first) count

-- the kinds of the fields of a rule's block; without a block there are none
abbrev pub kinds_of : List StructInfo → Option StructId → Option (List Kind)
kinds_of structs None = Some []
kinds_of structs (Some shape) = option_map (λ info. map (λ field. field.kind) info.fields) (slice_get structs shape.0)

-- a number that may be written in a definition, with or without a sign
abbrev pub IsNumber : ℤ → Type 0
IsNumber z = (negsuc 2147483646 ≤ℤ z) × (z ≤ℤ pos 2147483647)

-- the name is one of the first so many, and has the kind
abbrev pub IsKnown : List Kind → ℕ → Kind → ℕ → Type 0
IsKnown names known kind name = (name < known) × (slice_get names name ≡ Some kind)

-- a sum of the kind: zero or a known name, and an offset, which pointers do not have
abbrev pub BaseFits : List Kind → ℕ → Kind → Option ℕ → Type 0
BaseFits names known kind None = Unit {0}
BaseFits names known kind (Some name) = IsKnown names known kind name

abbrev pub OffsetFits : Kind → ℤ → Type 0
OffsetFits Int add = IsNumber add
OffsetFits Ptr add = add ≡ pos 0

abbrev pub SumFits : List Kind → ℕ → Kind → Option ℕ → ℤ → Type 0
SumFits names known kind base add = BaseFits names known kind base × OffsetFits kind add

-- `x <= number` or `x >= number`: the other bound is the kind's end
abbrev pub BoundsFit : ℤ → ℤ → Type 0
BoundsFit lo hi = ((lo ≡ negsuc 2147483647) × IsNumber hi) ⊎ (IsNumber lo × (hi ≡ pos 2147483647))

-- a known name, and a sum of its kind
abbrev pub SidesFit : List Kind → ℕ → ℕ → Option ℕ → ℤ → Type 0
SidesFit names known left base add = (kind : Kind) × IsKnown names known kind left × SumFits names known kind base add

-- the next name, and a sum of its kind
abbrev pub FixingFits : List Kind → ℕ → ℕ → Option ℕ → ℤ → Type 0
FixingFits names known left base add = (kind : Kind) × (left ≡ known) × (slice_get names left ≡ Some kind)
    × SumFits names known kind base add

-- an atom speaks of names that are known by then, or fixes the next one
abbrev pub AtomFits : List Kind → ℕ → DefAtom → Type 0
AtomFits names known (Eq left base add true) = FixingFits names known left base add
AtomFits names known (Eq left base add false) = SidesFit names known left base add
AtomFits names known (Ne left base add) = SidesFit names known left base add
AtomFits names known (In left lo hi) = IsKnown names known Int left × BoundsFit lo hi

-- how many names are known after an atom
abbrev pub known_after : ℕ → DefAtom → ℕ
known_after known (Eq left base add true) = suc known
known_after known (Eq left base add false) = known
known_after known (Ne left base add) = known
known_after known (In left lo hi) = known

-- each atom fits where it stands, and in the end every name is known
abbrev pub AtomsFit : List Kind → ℕ → List DefAtom → Type 0
AtomsFit names known [] = known ≡ length names
AtomsFit names known (atom ∷ atoms) = AtomFits names known atom × AtomsFit names (known_after known atom) atoms

-- one name for each parameter, of its kind
abbrev pub ArgsFit : List Kind → List ℕ → List Kind → Type 0
ArgsFit names args params = map (slice_get names) args ≡ map Some params

-- a call names a predicate of the list, at a pointer, with arguments of the parameters' kinds
pub record CallFits (defs : List Def) (names : List Kind) (call : Call) : Type 0 where
  pub def : Def
  pub defined : slice_get defs call.pred.0 ≡ Some def
  pub pointer : slice_get names call.at ≡ Some Ptr
  pub args : ArgsFit names call.args def.params

-- the kinds of the contents, which are the names after `this` and the parameters
abbrev pub content_kinds : List Kind → Rule → List Kind
content_kinds params rule = take (length rule.contents) (drop (suc (length params)) rule.names)

-- the names of a rule are `this`, the parameters, the contents, and those that the rule fixes
pub record HasNames (params : List Kind) (rule : Rule) : Type 0 where
  pub front : take (suc (length params)) rule.names ≡ Ptr ∷ params
  pub contents : rule.contents ≡ numbers_from (suc (length params)) (length rule.contents)
  pub atoms : AtomsFit rule.names (suc (length params) + length rule.contents) rule.atoms

-- a rule of a definition with these parameters
pub record RuleFits (defs : List Def) (params : List Kind) (rule : Rule) : Type 0 where
  pub names : HasNames params rule
  pub guarded : rule.block ≡ None → rule.calls ≡ []
  pub calls : All (CallFits defs rule.names) rule.calls

-- and the contents have the kinds of the fields of the block's struct
pub record RuleFitsStructs (structs : List StructInfo) (defs : List Def) (params : List Kind) (rule : Rule) : Type 0 where
  pub block : kinds_of structs rule.block ≡ Some (content_kinds params rule)
  pub fits : RuleFits defs params rule

-- a definition has rules, and each of them fits
pub record DefFits (structs : List StructInfo) (defs : List Def) (def : Def) : Type 0 where
  pub some : def.rules ≢ []
  pub rules : All (RuleFitsStructs structs defs def.params) def.rules

-- the definitions fit these structs
abbrev pub DefsFit : List StructInfo → List Def → Type 0
DefsFit structs defs = All (DefFits structs defs) defs

-- the definitions fit some structs
abbrev pub IsDefs : List Def → Type 0
IsDefs defs = (structs : List StructInfo) × DefsFit structs defs

-- ---- the same without structs
-- two rules with blocks of one struct have contents of the same kinds
abbrev pub Agree : List Kind → Rule → List Kind → Rule → Type 0
Agree params rule params' rule' =
    (shape : StructId) → rule.block ≡ Some shape → rule'.block ≡ Some shape → content_kinds params rule ≡ content_kinds params' rule'

-- a rule fits, has no contents without a block, and agrees with every rule of the definitions
pub record RuleFitsAlone (defs : List Def) (params : List Kind) (rule : Rule) : Type 0 where
  pub fits : RuleFits defs params rule
  pub bare : rule.block ≡ None → rule.contents ≡ []
  pub agrees : All (λ def. All (λ other. Agree params rule def.params other) def.rules) defs

-- a definition has rules, and each of them fits so
pub record DefFitsAlone (defs : List Def) (def : Def) : Type 0 where
  pub some : def.rules ≢ []
  pub rules : All (RuleFitsAlone defs def.params) def.rules
