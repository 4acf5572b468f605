-- Labels become points: the flow graph that the code answers.
use Rattle.std.specs.Prelude.{◌≡◌, ℕ, suc, ℤ, List, map, Some, None, Option, filter_map, slice_get, slice_index_or}
use Rattle.mc_base.specs.declared.ids.PointId.{PointId}
use Rattle.mc_flow.specs.declared.defs.rules.Def.{Def}
use Rattle.mc_flow.specs.declared.defs.shapes.Structs.{Structs}
use Rattle.mc_flow.specs.Valid.{IsValid}
use Rattle.mc_semantics.specs.declared.resolved.program.Resolved.{Resolved}
use Rattle.mc_semantics.specs.Resolved.Programs.{Function}
use Rattle.mc_semantics.specs.Resolved.Views.{program_of}
use Rattle.mc_lower_spec.specs.Graphs.{Graph, Owner, Role, plain, head, merge, stop, nowhere, Stage, stage, IsPoint}
use Rattle.mc_lower_spec.specs.Lowering.{AreThresholds, IsLowering, IsTooLong, operands}
use Rattle.mc_flow.specs.declared.instr.Operand.{Operand}
use Rattle.mc_flow.specs.declared.instr.Operand.TheVariants.{Var, Const}
use Rattle.mc_flow.specs.declared.instr.Instr.TheVariants.{End}
use Rattle.std.specs.Prelude.{◌<◌, AllPairs, All, Contains}
use Rattle.mc_lower_spec.specs.Graphs.{point}
use Rattle.mc_lower_laws.specs.Valid.Kinds.{IsWellMade}
use Rattle.mc_lower.specs.declared.builder.Builder.{Builder}
use Rattle.mc_lower.specs.declared.builder.Draft.{Draft}
use Rattle.mc_lower.specs.declared.builder.Label.{Label}
use Rattle.mc_lower.specs.declared.lowering.Lowered.{Lowered}
use Rattle.mc_lower.specs.Worlds.{AllAt, IsMarked, point_in, role_of}

-- the point of a label in a table
abbrev pub point_at : List ℕ → ℕ → ℕ
point_at table l = slice_index_or table l 0

-- different labels of these are different points
abbrev pub AreApart : (ℕ → ℕ) → List Label → Type 0
AreApart at outs =
    (i j : ℕ) (l m : Label) → slice_get outs i ≡ Some l → slice_get outs j ≡ Some m → at l.0 ≡ at m.0 → i ≡ j

-- these are the points of a role, ascending
pub record AreThose (drafts : List Draft) (role : Role) (ps : List PointId) : Type 0 where
  pub ascending : AllPairs (λ p q. p.0 < q.0) ps
  pub all : (n : ℕ) (d : Draft) → slice_get drafts n ≡ Some d → role_of d.role ≡ role → Contains ps (point n)
  pub only : All (λ p. (d : Draft) × (slice_get drafts p.0 ≡ Some d) × (role_of d.role ≡ role)) ps

-- the constants among operands
abbrev pub constant_of : Operand → Option ℤ
constant_of (Var x) = None
constant_of (Const c) = Some c

abbrev pub constants : List Operand → List ℤ
constants os = filter_map constant_of os

-- these are the constants of the operands of points
pub record AreConstants (drafts : List Draft) (cs : List ℤ) : Type 0 where
  pub all : (n : ℕ) (d : Draft) (c : ℤ) → slice_get drafts n ≡ Some d → Contains (operands d.code) (Const c)
      → Contains cs c
  pub only : All (λ c. (n : ℕ) × (d : Draft) × (slice_get drafts n ≡ Some d) × Contains (operands d.code) (Const c)) cs

-- the last point, where the `return` of an occurrence goes
pub data Ends (g : Graph) (out : ℕ) : Stage → Stage → Type 0 where
  ends : {a k : ℕ} → IsPoint g out plain nowhere End → Ends g out (stage out out k) (stage a (suc out) k)

-- labels have points, with which all that is known of them holds
pub record AreSettled (b : Builder) (table : List ℕ) : Type 0 where
  pub marks : AllAt (λ i m. IsMarked (point_at table) m) b.lines.marks.items
  pub apart : AreApart (point_at table) b.lines.outs.items

-- the flow graph, with points in place of labels
pub record IsFinished (b : Builder) (x : Lowered) : Type 0 where
  pub table : List ℕ
  pub settled : AreSettled b table
  pub points : x.flow.points ≡ map (point_in (point_at table)) b.lines.points.items
  pub vars : x.flow.vars ≡ map (λ v. v.info) b.variables.list.items
  pub structs : x.flow.structs ≡ b.structs.now
  pub heads : AreThose b.lines.points.items head x.flow.heads
  pub merges : AreThose b.lines.points.items merge x.flow.merges
  pub stops : AreThose b.lines.points.items stop x.stops
  pub thresholds : AreThresholds x.flow.points x.flow.thresholds

-- with some owners and roles, whatever the definitions of its shapes are, this is the flow graph of a program
abbrev pub IsFlowOf : Resolved → Structs → Lowered → Type 0
IsFlowOf program structs x =
    (defs : List Def)
    → (owners : List Owner) × (roles : List Role) × (entry : Function) × (out : ℕ) × (count : ℕ)
    × IsLowering
    (record { program = program_of program defs; flow = x.flow; owners = owners; roles = roles; stops = x.stops })
    entry out count
    × (x.flow.structs ≡ structs)

-- it is valid with whatever definitions the program is of its kinds with
abbrev pub IsValidFlow : Resolved → Structs → Lowered → Type 0
IsValidFlow program structs x =
    (defs : List Def) → IsWellMade structs (program_of program defs) → IsValid x.flow defs

-- each flow graph of a program has more than 10,000 points
abbrev pub AreTooLong : Resolved → Structs → Type 0
AreTooLong program structs =
    (g : Graph) (defs : List Def) (entry : Function) (out count : ℕ) → g.program ≡ program_of program defs → g.flow.structs ≡ structs
    → IsLowering g entry out count → IsTooLong g
