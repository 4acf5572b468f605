-- Which flow graph a program with its definitions has.
use Rattle.std.specs.Prelude.{◌≡◌, ◌<◌, ℕ, List, length}
use Rattle.mc_c_syntax.specs.Ast.Trees.{UnitTree}
use Rattle.mc_flow.specs.declared.defs.rules.Def.{Def}
use Rattle.mc_flow.specs.declared.graph.Flow.{Flow}
use Rattle.mc_lower_spec.specs.Graphs.{Graph}
use Rattle.mc_lower_spec.specs.Lowering.{IsLowering}
use Rattle.mc_semantics.specs.Resolved.Programs.{Function}
use Rattle.mc_semantics.specs.Resolved.Resolving.{resolved_program}
use Rattle.mc_c_types.specs.Tables.{struct_infos, tables_of}

-- this is a flow graph of the program with its definitions
pub record IsGraphOf (start : List ℕ) (unit : UnitTree) (defs : List Def) (flow : Flow) : Type 0 where
  pub graph : Graph
  pub program : graph.program ≡ resolved_program (tables_of unit) defs start
  pub is_its : graph.flow ≡ flow
  pub structs : graph.flow.structs.list ≡ struct_infos unit
  pub function : Function
  pub out : ℕ
  pub count : ℕ
  pub lowered : IsLowering graph function out count

-- the program has a flow graph, and it has more than 10,000 points
abbrev pub IsLong : (start : List ℕ) → UnitTree → List Def → Type 0
IsLong start unit defs = (flow : Flow) × IsGraphOf start unit defs flow × (10000 < length flow.points)
