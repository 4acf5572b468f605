-- What open branches hold.
use Rattle.std.specs.Prelude.{List}
use Rattle.mc_flow.specs.declared.defs.rules.Def.{Def}
use Rattle.mc_flow.specs.declared.graph.Flow.{Flow}
use Rattle.mc_flow.specs.Valid.{IsValid}
use Rattle.mc_kernel.specs.Branches.{Path}
use Rattle.mc_document.specs.Proof.Stacks.{AreMade}
use Rattle.mc_find_paths.specs.declared.paths.paths.Paths.TheInside.{Inside}

-- a flow graph with its definitions, and branches, the first one first
pub record Open : Type 0 where
  pub flow : Flow
  pub defs : List Def
  pub branches : List Path

abbrev pub seen : Inside → Open
seen p = record { flow = p.flow.now; defs = p.defs.now; branches = p.open }

-- the flow graph is valid, and the states of the branches are well made
pub record IsHeld (p : Inside) : Type 0 where
  pub valid : IsValid p.flow.now p.defs.now
  pub branches : AreMade p.flow.now p.defs.now p.open
