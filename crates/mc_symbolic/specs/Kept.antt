-- A state as it is kept.
use Rattle.std.specs.List.{AllByRecursion}
use Rattle.mc_state.specs.Graph.Graph.{block_starts}
use Rattle.mc_pure.specs.Pure.{IsWellFormed}
use Rattle.mc_state.specs.State.{State}
use Rattle.mc_state.specs.Fits.{IsBounded}
use Rattle.mc_symbolic.specs.Starts.{HaveSameNodes}
use Rattle.mc_symbolic.specs.declared.state.State.TheInside.{Inside}

-- the state that contracts speak of
abbrev pub seen : Inside → State
seen s =
    record {
      env = s.env;
      kinds = s.pure.kinds;
      graph = s.graph;
      atoms = s.pure.written;
      next = s.next;
      whole = s.whole;
    }

-- numbers are in their bounds, all nodes that are named are there, blocks start where those of the edges do,
-- and the atoms are such as may be written
pub record IsKept (s : Inside) : Type 0 where
  pub bounded : IsBounded (seen s)
  pub starts : HaveSameNodes s.pure.starts (block_starts s.graph.edges)
  pub atoms : AllByRecursion (IsWellFormed s.pure.kinds) s.pure.written
