use Rattle.std.proofs.Common.{◌≡◌, drop}
use Rattle.std.specs.Prelude.{find}
use Rattle.mc_state.specs.Known.{Test, Tells}
use Rattle.mc_replay.specs.Named.{is_own}
use Rattle.mc_replay.proofs.naming.first_own.Given as goal

abbrev pub invariant-loop-node : goal.invariant-loop-node
invariant-loop-node l =
    (know : Test) → Tells know l.state → find (is_own know l.state.kinds l.kind l.term) l.nodes ≡ find (is_own know l.state.kinds l.kind l.term) (drop l.node-index l.nodes)
