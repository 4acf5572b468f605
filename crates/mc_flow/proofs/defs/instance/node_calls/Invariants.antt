use Rattle.std.proofs.Common.{◌≡◌, map, take}
use Rattle.mc_flow.specs.Defs.Instances.{call_of}
use Rattle.mc_flow.proofs.defs.instance.node_calls.Given as goal

abbrev pub invariant-loop-call : goal.invariant-loop-call
invariant-loop-call l = l.made ≡ map (call_of l.names) (take l.call-index l.calls)
