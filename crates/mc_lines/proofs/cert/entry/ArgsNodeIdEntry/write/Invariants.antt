use Rattle.std.proofs.Common.{◌≡◌, map, take}
use Rattle.serde_json.specs.View.{view}
use Rattle.mc_lines.specs.Cert.Entries.{node_data}
use Rattle.mc_lines.proofs.cert.entry.ArgsNodeIdEntry.write.Given as goal

abbrev pub invariant-loop-node : goal.invariant-loop-node
invariant-loop-node l = map view l.values.items ≡ map node_data (take l.node-index l.nodes)
